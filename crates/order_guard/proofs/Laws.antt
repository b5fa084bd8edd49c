-- One pair: a search among a fact's events, the comparison by the table of widest own times, and one guard.
use Prim.Native.Nat.{ℕ, zero, suc, ◌+◌, ◌*◌, ◌≤◌, ◌<◌}
use native.Mathlib.Omega.{arith}
use mathlib.Core.Path.{◌≡◌, sym, ap, subst, ◌∙◌}
use mathlib.Core.Bool.{Bool, true, false, true≢false}
use mathlib.Core.List.{List}
use Rattle.std.specs.Prelude.{Option, None}
use lib.ListN.{length, get_or}
use borrow.Author.Tests.{leb-true, le-leb}
use Rattle.rules.specs.Sheet as rules
use Rattle.rules.specs.Sheet.{begins, ends, clears}
use Rattle.rules.specs.Plan.{Is}
use Rattle.rules.specs.Wanted.{RunsAlone}
use Rattle.rules.specs.Order.{AtMost}
use Rattle.theory.specs.Computed.Compare as compared
use Rattle.theory.specs.Computed.Compare.{Greatest}
use Rattle.sheet.specs.View.{type_of, fact_of, event_from}
use Rattle.sheet.specs.declared.Event.{Event}
use Rattle.sheet.specs.declared.Event.TheVariants.{Begins, Ends, Sets, Clears}
use Rattle.laws.specs.Formed.{Formed}
use Rattle.laws.specs.Columns.{col}
use Rattle.laws.specs.Events.{one_event, end_of, begin_of}
use Rattle.index.specs.View.{ByFactOf, ByJobOf, IndexOf, events_in}
use Rattle.own_times.specs.Wide.{Filled}
use Rattle.laws.specs.Limits.{most_events}
use Rattle.own_times.specs.Laws.{decoded}
use Rattle.laws.specs.Test.{Says}
use Rattle.laws.specs.Throughout.{Throughout}
use Rattle.order_guard.specs.Pair.{cell_of, mark_of, In, column_type, AsksFind, FindsEvent, at_most, AsksAtMost, GuardBy, Guarded, Hit, Two, AsksHit}
use Rattle.order_guard.specs.Laws.{guarded_by, By, by}

-- ---- a search among the events of a fact

-- column k of the index has the events of its type
side_of
    : {s : rules.Sheet} {c : List (List ℕ)}
    → IndexOf s c
    → (k : ℕ)
    → k ≤ 2
    → ByFactOf s (column_type k) (col c k) (events_in c)
side_of w zero l = w.begins
side_of w (suc zero) l = w.sets
side_of w (suc (suc zero)) l = w.clears
side_of w (suc (suc (suc k))) l = absurd (omega arith)

module _ {s : rules.Sheet} {c : List (List ℕ)} (w : IndexOf s c) {k f job : ℕ} (asks : AsksFind s k f job) where
  side : ByFactOf s (column_type k) (col c k) (events_in c)
  side = side_of w k asks.column

  module _ {from end : ℕ} (isFrom : from ≡ cell_of (col c k) f) (isEnd : end ≡ cell_of (col c k) (f + 1)) where
    -- a place of the fact's events is one of the column of events
    pub find_in : {i : ℕ} → i < end → i < length (events_in c)
    find_in l = omega (arith, side.within (f + 1) (omega (arith, asks.fact)), w.long)

    pub find_is : {i : ℕ} (e : ℕ) → from ≤ i → i < end → e ≡ cell_of (events_in c) i → Is s e (s.event e).job (column_type k) f
    find_is {i} e low high q =
        let is = (side.sound f i asks.fact (omega (arith, low)) (omega (arith, high))).is in
        subst (λ x. Is s x (s.event x).job (column_type k) f) (sym q) is

    pub find_none
        : {n : ℕ}
        → Throughout (λ i. (s.event (cell_of (events_in c) i)).job ≡ job → ⊥) from n
        → end ≤ n
        → FindsEvent s job f (column_type k) None
    find_none none l = λ d is.
        let p = side.whole d job f asks.fact (record { is = is; alone = asks.alone }) in
        none.each p.0 (omega (arith, p.1)) (omega (arith, p.2)) (ap (λ i. (s.event i).job) p.3 ∙ is.of_job)

-- the event is of the job that was asked for
pub is_of : {s : rules.Sheet} {e j i kind f : ℕ} → Is s e j kind f → j ≡ i → Is s e i kind f
is_of {s} {e} {j} {i} {kind} {f} w q = subst (λ k. Is s e k kind f) q w

pub finds_of
    : (s : rules.Sheet) {j i : ℕ} (f kind : ℕ) (r : Option ℕ) → FindsEvent s j f kind r → j ≡ i → FindsEvent s i f kind r
finds_of s f kind r w q = subst (λ k. FindsEvent s k f kind r) q w

-- ---- one guard

pub asks_at_most
    : {s : rules.Sheet} {n m x y u v : ℕ} {table : List ℕ}
    → n ≡ s.events
    → s.events ≤ most_events
    → m ≤ most_events
    → Filled s n m table
    → x < s.events
    → y < s.events
    → u < s.events
    → v < s.events
    → AsksAtMost n m table x y u v
asks_at_most {n = n} {m = m} {table = table} q few stride filled p1 p2 p3 p4 =
    record {
      few = omega arith;
      stride = stride;
      room = subst (λ k. n + m * k + k ≤ length table) (sym q) filled.room;
      x_in = omega arith;
      y_in = omega arith;
      u_in = omega arith;
      v_in = omega arith;
    }

module _ (s : rules.Sheet) (ok : Formed s) (n m : ℕ) (table : List ℕ) (filled : Filled s n m table) where
  greatest
      : (x y : ℕ)
      → x < s.events
      → 0 < get_or table x 0
      → y < s.events
      → (s.event y).job ≡ (s.event x).job
      → Greatest s (s.event x).job x y (λ k. cell_of table (n + m * x + k))
  greatest x y i h l q =
      let w = filled.rows x i h in
      record { own = w.own; most = λ u own. w.widest u own y l q }

  compare
      : (x y u v : ℕ)
      → x < s.events
      → 0 < get_or table x 0
      → v < s.events
      → 0 < get_or table v 0
      → y < s.events
      → (s.event y).job ≡ (s.event x).job
      → u < s.events
      → (s.event u).job ≡ (s.event v).job
      → (r : Bool)
      → r ≡ at_most n m table x y u v
      → Says (AtMost s (s.event x).job x y (s.event v).job u v) r
  unfolding at_most
  compare x y u v inX hasX inV hasV inY ofY inU ofU true h =
      (compared.at_most (greatest x y inX hasX inY ofY) (greatest v u inV hasV inU ofU)).0 (leb-true _ _ (sym h))
  compare x y u v inX hasX inV hasV inY ofY inU ofU false h = λ all.
      let q = le-leb _ _ ((compared.at_most (greatest x y inX hasX inY ofY) (greatest v u inV hasV inU ofU)).1 all) in
      let z : ◌≡◌ {A = ℕ} 0 1 = cc in
      omega arith

  module _ (p row col until at : ℕ) (pair : Two s row col) (needs : Is s until (s.event row).job ends p)
      (clear : Is s at (s.event col).job clears p) (has_at : 0 < get_or table at 0) (has_row : 0 < get_or table row 0)
    where
      compares : (r : Bool) → r ≡ at_most n m table at col until row → Says (AtMost s (s.event at).job at col (s.event row).job until row) r
      compares =
          compare at col until row clear.in_sheet has_at pair.row_of.in_sheet has_row pair.col_of.in_sheet (sym clear.of_job)
          needs.in_sheet needs.of_job

      pub guard_says : (r : Bool) → r ≡ at_most n m table at col until row → Says (GuardBy s p row col) r
      guard_says true h =
          record {
            until = until;
            at = at;
            needs = needs;
            clear = clear;
            wide = subst (λ a. AtMost s a at col (s.event row).job until row) clear.of_job (compares true h);
          }
      guard_says false h = λ g.
          let q1 : g.until ≡ until = one_event s ok _ _ _ _ _ g.needs needs in
          let q2 : g.at ≡ at = one_event s ok _ _ _ _ _ g.clear clear in
          compares false h
          (subst (λ a. AtMost s a at col (s.event row).job until row) (sym clear.of_job)
          (subst (λ u. AtMost s (s.event col).job at col (s.event row).job u row) q1
          (subst (λ x. AtMost s (s.event col).job x col (s.event row).job g.until row) q2 g.wide)))

-- a begin, and its end after it
pub until_is : {s : rules.Sheet} (ok : Formed s) {p j : ℕ} (e : ℕ) → Is s e j begins p → Is s (e + 1) j ends p
until_is {s} ok {p} {j} e w = subst (λ k. Is s k j ends p) (omega arith) (end_of s ok e j p w)

-- no begin, no clear: no guard
pub no_begin
    : {s : rules.Sheet} (ok : Formed s) {p row : ℕ} (col : ℕ) → FindsEvent s (s.event row).job p begins None → GuardBy s p row col → ⊥
no_begin {s} ok {p} col w g = let h = begin_of s ok g.until _ p g.needs in w h.0 h.2

pub no_clear : {s : rules.Sheet} {p col : ℕ} (row : ℕ) → FindsEvent s (s.event col).job p clears None → GuardBy s p row col → ⊥
no_clear row w g = w g.at g.clear

-- ---- a clear of a marked fact

clear_is : {k f : ℕ} (e : Event) → type_of e ≡ k → fact_of e ≡ f → k ≡ clears → e ≡ Clears f
clear_is (Begins x) p q h = absurd (omega arith)
clear_is (Ends x) p q h = absurd (omega arith)
clear_is (Sets x) p q h = absurd (omega arith)
clear_is (Clears x) p q h = ap Clears q

module _ {s : rules.Sheet} (ok : Formed s) {col x : ℕ} (asks : AsksHit s col x) {e : Event}
    (of : e ≡ event_from (s.event x).kind (s.event x).fact)
  where
    kinds : (type_of e ≡ (s.event x).kind) × (fact_of e ≡ (s.event x).fact)
    kinds = decoded e _ _ (ok.kind x asks.in_sheet) of

    pub cleared : {p : ℕ} → e ≡ Clears p → Is s x (s.event col).job clears p
    cleared q =
        record {
          in_sheet = asks.in_sheet;
          of_job = asks.same_job;
          of_kind = sym kinds.0 ∙ ap type_of q;
          of_fact = sym kinds.1 ∙ ap fact_of q;
        }

    pub cleared_in : {p : ℕ} → e ≡ Clears p → p < s.facts
    cleared_in q = omega (arith, (cleared q).of_fact, ok.fact x asks.in_sheet)

    -- an event that is no clear hits nothing
    pub hit_other : (last : List Bool) (row : ℕ) → ((p : ℕ) → e ≡ Clears p → ⊥) → Hit s last row col x → ⊥
    hit_other last row n hit = n (s.event x).fact (clear_is e kinds.0 kinds.1 hit.clear)

module _ (s : rules.Sheet) (m : List Bool) (row col x p : ℕ) (clear : (s.event x).kind ≡ clears) (of : (s.event x).fact ≡ p) where
  pub hit_not : mark_of m p ≡ false → Hit s m row col x → ⊥
  hit_not h hit = true≢false (sym hit.marked ∙ ap (mark_of m) of ∙ h)

  pub hit_unneeded
      : {first event : List ℕ}
      → Formed s
      → ByFactOf s begins first event
      → RunsAlone s (s.event row).job
      → p < s.facts
      → cell_of first (p + 1) ≤ cell_of first p
      → Hit s m row col x
      → ⊥
  hit_unneeded ok side alone inFacts l hit =
      no_begin ok col
      (λ d is. let q = side.whole d _ p inFacts (record { is = is; alone = alone }) in absurd (omega (arith, q.1, q.2, l)))
      (subst (λ f. GuardBy s f row col) of hit.guards)

  pub hit_says : In m p → (r : Bool) → Says (GuardBy s p row col) r → Says (Hit s m row col x) r
  hit_says h true g = record { clear = clear; marked = ap (mark_of m) of ∙ h; guards = subst (λ f. GuardBy s f row col) (sym of) g }
  hit_says h false g = λ hit. g (subst (λ f. GuardBy s f row col) of hit.guards)

-- ---- the guards of a pair

pub hit_guarded : {s : rules.Sheet} {m : List Bool} {row col x : ℕ} → Hit s m row col x → Guarded s m row col
hit_guarded {m = m} h = guarded_by m h.marked h.guards

-- a guard's clear is one of the column's job
by_hit : {s : rules.Sheet} {m : List Bool} {row col : ℕ} (g : By s m row col) → Hit s m row col g.guards.at
by_hit {s} {m} {row} {col} g =
    let q = g.guards.clear.of_fact in
    record {
      clear = g.guards.clear.of_kind;
      marked = ap (mark_of m) q ∙ g.is_marked;
      guards = subst (λ f. GuardBy s f row col) (sym q) g.guards;
    }

-- a search of the column's job
module _ {s : rules.Sheet} (col : ℕ) (span : List ℕ) (spans : ByJobOf s span) (job : ℕ) (of_job : job ≡ (s.event col).job)
    (inJobs : job < s.jobs) (from end : ℕ) (isFrom : from ≡ cell_of span job) (isEnd : end ≡ cell_of span (job + 1))
  where
    in_span : (x : ℕ) → x < end → x < s.events
    in_span x l = omega (arith, spans.within (job + 1) (omega arith))

    same_job_lem : (x : ℕ) → from ≤ x → x < end → (s.event x).job ≡ (s.event col).job
    same_job_lem x l h = spans.of_job x job inJobs (omega arith) (omega arith) ∙ of_job

    pub asks_hit : (x : ℕ) → from ≤ x → x < end → AsksHit s col x
    asks_hit x l h = record { in_sheet = in_span x h; same_job = same_job_lem x l h }

    module _ (m : List Bool) (row : ℕ) where
      pub none_guards
          : (x : ℕ)
          → Throughout (λ k. Hit s m row col k → ⊥) from x
          → end ≤ x
          → Guarded s m row col
          → ⊥
      none_guards x none l g =
          let h = by m g in
          let is = h.guards.clear in
          let e : (s.event h.guards.at).job ≡ job = is.of_job ∙ sym of_job in
          none.each h.guards.at
          (omega (arith, spans.from h.guards.at job is.in_sheet inJobs e))
          (omega (arith, spans.to h.guards.at job is.in_sheet inJobs e))
          (by_hit h)
