-- Point 1, over the rows and the entries, and that both together are point 1 of the plan.
use Rattle.std.specs.Prelude.{ℕ, ◌+◌, ◌≤◌, ◌<◌, ◌≡◌, ◌↔◌, cond, List, Option, ltb, length}
use Rattle.std.proofs.Common.{arith, ◌∙◌, lt-ltb}
use Rattle.std.proofs.Math.Numerals.{add-one}
use Rattle.std.proofs.Math.Path.{refl, sym, ap}
use Rattle.rules.specs.Sheet as rules
use Rattle.rules.specs.Sheet.{begins, ends, max_facts}
use Rattle.rules.specs.RunList.{Plan, max_times}
use Rattle.rules.specs.Plan.{Is, Meets, OwnTimes, earliest, latest}
use Rattle.laws.specs.Formed.{Formed}
use Rattle.laws.specs.Events.{small, end_after, end_of}
use Rattle.laws.specs.Limits.{signed_zero}
use Rattle.sheet.specs.WellFormed.{said_by}
use Rattle.sheet.specs.View.{type_of}
use Rattle.sheet.specs.declared.formed.WellFormed.{WellFormed}
use Rattle.sheet.specs.declared.Pair.{Pair}
use Rattle.sheet.specs.declared.Event.{Event}
use Rattle.list_reader.specs.View.{InBody}
use Rattle.sorting.specs.Counting.{group_in}
use Rattle.plan_points.specs.Flat.{cell, groups, group_of, type_in, fact_in, entry_at, tick_at, Every}
use Rattle.instances.specs.Chain.{EntryLinked, Previous}
use Rattle.instances.specs.Rows.{time_at, RowHas, EventRow, EventRows}
use Rattle.instances.specs.declared.Entries.{Entries}
use Rattle.numbers.specs.Size.{word}

-- ---- the window, and the needs' ends

-- an event with tick t, and u the tick of the next one
pub record TimelyEvent (early late : ℕ) (event : Event) (t u : ℕ) : Type 0 where
  pub not_early : early ≤ t
  pub not_late : t ≤ late
  pub ordered : type_of event ≡ begins → t ≤ u

-- the tick of the row after row k, 0 where there is none
unfoldable pub next_tick : List ℕ → (n k : ℕ) → ℕ
next_tick rows n k = cond (ltb (k + 1) n) (tick_at rows (k + 1)) 0

-- row k; its group's type is the event's
pub record TimelyRow (s : rules.Sheet) (jobs rows : List ℕ) (n k : ℕ) : Type 0 where
  pub not_early : earliest s (cell jobs (entry_at rows k)) ≤ tick_at rows k
  pub not_late : tick_at rows k ≤ latest s (cell jobs (entry_at rows k))
  pub ordered : type_in (cell rows k) ≡ begins → tick_at rows k ≤ next_tick rows n k

abbrev pub TimelyRows : rules.Sheet → (jobs rows : List ℕ) → ℕ → Type 0
TimelyRows s jobs rows n = Every (TimelyRow s jobs rows n) n

-- what a walk through the rows asks
pub record InRows (sheet : WellFormed) (jobs rows : List ℕ) (n : ℕ) : Type 0 where
  pub room : n ≤ length rows
  pub few : n ≤ max_times
  pub entry : (k : ℕ) → k < n → entry_at rows k < length jobs
  pub job : (k : ℕ) → k < n → cell jobs (entry_at rows k) < (said_by sheet).jobs
  pub groups : (k : ℕ) → k < n → group_in (cell rows k) < groups

-- ---- the bounds

-- low ≤ later − earlier ≤ high, of a pair's low and high plus 32,768
pub record MeetsAt (c : Pair) (later earlier : ℕ) : Type 0 where
  pub low : earlier + c.low ≤ later + signed_zero
  pub high : later + signed_zero ≤ earlier + c.high

pub record TicksNear (c : Pair) (later earlier : ℕ) : Type 0 where
  pub low : c.low < word
  pub high : c.high < word
  pub small_later : later < word
  pub small_earlier : earlier < word

-- the tightest of a pair, for every entry of the job
abbrev pub PairMet : Pair → (job first count : ℕ) → (jobs places l : List ℕ) → Type 0
PairMet c job first count jobs places l =
    Every
    (λ i. cell jobs i ≡ job → MeetsAt c (time_at l (cell places i) first c.later) (time_at l (cell places i) first c.earlier))
    count

pub record OnePair (c : Pair) (at : Entries) (count : ℕ) (jobs places : List ℕ) (chain : List (Option ℕ)) (l : List ℕ) : Type 0 where
  pub low : c.low < word
  pub high : c.high < word
  pub linked : EntryLinked jobs count chain
  pub last : Previous jobs at.job count at.last
  pub link_room : count ≤ length chain
  pub place_room : count ≤ length places
  pub later : (i : ℕ) → i < count → cell jobs i ≡ at.job → InBody l (cell places i) at.first c.later
  pub earlier : (i : ℕ) → i < count → cell jobs i ≡ at.job → InBody l (cell places i) at.first c.earlier

-- bound k, for every instance of its job
abbrev pub BoundOf : rules.Sheet → Plan → ℕ → Type 0
BoundOf s p k = (i : ℕ) → i < p.count → (s.event (s.bound k).later).job ≡ p.job i → Meets (s.bound k) (p.time i)

abbrev pub BoundsMet : rules.Sheet → Plan → Type 0
BoundsMet s p = Every (BoundOf s p) s.bounds

-- ---- point 1

abbrev pub AllOwn : rules.Sheet → Plan → Type 0
AllOwn s p = (i : ℕ) → i < p.count → OwnTimes s (p.job i) (p.time i)

pub next_is : (rows : List ℕ) (n k : ℕ) → k + 1 < n → next_tick rows n k ≡ tick_at rows (k + 1)
unfolding next_tick
next_is rows n k l = rw (lt-ltb (k + 1) n l) refl

module _ {s : rules.Sheet} {p : Plan} (f : Formed s) where
  -- a row's group tells its event's type and fact
  pub kind_of : {x i e : ℕ} → RowHas s p x i e → type_in x ≡ (s.event e).kind
  unfolding group_of max_facts
  kind_of {x} {i} {e} r = omega (arith, r.group, f.fact e r.in_sheet, (small s f).facts)

  pub fact_of_lem : {x i e : ℕ} → RowHas s p x i e → fact_in x ≡ (s.event e).fact
  unfolding group_of max_facts
  fact_of_lem {x} {i} {e} r = omega (arith, r.group, f.fact e r.in_sheet, (small s f).facts)

  -- a need's begin is followed by its end
  pub begins_next
      : {rows : List ℕ} {n k i e : ℕ}
      → EventRow s p rows n k i e
      → (s.event e).kind ≡ begins
      → next_tick rows n k ≡ p.time i (e + 1)
  begins_next {rows} {n} {k} {i} {e} r x =
      let y : Is s e (p.job i) begins (s.event e).fact =
      record { in_sheet = r.has.in_sheet; of_job = r.has.of_job; of_kind = x; of_fact = refl } in
      let z : Is s (e + 1) (p.job i) ends (s.event e).fact = rw add-one (end_of s f e _ _ y) in
      let q = r.ahead 1 z.in_sheet z.of_job in
      next_is rows n k q.0 ∙ q.1.tick

module _ {s : rules.Sheet} {p : Plan} (jobs : List ℕ) {rows : List ℕ} {n : ℕ} (f : Formed s) (w : EventRows s p rows n)
    (is_job : (i : ℕ) → i < p.count → cell jobs i ≡ p.job i) where
  own_from : TimelyRows s jobs rows n → BoundsMet s p → AllOwn s p
  unfolding Every
  own_from t m i h =
      record {
        early =
            λ e x y.
            let q = w.whole i e h x y in
            let o = (t q.0 q.1).not_early in
            let z : cell jobs (entry_at rows q.0) ≡ p.job i = ap (cell jobs) q.2.has.entry ∙ is_job i h in
            omega (arith, o, ap (earliest s) z, q.2.has.tick);
        late =
            λ e x y.
            let q = w.whole i e h x y in
            let o = (t q.0 q.1).not_late in
            let z : cell jobs (entry_at rows q.0) ≡ p.job i = ap (cell jobs) q.2.has.entry ∙ is_job i h in
            omega (arith, o, ap (latest s) z, q.2.has.tick);
        bounds = λ k x y. m k x i h y;
        needs =
            λ d e g x y.
            let q = w.whole i d h x.in_sheet x.of_job in
            let kind = kind_of f q.2.has ∙ x.of_kind in
            let o = (t q.0 q.1).ordered kind in
            let z : e ≡ d + 1 = omega (arith, end_after s f d e (p.job i) g x y) in
            omega (arith, o, q.2.has.tick, begins_next f q.2 x.of_kind, ap (p.time i) z);
      }

  own_timely : AllOwn s p → TimelyRows s jobs rows n
  unfolding Every
  own_timely o k h =
      let q = w.sound k h in
      let r = q.2 in
      let own = o q.0 r.has.in_plan in
      let z : cell jobs (entry_at rows k) ≡ p.job q.0 = ap (cell jobs) r.has.entry ∙ is_job q.0 r.has.in_plan in
      record {
        not_early = omega (arith, own.early q.1 r.has.in_sheet r.has.of_job, ap (earliest s) z, r.has.tick);
        not_late = omega (arith, own.late q.1 r.has.in_sheet r.has.of_job, ap (latest s) z, r.has.tick);
        ordered =
            λ x.
            let kind = sym (kind_of f r.has) ∙ x in
            let y : Is s q.1 (p.job q.0) begins (s.event q.1).fact =
            record { in_sheet = r.has.in_sheet; of_job = r.has.of_job; of_kind = kind; of_fact = refl } in
            let u : Is s (q.1 + 1) (p.job q.0) ends (s.event q.1).fact = rw add-one (end_of s f q.1 _ _ y) in
            omega (arith, r.has.tick, begins_next f r kind, own.needs q.1 (q.1 + 1) _ y u);
      }

  pub own_iff : (TimelyRows s jobs rows n × BoundsMet s p) ↔ AllOwn s p
  unfolding Every
  own_iff = (λ q. own_from q.0 q.1, λ o. (own_timely o, λ k h i x y. (o i x).bounds k h y))
