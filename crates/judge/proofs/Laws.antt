-- The steps of the judge: a row's need, a goal, and how the tests add up to an answer.
use Prim.Native.Nat.{ℕ, ◌+◌, ◌≤◌, ◌<◌}
use native.Mathlib.Omega.{arith}
use native.Mathlib.Decide.{dec_lt}
use mathlib.Core.Path.{◌≡◌, sym, ap, subst, ◌∙◌}
use mathlib.Core.Logic.{dite}
use mathlib.Core.Bool.{Bool, true, false}
use mathlib.Core.List.{List}
use Rattle.rules.specs.Sheet.{Sheet, begins, sets, initial, goal, max_facts}
use lib.Dec.{eqb}
use lib.ListN.{get_or, replicate, length-replicate}
use Rattle.rules.specs.RunList.{list_ok, plan_of, max_times, max_instances}
use Rattle.rules.specs.Plan.{IsPlan, gap}
use Rattle.rules.specs.Answer.{Judged.bad_list, Judged.no_plan, Judged.is_plan}
use Rattle.laws.specs.Limits.{most_gap}
use Rattle.laws.specs.Bools.{clash}
use Rattle.laws.specs.Test.{says_of, Says}
use Rattle.sheet.specs.declared.formed.WellFormed.{WellFormed}
use Rattle.sheet.specs.WellFormed.{said_by, formed_by}
use Rattle.reader.specs.Reads.{ReadAs, read_means}
use Rattle.list_reader.specs.View.{Columns}
use Rattle.list_reader.specs.Laws.{plan_count, plan_job}
use Rattle.sorting.specs.Counting.{group_in, key_at, Grouped}
use Rattle.sorting.specs.Rows.{Fits}
use Rattle.plan_points.specs.Flat.{cell, groups, group_of, tick_in, entry_in, type_in, fact_in, never, FaultOf, OwnSetOf, Free, goal_need}
use Rattle.plan_points.specs.Fault.{fault_says}
use Rattle.plan_points.specs.declared.Need.{Need}
use Rattle.instances.specs.Rows.{InstancesOf, EventRows}
use Rattle.instances.specs.Own as own
use Rattle.instances.specs.Own.{AllOwn}
use Rattle.std.specs.Prelude.{Result, Ok, Err}
use Rattle.judge.specs.declared.Refusal.{Refusal}
use Rattle.judge.specs.declared.Refusal.TheVariants as refusal
use Rattle.judge.specs.Points.{need_of, RowHolds, GoalHeld, FewRows, AfterNext, Points}
use Rattle.judge.specs.Verdict.{FormedVerdict, Verdicts, plan_iff}

-- ---- points 2 and 3

-- the need that row x begins, and that ends at tick u
module _ (s : Sheet) (first sorted : List ℕ) (x u : ℕ) where
  pub need_is
      : {a g t v y r : ℕ} {i : Bool}
      → a ≡ entry_in x
      → g ≡ fact_in x
      → t ≡ tick_in x
      → v ≡ u
      → y ≡ gap s
      → i ≡ initial s g
      → FaultOf first sorted (record { entry = a; fact = g; from = t; to = v; gap = y }) i r
      → FaultOf first sorted (need_of s x u) (initial s (fact_in x)) r
  unfolding need_of
  need_is ha hg ht hv hy hi h = rw (ha, ht, hv, hy, hi, hg) at h

  -- by the type of its event
  pub begin_says
      : type_in x ≡ begins
      → (r : ℕ)
      → FaultOf first sorted (need_of s x u) (initial s (fact_in x)) r
      → Says (RowHolds s first sorted x u) (eqb r never)
  unfolding need_of
  begin_says m r h =
      says_of (λ w. record { served = λ z. w; free = λ z. absurd (omega arith) }, λ w. w.served m) (eqb r never)
      (fault_says first sorted (need_of s x u) (initial s (fact_in x)) r (omega arith) h)

  pub set_says
      : {g t : ℕ}
      → g ≡ fact_in x
      → type_in x ≡ sets
      → t ≡ tick_in x
      → (b : Bool)
      → Says (Free first sorted g t) b
      → Says (RowHolds s first sorted x u) b
  set_says p m ht true w = record { served = λ z. absurd (omega arith); free = λ z. rw (← p, ← ht) w }
  set_says p m ht false w = λ h. w (rw (ht, p) (h.free m))

-- the row after the next is what the need that row k begins asks as its own
module _ {s : Sheet} {first sorted rows : List ℕ} {n k : ℕ} (w : FewRows s rows n) (t : Grouped n rows first sorted) (l : k < n)
    (m : type_in (cell rows k) ≡ begins) where
  pub own_set
      : (v : Need) {own : ℕ}
      → v.entry ≡ entry_in (cell rows k)
      → v.fact ≡ fact_in (cell rows k)
      → AfterNext rows n k own
      → OwnSetOf first sorted v own
  unfolding cell group_of max_facts
  own_set v {own} he hf a =
      record {
        stands =
            λ g.
            let here : k + 2 < n = dite (dec_lt (k + 2) n) (λ h. h) (λ h. absurd (omega (arith, g, a.none (omega arith)))) in
            let q = t.same.whole (k + 2) here in
            let row : cell sorted q.0 ≡ own = q.2 ∙ sym (a.some here) in
            let key : key_at sorted q.0 ≡ group_of sets v.fact = ap group_in row ∙ g in (
              q.0,
              omega (arith, t.spans.from q.0 q.1, ap (λ x. get_or first x 0) key),
              omega (arith, t.spans.to q.0 q.1, ap (λ x. get_or first (x + 1) 0) key),
              row,
            );
        only =
            λ r low high e late.
            let key = t.spans.of_group (group_of sets v.fact) r (omega arith) low high in
            let q = t.same.sound r (omega (arith, t.spans.within (group_of sets v.fact + 1) (omega arith))) in
            let o = w.own k q.0 l q.1 m (ap group_in (sym q.2) ∙ key ∙ ap (group_of sets) hf) (ap entry_in (sym q.2) ∙ e ∙ he) in
            let row : cell sorted r ≡ own = q.2 ∙ o.1 ∙ sym (a.some o.0) in
            (ap group_in (sym row) ∙ key, row);
      }

pub other_holds
    : {s : Sheet} {first sorted : List ℕ} {x u n : ℕ}
    → type_in x ≡ n
    → (n ≡ begins → ⊥)
    → (n ≡ sets → ⊥)
    → RowHolds s first sorted x u
other_holds m a b = record { served = λ z. absurd (a (sym m ∙ z)); free = λ z. absurd (b (sym m ∙ z)) }

-- ---- point 4

pub goal_says
    : (s : Sheet) (first sorted : List ℕ) (f : ℕ) {n : Need} {y : ℕ} {i : Bool}
    → goal s f ≡ true
    → n ≡ goal_need f y
    → y ≡ gap s
    → i ≡ initial s f
    → (r : ℕ)
    → FaultOf first sorted n i r
    → Says (GoalHeld s first sorted f) (eqb r never)
unfolding goal_need
goal_says s first sorted f g p e j r h =
    says_of (λ w z. w, λ w. w g) (eqb r never)
    (fault_says first sorted (goal_need f (gap s)) (initial s f) r (omega arith) (rw (p, e, j) at h))

-- a fact that is no goal
pub no_goal : (s : Sheet) (first sorted : List ℕ) (f : ℕ) {b : Bool} → b ≡ goal s f → b ≡ false → GoalHeld s first sorted f
no_goal s first sorted f e n z = absurd (clash z (sym e ∙ n))

pub goal_fact : {n : Need} (f y : ℕ) → n ≡ goal_need f y → n.fact ≡ f
unfolding goal_need
goal_fact f y p = ap (λ (m : Need). m.fact) p

-- it has no set of its own
pub goal_own : (first sorted : List ℕ) {n : Need} (f y : ℕ) → n ≡ goal_need f y → y ≤ most_gap → OwnSetOf first sorted n 0
unfolding goal_need group_of max_facts
goal_own first sorted f y p l =
    rw p (record { stands = λ g. absurd (omega arith); only = λ r low high e late. absurd (omega arith) })

-- ---- what the tests say together

module _ (s : Sheet) (l : List ℕ) (ok : list_ok s l ≡ true) where
  pub plan_says : AllOwn s (plan_of s l) → (b : Bool) → Says (Points s (plan_of s l)) b → Says (IsPlan s (plan_of s l)) b
  plan_says o = says_of (λ q. (plan_iff s l ok).0 (o, q), λ p. ((plan_iff s l ok).1 p).1)

-- ---- the answers

module _ {b : List ℕ} {sheet : WellFormed} (r : ReadAs b sheet) (l rows : List ℕ) where
  pub verdict_form : list_ok (said_by sheet) l ≡ false → Verdicts b l rows (Err refusal.ListForm)
  verdict_form h =
      record {
        judged = bad_list r.formed (subst (λ (s : Sheet). list_ok s l ≡ false) (read_means r) h);
        values = λ z. omega arith;
      }

  -- a well-formed list
  pub verdict_formed
      : list_ok (said_by sheet) l ≡ true → (x : Result ℕ Refusal) → FormedVerdict (said_by sheet) l rows x → Verdicts b l rows x
  verdict_formed h (Err x) (q, d) =
      let ok = subst (λ (s : Sheet). list_ok s l ≡ true) (read_means r) h in
      rw q
      (record {
        judged = no_plan r.formed ok (subst (λ (s : Sheet). IsPlan s (plan_of s l) → ⊥) (read_means r) d);
        values = λ z. omega arith;
      })
  verdict_formed h (Ok n) (p, w) =
      let ok = subst (λ (s : Sheet). list_ok s l ≡ true) (read_means r) h in
      let plan = subst (λ (s : Sheet). IsPlan s (plan_of s l)) (read_means r) p in
      record {
        judged = is_plan r.formed ok plan;
        values =
            record {
              faultless = r.formed;
              ok = ok;
              plan = plan;
              listed = subst (λ (s : Sheet). EventRows s (plan_of s l) rows n) (read_means r) w;
            };
      }

-- ---- columns that are empty, and what the rows of a list give to the tests

pub zeros_columns : Columns (replicate 64 0) (replicate 64 0)
unfolding max_instances
zeros_columns = record { job_room = length-replicate {A = ℕ} 64 0; place_room = length-replicate {A = ℕ} 64 0 }

module _ {sheet : WellFormed} {first jobs places : List ℕ} {count : ℕ} {l : List ℕ} (w : InstancesOf sheet first jobs places count l) where
  pub jobs_are : (i : ℕ) → i < (plan_of (said_by sheet) l).count → cell jobs i ≡ (plan_of (said_by sheet) l).job i
  unfolding cell
  jobs_are i h = w.list.job i (omega (arith, plan_count (said_by sheet) l, w.list.count)) ∙ sym (plan_job (said_by sheet) l i)

  module _ {rows : List ℕ} {n : ℕ} (r : EventRows (said_by sheet) (plan_of (said_by sheet) l) rows n) where
    group_few : (k : ℕ) → k < n → group_in (cell rows k) < groups
    unfolding group_of max_facts
    group_few k h =
        let q = r.sound k h in
        let e = q.1 in
        let has = q.2.has in
        let f = (formed_by sheet).formed in
        omega (arith, has.group, f.kind e has.in_sheet, f.fact e has.in_sheet, sheet.few.facts)

    pub rows_in : own.InRows sheet jobs rows n
    rows_in =
        record {
          room = r.room;
          few = r.few;
          entry =
              λ k h.
              let q = r.sound k h in
              omega (
                arith,
                q.2.has.entry,
                q.2.has.in_plan,
                plan_count (said_by sheet) l,
                w.list.count,
                w.list.few,
                w.list.room.job_room,
              );
          job =
              λ k h.
              let q = r.sound k h in
              let has = q.2.has in
              omega (
                arith,
                (formed_by sheet).formed.job q.1 has.in_sheet,
                has.of_job,
                jobs_are q.0 has.in_plan,
                ap (cell jobs) has.entry,
              );
          groups = group_few;
        }

    pub rows_fit : Fits n rows
    unfolding cell max_times
    rows_fit = record { few = omega (arith, r.few); room = r.room; bytes = group_few }
