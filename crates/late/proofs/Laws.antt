-- The steps of trying a delayed list: the first fault row by row, and how the tests add up to an answer.
use Prim.Native.Nat.{ℕ, ◌+◌, ◌*◌, ◌≤◌, ◌<◌}
use native.Mathlib.Omega.{arith}
use mathlib.Core.Path.{◌≡◌, sym, subst}
use mathlib.Core.Logic.{◌⊎◌, inl, inr, dite}
use native.Mathlib.Decide.{dec_lt}
use Rattle.std.proofs.Common.{min}
use Rattle.std.specs.Prelude.{Result, Ok, Err, IfErr}
use mathlib.Core.List.{List}
use lib.ListN.{length, get_or, take}
use mathlib.Core.Bool.{Bool, true, false}
use Rattle.std.specs.Bool.{MatchBool}
use Rattle.std.specs.List.{AllWithin, HoldsAt}
use Rattle.std.proofs.lemmas.List.{get_or-take, length-take-le}
use Rattle.laws.specs.Test.{Says}
use Rattle.rules.specs.Count.{two, None}
use Rattle.rules.specs.Sheet as rules
use Rattle.rules.specs.Sheet.{sheet_of, sets, max_facts, max_horizon}
use Rattle.rules.specs.RunList.{Plan, rank, instances, body_of, plan_of, max_times}
use Rattle.rules.specs.Plan.{IsPlan, gap, latest}
use Rattle.rules.specs.Late.{delayed, delayed_of, Tried, Fault, Late}
use Rattle.laws.specs.Set.{same_or_not}
use Rattle.laws.specs.Formed.{Formed}
use Rattle.laws.specs.Limits.{AllBytes, most_gap}
use Rattle.late_starts.specs.Delays.{ButLate, delayed_but_late}
use Rattle.late_starts.specs.Faults.{fault_event, plan_iff, fault_no_plan}
use Rattle.sheet.specs.WellFormed.{said_by, formed_by}
use Rattle.sheet.specs.declared.formed.WellFormed.{WellFormed}
use Rattle.sorting.specs.Rows.{Fits, Sorted}
use Rattle.sorting.specs.Counting.{group_in}
use Rattle.plan_points.specs.Flat.{cell, Every, groups, group_of, never, tick_in, tick_at}
use Rattle.instances.specs.Rows.{EventRows}
use Rattle.judge.specs.Points.{Early, FewRows, GoalsHeld, few_rows, goals_iff}
use Rattle.delays.specs.Trial.{Barred, Tries}
use Rattle.delays.specs.Delays.{delays_get}
use Rattle.late.specs.declared.Refusal.{Refusal}
use Rattle.late.specs.declared.Refusal.TheVariants.{GoesWrong}
use Rattle.late.specs.Answer.{refusal_detail, Whose}
use Rattle.late.specs.Rows.{RowFaultAt, FirstFault, RowsInTime, Found, Found.holds, Found.fault, Found.no_fault}
use Rattle.late.specs.Faults.{NeedsRise, first_sound, first_least, in_time_iff}

-- ---- the first fault

module _ {s : rules.Sheet} {first sorted rows : List ℕ} {n : ℕ} where
  pub first_start : FirstFault s first sorted rows n 0 never
  first_start = record { some = λ l. absurd (omega arith); least = λ j l. absurd (omega arith) }

  module _ {k r : ℕ} (h : FirstFault s first sorted rows n k r) where
    more : (q : ℕ) → q ≤ r
        → (q ≤ tick_at rows k) ⊎ ((t : ℕ) × (q ≤ t) × RowFaultAt s first sorted rows n k t)
        → (j : ℕ) → j < k + 1
        → (q ≤ tick_at rows j) ⊎ ((t : ℕ) × (q ≤ t) × RowFaultAt s first sorted rows n j t)
    more q l here j m = same_or_not j k (λ z. rw z here) (λ z. lower (h.least j (omega arith)))
      where
        lower : (r ≤ tick_at rows j) ⊎ ((t : ℕ) × (r ≤ t) × RowFaultAt s first sorted rows n j t)
            → (q ≤ tick_at rows j) ⊎ ((t : ℕ) × (q ≤ t) × RowFaultAt s first sorted rows n j t)
        lower (inl x) = inl (omega arith)
        lower (inr (t, x, y)) = inr (t, omega arith, y)

    kept : r < never → (j : ℕ) × (j < k + 1) × RowFaultAt s first sorted rows n j r
    kept l = let q = h.some l in (q.0, omega (arith, q.1), q.2)

    -- a row that lies no earlier
    pub first_skip : r ≤ tick_at rows k → FirstFault s first sorted rows n (k + 1) r
    first_skip l = record { some = kept; least = more r (omega arith) (inl l) }

    -- a row that may go wrong earlier: the lesser of both ticks
    pub first_take : {t q : ℕ} → RowFaultAt s first sorted rows n k t → q ≡ min r t → FirstFault s first sorted rows n (k + 1) q
    first_take {t} {q} f e =
        dite (dec_lt t r)
        (λ l.
        let m : q ≡ t = omega (arith, e) in
        rw m (record { some = λ x. (k, omega arith, f); least = more t (omega arith) (inr (t, omega arith, f)) }))
        (λ l.
        let m : q ≡ r = omega (arith, e) in
        rw m (record { some = kept; least = more r (omega arith) (inr (t, omega arith, f)) }))

-- ---- whether all rows are in time

-- a test of each of the first n rows
pub in_time_says
    : (rows : List ℕ) (n latest : ℕ)
    → n ≤ length rows
    → (r : Bool)
    → MatchBool r (AllWithin (λ x. tick_in x ≤ latest) (take n rows) 0 (length (take n rows)))
    ((k : ℕ) × (k < length (take n rows)) × HoldsAt (λ x. latest < tick_in x) (take n rows) k)
    → Says (RowsInTime rows n latest) r
unfolding Every cell
in_time_says rows n latest l true w =
    let e = length-take-le n rows l in
    λ k h. rw (get_or-take n rows k 0 h) at (w k 0 (omega arith) (omega arith))
in_time_says rows n latest l false w =
    let e = length-take-le n rows l in
    λ z. omega (arith, z w.0 (omega (arith, w.1)), rw (get_or-take n rows w.0 0 (omega (arith, w.1))) at (w.2 0))

-- ---- what the tests say together

module _ {s : rules.Sheet} {p : Plan} {rows first out : List ℕ} {n r : ℕ} (f : Formed s) (w : EventRows s p rows n)
    (t : Sorted n (group_of sets 0) rows first out) (b : ButLate s p) (h : FirstFault s first out rows n n r) where
  rise : NeedsRise s p
  rise i d e g a c = (b.own i a.in_plan).needs d e g a.is c.is

  -- a fault up to H
  pub found_fault : r ≤ s.horizon → s.horizon < never → Found s p 41 r
  unfolding None
  found_fault l m =
      let here = first_sound f w t rise h (omega arith) in
      fault r (fault_no_plan f here)
      (record { below = omega arith; has = here; lower = λ i x y. omega (arith, first_least f w t rise h i y) })

  -- none up to H
  none_found : s.horizon < r → None (Fault s p) (s.horizon + 1)
  unfolding None
  none_found l i x y = omega (arith, first_least f w t rise h i y)

  pub found_none : s.horizon < r → (IsPlan s p → ⊥) → Found s p 41 s.horizon
  found_none l d = no_fault d (none_found l)

  pub not_in_time : (RowsInTime rows n s.horizon → ⊥) → IsPlan s p → ⊥
  not_in_time d q = d ((in_time_iff f w t rise).1 (record { in_time = λ i e x y z. (q.own i x).late e y z }))

  pub not_held : Early s p → (GoalsHeld s first out → ⊥) → IsPlan s p → ⊥
  not_held e d q = d ((goals_iff f w t e).1 q.held)

  pub found_plan : s.horizon < r → RowsInTime rows n s.horizon → Early s p → GoalsHeld s first out → Found s p 0 0
  unfolding latest
  found_plan l x e g =
      let time = (in_time_iff f w t rise).0 x in
      holds
      ((plan_iff f b).1
      (record {
        none =
            λ u y.
            let z = fault_event y in
            omega (arith, first_least f w t rise h u y, time.in_time z.0 z.1 z.2 z.3 z.4, z.5);
        in_time = time;
        held = (goals_iff f w t e).0 g;
      }))

-- the last tick that an event may have is H, which lies below never
pub horizon_of
    : {s : rules.Sheet} {r : ℕ} → ((j : ℕ) → r ≡ latest s j) → Formed s → (r ≡ s.horizon) × (s.horizon < never)
unfolding latest max_horizon
horizon_of h f = (h 0, omega (arith, f.horizon))

-- ---- the delayed list

-- its ticks and a gap lie before the past of every tick
early_late
    : (s : rules.Sheet) (l d : List ℕ)
    → s.gap ≤ most_gap
    → AllBytes l
    → ((i : ℕ) → i < instances l → get_or d i 0 ≤ 600)
    → Early s (delayed (plan_of s l) d)
unfolding delayed plan_of gap two
early_late s l d g h m = record { early = λ k e x. omega (arith, below (body_of s l k + 2 * rank s e), m k x) }
  where
    below : (i : ℕ) → two l i < 65536
    below i = omega (arith, h i, h (i + 1))

-- what the rows of a delayed list give to the tests
module _ {b l d rows : List ℕ} {sheet : WellFormed} {n : ℕ} (x : Tries b l d rows sheet n) where
  abbrev s : rules.Sheet
  s = said_by sheet

  here : EventRows s (delayed_of b l d) rows n
  here = subst (λ (z : rules.Sheet). EventRows z (delayed_of b l d) rows n) (sym x.means) x.listed

  group_few : (k : ℕ) → k < n → group_in (cell rows k) < groups
  unfolding group_of max_facts
  group_few k h =
      let q = here.sound k h in
      let has = q.2.has in
      let f = (formed_by sheet).formed in
      omega (arith, has.group, f.kind q.1 has.in_sheet, f.fact q.1 has.in_sheet, sheet.few.facts)

  pub tries_fit : Fits n rows
  unfolding cell max_times
  tries_fit = record { few = omega (arith, here.few); room = here.room; bytes = group_few }

  pub tries_few : FewRows s rows n
  tries_few = few_rows (formed_by sheet).formed here

  -- and the answer
  pub found_late
      : AllBytes l
      → {m t : ℕ}
      → ((p : Plan) → EventRows s p rows n → Early s p → ButLate s p → Found s p m t)
      → Late b l d m t
  unfolding delayed_of
  found_late k {m} {t} h =
      let means = x.means in
      let g = delays_get d (instances l) x.tried.delays in
      let early = early_late s l d (formed_by sheet).gap k g.1 in
      let late : ButLate (sheet_of b) (delayed_of b l d) = delayed_but_late x.plan d in
      answered x.tried
      (subst (λ (z : rules.Sheet). Found z (delayed_of b l d) m t) means
      (h (delayed_of b l d) here (subst (λ (z : rules.Sheet). Early s (delayed (plan_of z l) d)) means early)
      (subst (λ (z : rules.Sheet). ButLate z (delayed_of b l d)) (sym means) late)))
    where
      answered : {m t : ℕ} → Tried b l d → Found (sheet_of b) (delayed_of b l d) m t → Late b l d m t
      answered y (Found.holds p) = Late.holds y p
      answered y (Found.fault t p q) = Late.fault t y p q
      answered y (Found.no_fault p q) = Late.no_fault y p q

-- ---- the refusals

pub late_refused : {b l d : List ℕ} {n : ℕ} → Barred b l d n → Late b l d n 0
late_refused (Barred.judged n j q) = Late.refused n j q
late_refused (Barred.bad_delays j q) = Late.bad_delays j q

-- a delayed list that goes wrong was tried
pub whose_tried
    : {b l d : List ℕ}
    → Tried b l d
    → (r : Result Unit Refusal)
    → IfErr r (λ x. x ≡ GoesWrong (refusal_detail x))
    → IfErr r (Whose b l d)
whose_tried t (Ok a) h = h
whose_tried {b} {l} {d} t (Err x) h = subst (Whose b l d) (sym h) t
