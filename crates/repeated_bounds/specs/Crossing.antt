-- Two rows of a pair that cannot both hold: the job is absent. The planner does not want it, and no list with an instance of the job is a plan.
use Rattle.std.specs.Prelude.{ℕ, ◌<◌, ◌≡◌, refl, ◌↔◌, ◌≢◌, true, List}
use Rattle.std.proofs.Common.{arith, ap, ⊎_elim}
use Rattle.rules.specs.Sheet.{Sheet, sheet_of, sheet_fault, tightest}
use Rattle.rules.specs.RunList.{Plan, list_ok, plan_of}
use Rattle.rules.specs.Plan.{OwnTimes, IsPlan}
use Rattle.rules.specs.Wanted.{RunsAlone, Absent, WantedJob}
use Rattle.rules.specs.Answer.{Judged, bad_sheet, bad_list, no_plan, is_plan}
use Rattle.laws.specs.Bools.{clash}
use Rattle.laws.specs.Formed.{Formed}
use Rattle.laws.specs.Present.{wanted_present}
use Rattle.laws.specs.Tightest.{InPair, low_of_row, high_of_row, low_found, high_found, high_most}

-- rows i and k of the pair (e, d): the low of the one is above the high of the other
pub record Crosses (s : Sheet) (e d : ℕ) : Type 0 where
  pub i : ℕ
  pub k : ℕ
  pub first : InPair s e d i
  pub second : InPair s e d k
  pub apart : (s.bound k).high < (s.bound i).low

-- "two cannot both hold" is "all cannot hold": the tightest low is above the tightest high
module _ (s : Sheet) (f : Formed s) (e d : ℕ) where
  two_then_all : Crosses s e d → (tightest s e d).high < (tightest s e d).low
  two_then_all c = omega (arith, c.apart, low_of_row s e d c.i c.first, high_of_row s e d c.k c.second)

  all_then_two : (tightest s e d).high < (tightest s e d).low → Crosses s e d
  all_then_two h =
      ⊎_elim
      (λ z. absurd (omega arith))
      (λ (i, p, x).
      ⊎_elim
      (λ z. absurd (omega (arith, (f.bound i p.in_sheet).ordered, (high_most (f.bound i p.in_sheet)).1)))
      (λ (k, q, y). record { i = i; k = k; first = p; second = q; apart = omega arith })
      (high_found s e d))
      (low_found s e d)

  pub crosses_tightest : Crosses s e d ↔ ((tightest s e d).high < (tightest s e d).low)
  crosses_tightest = (two_then_all, all_then_two)

-- ---- the job of the pair

module _ (s : Sheet) {e d : ℕ} (c : Crosses s e d) where
  no_times : (t : ℕ → ℕ) → OwnTimes s (s.event e).job t → ⊥
  no_times t o =
      let of_job : (i : ℕ) → InPair s e d i → (s.event (s.bound i).later).job ≡ (s.event e).job =
      λ i r. ap (λ x. (s.event x).job) r.later in
      let m = o.bounds c.i c.first.in_sheet (of_job c.i c.first) in
      let n = o.bounds c.k c.second.in_sheet (of_job c.k c.second) in
      omega (
        arith,
        m.low,
        n.high,
        c.apart,
        ap t c.first.later,
        ap t c.first.earlier,
        ap t c.second.later,
        ap t c.second.earlier,
      )

  pub crossing : Absent s (s.event e).job
  unfolding Absent RunsAlone
  crossing (t, o) = no_times t o

  -- so the planner leaves it out
  pub crossing_unwanted : WantedJob s (s.event e).job → ⊥
  unfolding Absent
  crossing_unwanted w = crossing (wanted_present w)

  pub crossing_nowhere : (p : Plan) → IsPlan s p → (i : ℕ) → i < p.count → p.job i ≢ (s.event e).job
  crossing_nowhere p is i l q = no_times (p.time i) (rw q at (is.own i l))

-- ---- the answers

module _ (b : List ℕ) (fine : sheet_fault b ≡ 0) {e d : ℕ} (c : Crosses (sheet_of b) e d) where
  abbrev s : Sheet
  s = sheet_of b

  -- the judge: 41 for every well-formed list with an instance of the job
  pub crossing_judged
      : {l : List ℕ} {n k : ℕ}
      → list_ok s l ≡ true
      → (i : ℕ)
      → i < (plan_of s l).count
      → (plan_of s l).job i ≡ (s.event e).job
      → Judged b l n k
      → (n ≡ 41) × (k ≡ 0)
  crossing_judged ok i x y (bad_sheet h) = absurd (h fine)
  crossing_judged ok i x y (bad_list h z) = absurd (clash ok z)
  crossing_judged ok i x y (no_plan h z q) = (refl, refl)
  crossing_judged ok i x y (is_plan h z p) = absurd (crossing_nowhere s c (plan_of s _) p i x y)
