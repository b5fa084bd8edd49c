-- The bounds, pair by pair: the tightest of a pair is met by every instance of its job exactly if each of its rows is.
use Prim.Native.Nat.{ℕ, ◌<◌}
use native.Mathlib.Omega.{arith}
use native.Mathlib.Decide.{dec_lt}
use mathlib.Core.Path.{◌≡◌, ap, sym, ◌∙◌}
use mathlib.Core.Logic.{dite}
use Rattle.rules.specs.Sheet.{Sheet}
use Rattle.rules.specs.RunList.{Plan}
use Rattle.rules.specs.Plan.{Meets}
use Rattle.laws.specs.Formed.{Formed}
use Rattle.laws.specs.Tightest.{tightest_meets, meets_row}
use Rattle.laws.specs.Pairs.{tightest_at, AtPair, PairEnds, row_itself, first_pair, next_pair}
use Rattle.plan_points.specs.Flat.{Every}
use Rattle.instances.specs.Own.{BoundOf, BoundsMet}

-- the tightest of the pair of row k, for every instance of its job
abbrev pub PairOf : Sheet → Plan → ℕ → Type 0
PairOf s p k = (i : ℕ) → i < p.count → (s.event (s.bound k).later).job ≡ p.job i → Meets (tightest_at s k) (p.time i)

-- the rows of the pairs below row k are met
pub record PairsMet (s : Sheet) (p : Plan) (k : ℕ) : Type 0 where
  pub at : AtPair s k
  pub met : Every (BoundOf s p) k

module _ (s : Sheet) (p : Plan) where
  pub pairs_start : PairsMet s p 0
  unfolding Every
  pairs_start = record { at = first_pair s; met = λ r l. absurd (omega arith) }

  pub pairs_step : {k n : ℕ} → PairsMet s p k → PairEnds s k n → PairOf s p k → PairsMet s p n
  unfolding Every
  pairs_step {k} {n} w ends here =
      record {
        at = next_pair s ends w.at;
        met =
            λ r l.
            dite (dec_lt r k) (w.met r)
            (λ g i h o.
            let row = ends.rows r (omega arith) l in
            meets_row s (s.bound k).later (s.bound k).earlier (p.time i) r row
            (here i h (ap (λ e. (s.event e).job) (sym row.later) ∙ o)));
      }

  -- a pair that some instance does not meet
  pub pairs_stop : Formed s → (k : ℕ) → k < s.bounds → (PairOf s p k → ⊥) → BoundsMet s p → ⊥
  unfolding Every
  pairs_stop f k l broken all =
      broken
      (λ i h o.
      (tightest_meets s (s.bound k).later (s.bound k).earlier (p.time i) f k (row_itself s k l)).1
      (λ r row. all r row.in_sheet i h (ap (λ e. (s.event e).job) row.later ∙ o)))
