-- The order of a list's instances does not move the sum.
use Rattle.std.specs.Prelude.{ℕ, ◌≡◌, List}
use Rattle.std.proofs.Common.{◌∙◌}
use Rattle.rules.specs.Sheet.{Sheet}
use Rattle.rules.specs.RunList.{Plan}
use Rattle.rules.specs.Cost.{sum_of}
use Rattle.theory.specs.Why.Same.{SameRun}
use Rattle.laws.specs.Sums.{Reorders, sum_order}
use Rattle.billing.specs.Minutes.{sum_same}
use Rattle.billing.specs.Picked.{charge, picked, picked_sum}

-- as many instances: instance i is the instance π i of p
abbrev pub renamed : Plan → (ℕ → ℕ) → Plan
renamed p π = picked p π p.count

pub order
    : (s : Sheet) (p : Plan) (r : List ℕ) (π ρ : ℕ → ℕ)
    → Reorders π ρ p.count
    → Reorders ρ π p.count
    → sum_of s (renamed p π) r ≡ sum_of s p r
unfolding sum_of
order s p r π ρ to from = picked_sum s p r π p.count ∙ sum_order (charge s p r) π ρ p.count to from

-- so too of any plan that says those instances in another order, as another list's bytes do
pub reordered
    : (s : Sheet) (p q : Plan) (r : List ℕ) (π ρ : ℕ → ℕ)
    → Reorders π ρ p.count
    → Reorders ρ π p.count
    → SameRun s q (renamed p π)
    → sum_of s q r ≡ sum_of s p r
reordered s p q r π ρ to from same = sum_same same r ∙ order s p r π ρ to from
