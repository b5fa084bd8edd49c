-- How it is computed: "greatest ≤ least over own times" as one comparison of two sums.
use Rattle.std.specs.Prelude.{ℕ, ◌+◌, ◌≤◌, ◌↔◌}
use Rattle.std.proofs.Common.{arith}
use Rattle.rules.specs.Sheet.{Sheet}
use Rattle.rules.specs.Plan.{OwnTimes}
use Rattle.rules.specs.Order.{AtMost}

-- τ has the greatest time(x) − time(y) of job a's own times, which is the least time(y) − time(x)
pub record Greatest (s : Sheet) (a x y : ℕ) (τ : ℕ → ℕ) : Type 0 where
  pub own : OwnTimes s a τ
  pub most : (u : ℕ → ℕ) → OwnTimes s a u → u x + τ y ≤ τ x + u y

-- the greatest x − y of job a, by τ, against the least u − v of job i, by σ
pub at_most
    : {s : Sheet} {a x y i u v : ℕ} {τ σ : ℕ → ℕ}
    → Greatest s a x y τ
    → Greatest s i v u σ
    → (τ x + σ v ≤ σ u + τ y) ↔ AtMost s a x y i u v
unfolding AtMost
at_most {τ = τ} {σ = σ} great small = (
  λ h p q ownP ownQ. omega (arith, great.most p ownP, small.most q ownQ),
  λ all. all τ σ great.own small.own,
)
