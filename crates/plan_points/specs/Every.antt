-- Loops over all places below a number.
use Rattle.std.specs.Prelude.{ℕ, ◌+◌, ◌≤◌, ◌<◌}
use Rattle.std.proofs.Common.{arith}
use borrow.Author.Count.{below_more}
use Rattle.plan_points.specs.Flat.{Every}

module _ (P : ℕ → Type 0) where
  pub every_start : Every P 0
  unfolding Every
  every_start = λ r h. absurd (omega arith)

  pub every_step : (k : ℕ) → Every P k → P k → Every P (k + 1)
  unfolding Every
  every_step k h p = below_more P k h p

  pub every_stop : (k n : ℕ) → k < n → (P k → ⊥) → Every P n → ⊥
  unfolding Every
  every_stop k n l d h = d (h k l)

  pub every_end : (k n : ℕ) → n ≤ k → Every P k → Every P n
  unfolding Every
  every_end k n l h = λ r m. h r (omega arith)
