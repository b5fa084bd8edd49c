use native.Mathlib.Omega.{arith}
use mathlib.Core.Path.{refl}
use Rattle.plan_points.specs.Flat.{cell}
use Rattle.judge.proofs.after_next.Goals as goal

pub returns-then-k-count : goal.returns-then-k-count
unfolding cell
returns-then-k-count c =
    record { some = λ h. refl; none = λ h. absurd (omega (arith, c.if-k-count.true)) }
