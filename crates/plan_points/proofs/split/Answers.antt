use native.Mathlib.Omega.{arith}
use Rattle.plan_points.specs.Flat.{cell}
use Rattle.laws.specs.Test.{said, denied}
use Rattle.plan_points.proofs.Laws.{splitting_up, splitting_down}
use Rattle.plan_points.proofs.split.Goals as goal

pub loop-low-preserved-then-spaced : goal.loop-low-preserved-then-spaced
unfolding cell
loop-low-preserved-then-spaced c =
    let said-so = said c.spaced.result c.spaced.ensures c.if-spaced.true in
    splitting_up c.requires c.loop-low.invariant
    (omega arith) (omega arith) (omega (arith, c.tick.ensures.0))

pub loop-low-preserved : goal.loop-low-preserved
unfolding cell
loop-low-preserved c =
    let not_so = denied c.spaced.result c.spaced.ensures c.if-spaced.false in
    splitting_down c.requires c.loop-low.invariant
    (omega arith) (omega arith) (λ h. not_so (omega (arith, c.tick.ensures.0)))
