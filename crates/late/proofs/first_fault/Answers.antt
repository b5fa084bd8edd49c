use native.Mathlib.Omega.{arith}
use Rattle.plan_points.specs.Flat.{cell}
use Rattle.late.proofs.Laws.{first_skip, first_take}
use Rattle.late.proofs.first_fault.Goals as goal
use Rattle.late.proofs.first_fault.Goals.{then-tick-least, else-tick-least}

pub loop-k-preserved : goal.loop-k-preserved
unfolding cell
loop-k-preserved c =
    let h = c.loop-k.invariant in
    elim c.if-tick-least.branch [
      | then-tick-least w ↦ rw w.least-is (first_take h w.row_fault.ensures (omega arith))
      | else-tick-least w ↦ rw w.least-is (first_skip h (omega (arith, w.if-tick-least.false, c.tick.ensures.0)))
    ]
