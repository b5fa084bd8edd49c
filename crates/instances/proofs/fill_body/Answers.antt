use native.Mathlib.Omega.{arith}
use Rattle.plan_points.specs.Flat.{cell}
use Rattle.instances.proofs.Laws.{body_next}
use Rattle.instances.proofs.fill_body.Goals as goal

pub pack-requires : goal.pack-requires
unfolding cell
pack-requires c =
    let p = c.requires in
    let small = p.keys _ c.loop-e.invariant.from c.loop-e-test.true in
    (omega (arith, small, c.from.ensures), c.time-tick.ensures.1, p.entry)

pub loop-e-preserved : goal.loop-e-preserved
unfolding cell
loop-e-preserved c =
    body_next c.requires c.loop-e.invariant c.loop-e-test.true c.from.ensures c.time-tick.ensures.0 c.time-tick.ensures.1 c.pack.ensures
