use native.Mathlib.Omega.{arith}
use Rattle.plan_points.specs.Flat.{cell}
use Rattle.plan_points.proofs.Laws.{seeking_start, seeking_past, seeking_own, seeking_end}
use Rattle.plan_points.proofs.latest.Goals as goal

pub returns-then-span-r : goal.returns-then-span-r
returns-then-span-r c =
    let p = c.requires.0 in
    seeking_end p (seeking_start p c.split-r.ensures c.last_below-best.ensures) c.if-span-r.true

pub returns-then-need-tick : goal.returns-then-need-tick
unfolding cell
returns-then-need-tick c =
    let p = c.requires.0 in
    seeking_past p (seeking_start p c.split-r.ensures c.last_below-best.ensures) (omega (arith, c.if-span-r.false))
    (omega (arith, c.tick.ensures.0, c.if-need-tick.true))

pub returns : goal.returns
returns c =
    let p = c.requires in
    let w = c.split-r.ensures in
    seeking_own p.0 (seeking_start p.0 w c.last_below-best.ensures) w p.2 c.with_own.ensures
