use native.Mathlib.Omega.{arith}
use Rattle.own_times.proofs.Jobs.{raising_start, raising_step, raising_end}
use Rattle.own_times.proofs.least_times.Goals as goal

pub loop-j-init : goal.loop-j-init
loop-j-init c =
    raising_start _ _ c.requires.rules_ask _

pub loop-j-preserved : goal.loop-j-preserved
loop-j-preserved c =
    let p = c.requires in
    raising_step _ _ p.rules_ask _ _ _ _ _ _ c.loop-j.invariant (omega (arith, c.loop-j-test.true, c.args.sheet.now.counted.jobs))
    c.least_of.auto.x
    c.is_ok.ensures.value
    c.least_of.ensures

pub returns : goal.returns
returns c =
    let p = c.requires in
    raising_end _ _ p.rules_ask _ _ _ _ c.loop-j.invariant (omega (arith, c.loop-j-test.false, c.args.sheet.now.counted.jobs))
