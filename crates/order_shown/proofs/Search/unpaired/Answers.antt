use native.Mathlib.Omega.{arith}
use Rattle.sheet.specs.WellFormed.{formed_by}
use Rattle.order_shown.proofs.GridLaws.{plain_start, plain_step}
use Rattle.order_shown.proofs.Search.unpaired.Goals as goal

pub loop-f-init : goal.loop-f-init
loop-f-init c = plain_start _ _

pub loop-f-preserved : goal.loop-f-preserved
loop-f-preserved c =
    let facts = c.facts-facts.ensures in
    plain_step c.loop-f.invariant
    (omega (arith, c.loop-f-test.true, facts.facts, (formed_by c.args.self.now.basis.sheet).few.facts))
    c.paired.result
    c.paired.ensures.tells
