use Rattle.reader.specs.Loop.{only_start, only_step, only_broken, only_end}
use Rattle.reader.proofs.codes_rise.Goals as goal

pub loop-j-init : goal.loop-j-init
loop-j-init c =
    only_start _ _

pub returns-then-code-next : goal.returns-then-code-next
returns-then-code-next c =
    only_broken _ _ c.loop-j.invariant c.loop-j-test.true c.code-code.ensures.0 c.if-code-next.true

pub loop-j-preserved : goal.loop-j-preserved
loop-j-preserved c =
    only_step _ _ c.loop-j.invariant c.loop-j-test.true c.code-code.ensures.0 c.if-code-next.false

pub returns : goal.returns
returns c =
    only_end _ _ c.loop-j.invariant c.loop-j-test.false
