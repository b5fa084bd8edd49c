use Rattle.reader.proofs.Laws.{walked_start, Walked-step, walked_end}
use Rattle.reader.proofs.contents_ok.Goals as goal

pub loop-i-init : goal.loop-i-init
loop-i-init c =
    walked_start _ _ _ c.edition_ok.ensures c.byte_at.ensures.0

pub loop-i-preserved : goal.loop-i-preserved
loop-i-preserved c =
    Walked-step _ _ _ _ _ _ c.loop-i.invariant c.loop-i-test.true c.entry_ok-ok.ensures
    c.length_of-start.ensures.0 c.length_of-start.ensures.1

pub returns : goal.returns
returns c =
    walked_end _ _ _ _ c.loop-i.invariant c.loop-i-test.false
