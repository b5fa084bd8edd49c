use Rattle.rewrite.proofs.Laws.{wrote_short, wrote_sheet}
use Rattle.std.proofs.Common.{rules}
use Rattle.rewrite.proofs.written.Goals as goal

pub returns-then-out-size : goal.returns-then-out-size
returns-then-out-size c =
    wrote_short _ _ _ c.size-size.ensures c.if-out-size.true

pub returns : goal.returns
returns c =
    wrote_sheet _ _ _ c.size-size.ensures (search rules) c.write.ensures
