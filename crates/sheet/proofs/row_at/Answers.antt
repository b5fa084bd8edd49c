use Rattle.sheet.proofs.Laws.{row_is}
use Rattle.sheet.proofs.row_at.Goals as goal

pub returns : goal.returns
returns c =
    row_is _ _ c.byte_at.ensures c.byte_at-2.ensures c.byte_at-3.ensures
