use Rattle.sheet.proofs.Laws.{row_is}
use Rattle.sheet.proofs.row_in.Goals as goal

pub returns : goal.returns
returns c =
    row_is _ _ c.byte_in.ensures c.byte_in-2.ensures c.byte_in-3.ensures
