use Rattle.sheet.proofs.Laws.{bound_is}
use Rattle.sheet.proofs.bound_in.Goals as goal

pub returns : goal.returns
returns c =
    bound_is _ _ c.byte_in.ensures c.byte_in-2.ensures c.signed_in.ensures
    c.signed_in-2.ensures
