use Rattle.sheet_writer.proofs.Laws.{bound_laid}
use Rattle.sheet_writer.proofs.bound.Goals as goal

pub returns : goal.returns
returns c =
    bound_laid _ _ c.bound-c.ensures
    c.put_byte.ensures
    c.put_byte-2.ensures
    c.put_signed.ensures
    c.put_signed-2.ensures
