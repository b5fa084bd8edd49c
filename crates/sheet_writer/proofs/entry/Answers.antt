use Rattle.sheet_writer.proofs.Laws.{entry_laid}
use Rattle.sheet_writer.proofs.entry.Goals as goal

pub returns : goal.returns
returns c =
    entry_laid _ _ _ _ _ c.put_byte.ensures
    c.put_byte-2.ensures
    c.put.ensures
    c.put-2.ensures
