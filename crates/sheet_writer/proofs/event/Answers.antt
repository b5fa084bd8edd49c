use Rattle.sheet_writer.proofs.Laws.{event_laid}
use Rattle.sheet_writer.proofs.event.Goals as goal

pub returns : goal.returns
returns c =
    event_laid _ _ c.row-row.ensures
    c.put_byte.ensures
    c.put_byte-2.ensures
    c.put_byte-3.ensures
