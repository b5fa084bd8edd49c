use Rattle.sheet.specs.View.{meaning}
use Rattle.sheet.specs.WellFormed.{said_by}
use Rattle.sheet_writer.proofs.Laws.{contents_laid}
use Rattle.sheet_writer.proofs.contents.Goals as goal

pub returns : goal.returns
unfolding meaning
returns c =
    let a = c.args in
    contents_laid _ (said_by a.sheet.now) _ c.requires.1 _
    c.put_byte.ensures
    c.put_byte-2.ensures
    c.entry.ensures
    c.entry-2.ensures
    c.entry-3.ensures
    c.entry-4.ensures
