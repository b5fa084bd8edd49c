use Rattle.reader.proofs.Laws.{entry_is}
use Rattle.reader.proofs.entry_ok.Goals as goal

pub returns : goal.returns
returns c =
    entry_is _ _ _ _ _ _ c.requires.1 c.byte_at.ensures.0
    c.byte_at-2.ensures.0 c.two_at.ensures.0
