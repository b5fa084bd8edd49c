use Rattle.reader.proofs.Laws.{edition_is}
use Rattle.reader.proofs.edition_ok.Goals as goal

pub returns : goal.returns
returns c =
    edition_is _ _ c.byte_at-edition.ensures.0
