use Rattle.reader.proofs.Laws.{refused_edition, read_its}
use Rattle.reader.proofs.read_in.Goals as goal

pub returns-then-byte_at-edition : goal.returns-then-byte_at-edition
returns-then-byte_at-edition c =
    (refused_edition _ _ c.byte_at.ensures.0 c.if-byte_at-edition.true, tt)

pub returns : goal.returns
returns c =
    (read_its _ _ c.byte_at.ensures.0 c.if-byte_at-edition.false c.read.result c.read.ensures.0, c.read.ensures.1)
