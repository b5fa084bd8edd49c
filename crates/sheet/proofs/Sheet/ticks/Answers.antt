use Rattle.sheet.proofs.Laws.{ticks_1, ticks_none, ticks_2}
use Rattle.sheet.proofs.Sheet.ticks.Goals as goal

pub returns-then-edition-ne-EDITION_2 : goal.returns-then-edition-ne-EDITION_2
returns-then-edition-ne-EDITION_2 c =
    ticks_1 _ c.if-edition-ne-EDITION_2.true

pub returns-then-gap-eq0 : goal.returns-then-gap-eq0
returns-then-gap-eq0 c =
    ticks_none _ c.if-edition-ne-EDITION_2.false c.if-gap-eq0.true

pub returns-else-gap-eq0 : goal.returns-else-gap-eq0
returns-else-gap-eq0 c =
    ticks_2 _ c.if-edition-ne-EDITION_2.false c.if-gap-eq0.false
