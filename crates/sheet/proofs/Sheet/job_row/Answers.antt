use mathlib.Core.Path.{refl}
use mathlib.Core.Logic.{inl, inr}
use Rattle.sheet.proofs.Laws.{row_2, row_1}
use Rattle.sheet.proofs.Sheet.job_row.Goals as goal

pub returns-then-edition-eq-EDITION_2 : goal.returns-then-edition-eq-EDITION_2
returns-then-edition-eq-EDITION_2 c =
    (row_2 c.if-edition-eq-EDITION_2.true, inr refl)

pub returns-else-edition-eq-EDITION_2 : goal.returns-else-edition-eq-EDITION_2
returns-else-edition-eq-EDITION_2 c =
    (row_1 c.if-edition-eq-EDITION_2.false, inl refl)
