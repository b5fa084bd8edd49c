use native.Mathlib.Omega.{arith}
use Rattle.sheet.proofs.Laws.{head_2, head_1}
use Rattle.sheet.proofs.Sheet.facts_head.Goals as goal

pub returns-then-edition-eq-EDITION_2 : goal.returns-then-edition-eq-EDITION_2
returns-then-edition-eq-EDITION_2 c =
    (head_2 c.if-edition-eq-EDITION_2.true, omega arith)

pub returns-else-edition-eq-EDITION_2 : goal.returns-else-edition-eq-EDITION_2
returns-else-edition-eq-EDITION_2 c =
    (head_1 c.if-edition-eq-EDITION_2.false, omega arith)
