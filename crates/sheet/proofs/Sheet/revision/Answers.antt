use native.Mathlib.Omega.{arith}
use mathlib.Core.Path.{◌∙◌}
use Rattle.sheet.proofs.Laws.{revision_at_lem, revision_none}
use Rattle.sheet.proofs.Sheet.revision.Goals as goal

pub returns-then-self-ne-JOB_ROW_2 : goal.returns-then-self-ne-JOB_ROW_2
returns-then-self-ne-JOB_ROW_2 c =
    (revision_none _ _ c.if-self-ne-JOB_ROW_2.true, omega arith)

pub returns : goal.returns
returns c =
    (c.two_at.ensures.0 ∙ revision_at_lem _ _ c.if-self-ne-JOB_ROW_2.false, c.two_at.ensures.1)
