use native.Mathlib.Omega.{arith}
use mathlib.Core.Path.{◌∙◌}
use Rattle.sheet.proofs.Laws.{release_at, release_none}
use Rattle.sheet.proofs.Sheet.release.Goals as goal

pub returns-then-row-ne-JOB_ROW_2 : goal.returns-then-row-ne-JOB_ROW_2
returns-then-row-ne-JOB_ROW_2 c =
    (release_none _ _ _ c.if-row-ne-JOB_ROW_2.true, omega arith)

pub returns : goal.returns
returns c =
    (c.two_in.ensures.0 ∙ release_at _ _ _ c.if-row-ne-JOB_ROW_2.false, c.two_in.ensures.1)
