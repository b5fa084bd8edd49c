use mathlib.Core.Path.{◌∙◌}
use Rattle.sheet.proofs.Laws.{code_at}
use Rattle.sheet.proofs.Sheet.code.Goals as goal

pub returns : goal.returns
returns c =
    (c.two_in.ensures.0 ∙ code_at _ _ _, c.two_in.ensures.1)
