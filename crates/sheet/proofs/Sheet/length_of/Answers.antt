use mathlib.Core.Path.{◌∙◌}
use Rattle.sheet.proofs.Laws.{length_at}
use Rattle.sheet.proofs.Sheet.length_of.Goals as goal

pub returns : goal.returns
returns c =
    (c.two_at.ensures.0 ∙ length_at _ _, c.two_at.ensures.1)
