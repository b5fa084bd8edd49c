use mathlib.Core.Path.{◌∙◌}
use Rattle.sheet.proofs.Laws.{mark_at}
use Rattle.sheet.proofs.Sheet.mark.Goals as goal

pub returns : goal.returns
returns c =
    (c.byte_in.ensures.0 ∙ mark_at _ _ _, c.byte_in.ensures.1)
