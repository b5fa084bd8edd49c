use mathlib.Core.Path.{◌∙◌}
use Rattle.sheet.proofs.Laws.{kind_at}
use Rattle.sheet.proofs.Sheet.kind.Goals as goal

pub returns : goal.returns
returns c =
    (c.byte_in.ensures.0 ∙ kind_at _ _ _, c.byte_in.ensures.1)
