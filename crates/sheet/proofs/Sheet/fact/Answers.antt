use mathlib.Core.Path.{◌∙◌}
use Rattle.sheet.proofs.Laws.{fact_at}
use Rattle.sheet.proofs.Sheet.fact.Goals as goal

pub returns : goal.returns
returns c =
    (c.byte_in.ensures.0 ∙ fact_at _ _ _, c.byte_in.ensures.1)
