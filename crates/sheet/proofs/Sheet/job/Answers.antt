use mathlib.Core.Path.{◌∙◌}
use Rattle.sheet.proofs.Laws.{job_at_lem}
use Rattle.sheet.proofs.Sheet.job.Goals as goal

pub returns : goal.returns
returns c =
    (c.byte_in.ensures.0 ∙ job_at_lem _ _ _, c.byte_in.ensures.1)
