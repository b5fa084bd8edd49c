use Rattle.rules.specs.Sheet.{goal}
use mathlib.Core.Path.{refl}
use Rattle.sheet.proofs.Sheet.goal.Goals as goal

pub returns : goal.returns
unfolding goal
returns c =
    rw c.mark-mark.ensures.0 refl
