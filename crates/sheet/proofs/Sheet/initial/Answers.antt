use Rattle.rules.specs.Sheet.{initial}
use mathlib.Core.Path.{refl}
use Rattle.sheet.proofs.Sheet.initial.Goals as goal

pub returns : goal.returns
unfolding initial
returns c =
    rw c.mark-mark.ensures.0 refl
