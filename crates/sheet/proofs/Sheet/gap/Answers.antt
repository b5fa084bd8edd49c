use mathlib.Core.Path.{refl}
use Rattle.rules.specs.Plan.{gap}
use Rattle.sheet.specs.View.{meaning}
use Rattle.sheet.proofs.Sheet.gap.Goals as goal

pub returns : goal.returns
unfolding meaning gap
returns c =
    λ b. refl
