use mathlib.Core.Path.{refl}
use Rattle.rules.specs.Plan.{latest}
use Rattle.sheet.specs.View.{meaning}
use Rattle.sheet.proofs.Sheet.latest.Goals as goal

pub returns : goal.returns
unfolding meaning latest
returns c =
    λ b j. refl
