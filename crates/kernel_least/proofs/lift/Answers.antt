use native.Mathlib.Omega.{arith}
use mathlib.Core.Path.{refl}
use Rattle.kernel_least.specs.Steps.Lift.{raised, passed}
use Rattle.kernel_least.proofs.lift.Goals as goal

pub returns-then-ceiling-need : goal.returns-then-ceiling-need
returns-then-ceiling-need c =
    passed (omega arith) refl refl _ refl

pub returns : goal.returns
returns c =
    raised (omega arith) (omega arith) refl refl _ refl c.note.ensures
