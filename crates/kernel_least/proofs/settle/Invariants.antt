use mathlib.Core.List.{map}
use Rattle.kernel_advice.specs.Readable.{variables}
use mathlib.Core.Path.{◌≡◌}
use lib.ListN.{length}
use Rattle.kernel_least.proofs.Turns.{Sweeping}
use Rattle.kernel_least.specs.Steps.{work, Picked}
use Rattle.kernel_least.specs.Rows.{system_of}
use Rattle.kernel_least.proofs.settle.Given as goal

abbrev pub invariant-loop-marked : goal.invariant-loop-marked
invariant-loop-marked l =
    Sweeping (system_of (map (λ x. x.now) l.rules) l.range) l.initial.x l.initial.marks l.x l.marks × (length l.parents ≡ variables)
    × Picked l.range.lo l.range.hi l.marks l.marked

abbrev pub decreases-loop-marked : goal.decreases-loop-marked
decreases-loop-marked l =
    work l.range.hi l.range.ceiling l.x l.marks
