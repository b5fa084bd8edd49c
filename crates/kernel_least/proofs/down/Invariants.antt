use mathlib.Core.List.{map}
use mathlib.Core.Bool.{false}
use mathlib.Core.Path.{◌≡◌}
use Rattle.kernel_least.proofs.Turns.{Sweeping}
use Rattle.kernel_least.specs.Rows.{system_of}
use Rattle.kernel_least.specs.Steps.{Clear}
use Rattle.kernel_least.proofs.down.Given as goal

abbrev pub invariant-loop-v : goal.invariant-loop-v
invariant-loop-v l =
    Sweeping (system_of (map (λ x. x.now) l.rules) l.range) l.initial.x l.initial.marks l.x l.marks × (l.noted ≡ false → Clear l.v l.fn.span.hi l.marks)
