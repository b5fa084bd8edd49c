use mathlib.Core.List.{map}
use Rattle.kernel_least.proofs.Turns.{Sweeping}
use Rattle.kernel_least.specs.Rows.{system_of}
use Rattle.kernel_least.proofs.up.Given as goal

abbrev pub invariant-loop-v : goal.invariant-loop-v
invariant-loop-v l =
    Sweeping (system_of (map (λ x. x.now) l.rules) l.range) l.initial.x l.initial.marks l.x l.marks
