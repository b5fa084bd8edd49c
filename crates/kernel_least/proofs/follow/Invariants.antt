use mathlib.Core.List.{map}
use mathlib.Core.Path.{◌≡◌}
use lib.ListN.{length}
use Rattle.kernel_least.proofs.Turns.{Sweeping}
use Rattle.kernel_least.specs.Rows.{system_of}
use Rattle.kernel_least.proofs.follow.Given as goal

abbrev pub invariant-loop-i : goal.invariant-loop-i
invariant-loop-i l =
    Sweeping (system_of (map (λ x. x.now) l.rules) l.range) l.initial.x l.initial.marks l.x l.marks × (length l.parents ≡ length l.initial.parents)
