use mathlib.Core.List.{map}
use Prim.Native.Nat.{◌≤◌}
use Rattle.kernel_least.proofs.Turns.{Sweeping}
use Rattle.kernel_least.specs.Rows.{system_of}
use Rattle.kernel_least.proofs.rounds.Given as goal

abbrev pub invariant-loop : goal.invariant-loop
invariant-loop l =
    (l.span.lo ≤ l.from) × Sweeping (system_of (map (λ x. x.now) l.rules) l.range) l.initial.x l.initial.marks l.x l.marks
