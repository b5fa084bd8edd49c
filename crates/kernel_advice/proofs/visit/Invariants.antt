use Prim.Native.Nat.{◌≤◌}
use Rattle.kernel_advice.specs.Readable.{variables}
use Rattle.kernel_advice.proofs.visit.Given as goal

abbrev pub invariant-loop : goal.invariant-loop
invariant-loop l =
    (l.w.depth ≤ variables) × (l.w.at ≤ variables)
