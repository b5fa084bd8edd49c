use Prim.Native.Nat.{◌+◌}
use lib.Dec.{leb}
use Rattle.rules.specs.Count.{byte}
use Rattle.reader.specs.Loop.{Passed}
use Rattle.reader.proofs.marks_ok.Given as goal

abbrev pub invariant-loop-f : goal.invariant-loop-f
invariant-loop-f l =
    Passed (λ i. leb (byte l.b (l.at + i)) 3) l.fn.v.facts l.f
