use Prim.Native.Nat.{◌-◌}
use Rattle.sheet.specs.WellFormed.{said_by}
use Rattle.list_reader.proofs.Laws.{Finding}
use Rattle.list_reader.proofs.find.Given as goal

abbrev pub invariant-loop-low : goal.invariant-loop-low
invariant-loop-low l =
    Finding (said_by l.sheet) l.code l.low l.high

abbrev pub decreases-loop-low : goal.decreases-loop-low
decreases-loop-low l =
    l.high - l.low
