use Rattle.sheet.proofs.Pairs.{UpTo}
use Rattle.sheet.proofs.Sheet.pair.Given as goal

abbrev pub invariant-loop-next : goal.invariant-loop-next
invariant-loop-next l =
    UpTo l.self l.b l.i l.low l.high l.next
