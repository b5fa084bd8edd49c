use Rattle.reader.proofs.Laws.{Walked}
use Rattle.reader.proofs.contents_ok.Given as goal

abbrev pub invariant-loop-i : goal.invariant-loop-i
invariant-loop-i l =
    Walked l.b l.ok l.start l.i
