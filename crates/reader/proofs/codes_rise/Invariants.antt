use Rattle.sheet.specs.View.{meaning}
use Rattle.reader.specs.Loop.{Climbing}
use Rattle.reader.proofs.codes_rise.Given as goal

abbrev pub invariant-loop-j : goal.invariant-loop-j
invariant-loop-j l =
    Climbing (meaning l.v l.b).code l.v.jobs l.next l.j
