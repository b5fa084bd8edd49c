use lib.Dec.{eqb}
use Rattle.sheet.specs.WellFormed.{said_by}
use Rattle.reader.specs.Loop.{Passed}
use Rattle.rewrite.proofs.no_releases.Given as goal

abbrev pub invariant-loop-j : goal.invariant-loop-j
invariant-loop-j l =
    Passed (λ i. eqb ((said_by l.sheet).release i) 0) (said_by l.sheet).jobs l.j
