use Rattle.sheet.specs.View.{meaning}
use Rattle.reader.proofs.Laws.{Linking}
use Rattle.reader.proofs.event_rows_ok.Given as goal

abbrev pub invariant-loop-e : goal.invariant-loop-e
invariant-loop-e l =
    Linking (meaning l.v l.b) l.v.events l.next l.before l.e
