use Rattle.sheet.specs.WellFormed.{said_by}
use Rattle.wanted.proofs.Laws.{Swept, GoalAt, none}
use Rattle.wanted.proofs.Wanted.new.Given as goal

abbrev pub invariant-loop-f : goal.invariant-loop-f
invariant-loop-f l =
    Swept (said_by l.sheet) (GoalAt (said_by l.sheet)) none l.progress.wanted 0 l.f
