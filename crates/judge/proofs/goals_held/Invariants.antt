use Rattle.sheet.specs.WellFormed.{said_by}
use Rattle.plan_points.specs.Flat.{Every}
use Rattle.judge.specs.Points.{GoalHeld}
use Rattle.judge.proofs.goals_held.Given as goal

abbrev pub invariant-loop-f : goal.invariant-loop-f
invariant-loop-f l =
    Every (GoalHeld (said_by l.sheet) l.first l.sorted) l.f
