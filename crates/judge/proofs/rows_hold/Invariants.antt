use Rattle.sheet.specs.WellFormed.{said_by}
use Rattle.plan_points.specs.Flat.{Every}
use Rattle.judge.specs.Points.{RowHoldsAt}
use Rattle.judge.proofs.rows_hold.Given as goal

abbrev pub invariant-loop-k : goal.invariant-loop-k
invariant-loop-k l =
    Every (RowHoldsAt (said_by l.sheet) l.first l.sorted l.rows l.count) l.k
