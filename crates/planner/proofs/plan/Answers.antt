use Rattle.std.proofs.lemmas.Result.{err_from_is_err_and}
use Rattle.planner.specs.Laws.{planned_read, planned_refused}
use Rattle.planner.proofs.plan.Goals as goal

pub returns-in_err-sheet : goal.returns-in_err-sheet
returns-in_err-sheet c =
    let p = err_from_is_err_and c.from_residual.result c.from_residual.ensures.1 in
    rw (p.1, p.2) (planned_refused _ _ _ c.in_err-sheet.ensures.0)

pub returns : goal.returns
returns c = planned_read _ _ c.in_ok-sheet.ensures.0 c.plan_formed.ensures
