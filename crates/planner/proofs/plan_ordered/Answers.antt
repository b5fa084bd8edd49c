use Rattle.std.proofs.lemmas.Result.{err_from_is_err_and}
use Rattle.class.specs.Laws.{refused}
use Rattle.planner.proofs.plan_ordered.Goals as goal

pub class_of-requires-clause-marked_sheet : goal.class_of-requires-clause-marked_sheet
class_of-requires-clause-marked_sheet c =
    let p = c.requires.ordered_sheet.0 in
    record { index = p.indexed.index; marks = p.marks }

pub plan_inside-requires-clause-able : goal.plan_inside-requires-clause-able
plan_inside-requires-clause-able c =
    record { ordered = c.requires.ordered_sheet.0; inside = c.in_ok-class_of.ensures }

pub returns-in_err-class_of : goal.returns-in_err-class_of
returns-in_err-class_of c =
    let p = err_from_is_err_and c.from_residual.result c.from_residual.ensures.1 in
    rw (p.1, p.2) (refused _ _ c.in_err-class_of.ensures)
