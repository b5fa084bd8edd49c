use native.Mathlib.Omega.{arith}
use Rattle.std.proofs.lemmas.Result.{err_from_is_err_and}
use Rattle.rules.specs.Count.{byte}
use Rattle.judge.specs.Empty.{zeros_room}
use Rattle.late.proofs.Laws.{tries_fit, tries_few, found_late, late_refused, whose_tried}
use Rattle.late.proofs.late.Goals as goal

pub apply-requires : goal.apply-requires
apply-requires c =
    zeros_room

pub returns-in_err-delayed-clause-answer : goal.returns-in_err-delayed-clause-answer
returns-in_err-delayed-clause-answer c =
    let p = err_from_is_err_and c.from_residual.result c.from_residual.ensures.1 in
    rw (p.1, p.2) (late_refused c.in_err-delayed.ensures)

pub answer_of-requires : goal.answer_of-requires
answer_of-requires c =
    let x = c.in_ok-delayed.ensures in
    (tries_fit x, tries_few x)

pub returns-clause-answer : goal.returns-clause-answer
unfolding byte
returns-clause-answer c = found_late c.in_ok-delayed.ensures (λ i. omega (arith, c.type_inv.l i)) c.answer_of.ensures.found

pub returns-in_err-delayed-clause-whose : goal.returns-in_err-delayed-clause-whose
returns-in_err-delayed-clause-whose c =
    let q = err_from_is_err_and c.from_residual.result c.from_residual.ensures.1 in
    rw (q.1, q.2) c.in_err-delayed.ensures

pub returns-clause-whose : goal.returns-clause-whose
returns-clause-whose c = whose_tried c.in_ok-delayed.ensures.tried c.answer_of.result c.answer_of.ensures.wrong
