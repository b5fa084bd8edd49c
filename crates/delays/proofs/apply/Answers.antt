use mathlib.Core.Path.{◌≡◌, sym, ◌∙◌}
use mathlib.Core.Bool.{true}
use Rattle.std.proofs.lemmas.Result.{err_from_is_err_and}
use Rattle.rules.specs.RunList.{instances}
use Rattle.rules.specs.Late.{delays_ok}
use Rattle.reader.specs.Reads.{read_own}
use Rattle.judge.specs.Verdict.{judged_refused}
use Rattle.delays.specs.Trial.{Barred.bad_delays}
use Rattle.delays.proofs.Laws.{in_order_of, can_be_late, tries, barred_by}
use Rattle.delays.proofs.apply.Goals as goal
use Rattle.delays.proofs.apply.Goals.{Else-not-in_order}

fit : (c : Else-not-in_order)
    → let a = c.args in
    delays_ok a.delays.now (instances a.l.now) ≡ true
fit c = sym (in_order_of _ _ c.count.ensures c.in_order.ensures) ∙ c.if-not-in_order.false

pub returns-in_err-sheet : goal.returns-in_err-sheet
returns-in_err-sheet c =
    let p = err_from_is_err_and c.from_residual.result c.from_residual.ensures.1 in
    rw (p.1, p.2) (barred_by _ (judged_refused _ _ _ c.in_err-sheet.ensures.0))

pub accept-requires : goal.accept-requires
accept-requires c = (read_own c.in_ok-sheet.ensures.0, c.requires)

pub returns-in_err-n : goal.returns-in_err-n
returns-in_err-n c =
    let p = err_from_is_err_and c.from_residual-in_err-n.result c.from_residual-in_err-n.ensures.1 in
    let e = c.in_err-n.ensures in
    rw (p.1, p.2, ← c.in_ok-sheet.ensures.0.bytes) (barred_by _ (e.judged, e.values))

pub returns-then-not-in_order : goal.returns-then-not-in_order
returns-then-not-in_order c =
    rw (← c.in_ok-sheet.ensures.0.bytes)
    (bad_delays c.in_ok-n.ensures.judged (sym (in_order_of _ _ c.count.ensures c.in_order.ensures) ∙ c.if-not-in_order.true))

pub shift-requires : goal.shift-requires
shift-requires c =
    can_be_late (read_own c.in_ok-sheet.ensures.0) c.in_ok-n.ensures.values (fit (goal.at.shift-requires c).Else-not-in_order)

pub returns : goal.returns
returns c =
    let e = c.in_ok-n.ensures in
    rw (← c.in_ok-sheet.ensures.0.bytes)
    (tries (read_own c.in_ok-sheet.ensures.0) e.values (fit (goal.at.returns c).Else-not-in_order) e.judged c.shift.ensures)
