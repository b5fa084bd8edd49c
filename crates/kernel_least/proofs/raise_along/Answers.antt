use Rattle.std.proofs.lemmas.Result.{err_from_is_err_and}
use Rattle.kernel_least.proofs.Turns.{sweep_start, sweep_on, settle_done, settle_none, settle_then, raised_all}
use Rattle.kernel_least.proofs.raise_along.Goals as goal

pub returns-in_err-along : goal.returns-in_err-along
returns-in_err-along c =
    let p = err_from_is_err_and c.from_residual.result c.from_residual.ensures.1 in
    rw p.1
    (raised_all _ _ _ _ _ _ c.args.x.now c.requires.lent.1 c.requires.rows_formed.small
    (settle_none _ _ _ _ _ _ (sweep_start _ _ _) c.in_err-along.ensures))

pub returns-then-not-any : goal.returns-then-not-any
returns-then-not-any c =
    raised_all _ _ _ _ _ _ c.args.x.now c.requires.lent.1 c.requires.rows_formed.small
    (settle_done _ _ _ _ _ _
    (sweep_on (sweep_start _ _ _) c.in_ok-along.ensures c.along.auto.x c.along.auto.marks)
    (c.any.ensures.clear c.if-not-any.true))

pub returns : goal.returns
returns c =
    raised_all _ _ _ _ _ _ c.args.x.now c.requires.lent.1 c.requires.rows_formed.small
    (settle_then _ _ _ _ _ _
    (sweep_on (sweep_start _ _ _) c.in_ok-along.ensures c.along.auto.x c.along.auto.marks)
    c.finish.ensures)
