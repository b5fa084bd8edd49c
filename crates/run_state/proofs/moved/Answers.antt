use Rattle.std.proofs.lemmas.Result.{err_from_is_err_and}
use Rattle.judge.specs.Empty.{zeros_room}
use Rattle.run_state.proofs.Laws.{barred_moved, moved_on}
use Rattle.run_state.proofs.moved.Goals as goal

pub apply-requires : goal.apply-requires
apply-requires c =
    zeros_room

pub returns-in_err-delayed : goal.returns-in_err-delayed
returns-in_err-delayed c =
    let p = err_from_is_err_and c.from_residual.result c.from_residual.ensures.1 in
    rw (p.1, p.2) (barred_moved _ c.in_err-delayed.ensures)

pub returns : goal.returns
returns c =
    moved_on c.in_ok-delayed.ensures
    c.step.ensures
