use Rattle.std.proofs.lemmas.Result.{err_from_is_err_and}
use Rattle.run_state.proofs.Laws.{fresh_refused, fresh_formed}
use Rattle.run_state.proofs.fresh.Goals as goal

pub returns-in_err-sheet : goal.returns-in_err-sheet
returns-in_err-sheet c =
    let p = err_from_is_err_and c.from_residual.result c.from_residual.ensures.1 in
    λ old. rw (p.1, p.2) (fresh_refused _ old _ c.in_err-sheet.ensures.0)

pub returns : goal.returns
returns c = λ old. fresh_formed old c.in_ok-sheet.ensures.0 c.initial_facts.ensures
