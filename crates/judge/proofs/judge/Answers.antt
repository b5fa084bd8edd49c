use Rattle.std.proofs.lemmas.Result.{err_from_is_err_and}
use Rattle.reader.specs.Reads.{read_own}
use Rattle.judge.specs.Empty.{zeros_room}
use Rattle.judge.specs.Verdict.{judged_refused}
use Rattle.judge.proofs.judge.Goals as goal

pub returns-in_err-sheet : goal.returns-in_err-sheet
returns-in_err-sheet c =
    let p = err_from_is_err_and c.from_residual.result c.from_residual.ensures.1 in
    rw (p.1, p.2) (judged_refused _ _ _ c.in_err-sheet.ensures.0).0

pub accept-requires : goal.accept-requires
accept-requires c = (read_own c.in_ok-sheet.ensures.0, zeros_room)

pub returns-in_err-accept : goal.returns-in_err-accept
returns-in_err-accept c =
    let p = err_from_is_err_and c.from_residual-in_err-accept.result c.from_residual-in_err-accept.ensures.1 in
    rw (p.1, p.2, ← c.in_ok-sheet.ensures.0.bytes) c.in_err-accept.ensures.judged

pub returns : goal.returns
returns c = rw (← c.in_ok-sheet.ensures.0.bytes) c.in_ok-accept.ensures.judged
