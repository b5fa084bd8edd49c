use Rattle.std.proofs.lemmas.Result.{err_from_is_err_and}
use Rattle.reader.specs.Reads.{read_in_own}
use Rattle.newer.proofs.Laws.{refused_first, refused_second}
use Rattle.newer.proofs.choose.Goals as goal

pub returns-in_err-v : goal.returns-in_err-v
returns-in_err-v c =
    let p = err_from_is_err_and c.from_residual.result c.from_residual.ensures.1 in rw (p.1, p.2) (refused_first _ c.in_err-v.ensures.0)

pub returns-in_err-w : goal.returns-in_err-w
returns-in_err-w c =
    let p = err_from_is_err_and c.from_residual-in_err-w.result c.from_residual-in_err-w.ensures.1 in rw (p.1, p.2) (refused_second _ c.in_ok-v.ensures.0 c.in_err-w.ensures.0)

pub by_revision-requires : goal.by_revision-requires
by_revision-requires c =
    (read_in_own c.in_ok-v.ensures.0, read_in_own c.in_ok-w.ensures.0)

pub returns : goal.returns
returns c =
    rw (← c.in_ok-v.ensures.0.read.bytes, ← c.in_ok-w.ensures.0.read.bytes) c.by_revision.ensures
