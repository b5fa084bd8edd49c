use mathlib.Core.Path.{refl}
use mathlib.Core.Logic.{inr}
use Rattle.rules.specs.Count.{byte}
use Rattle.std.proofs.lemmas.Result.{err_from_is_err_and}
use Rattle.rewrite.proofs.Laws.{there_refused, there_written}
use Rattle.rewrite.proofs.to_edition2.Goals as goal

pub returns-in_err-v : goal.returns-in_err-v
returns-in_err-v c =
    let p = err_from_is_err_and c.from_residual.result c.from_residual.ensures.1 in rw (p.1, p.2) (there_refused _ c.in_err-v.ensures.0)

pub written-requires : goal.written-requires
written-requires c =
    inr refl

pub returns : goal.returns
unfolding byte
returns c =
    let small = c.type_inv.sheet in
    there_written (λ i. (small i).fits) c.in_ok-v.ensures.0 c.written.ensures
