use mathlib.Core.Path.{refl, sym, ap, ◌∙◌}
use mathlib.Core.Logic.{inl}
use Rattle.rules.specs.Count.{byte}
use Rattle.rules.specs.Rewrite.{goes_back}
use Rattle.reader.specs.Reads.{read_own}
use Rattle.std.proofs.lemmas.Result.{err_from_is_err_and}
use Rattle.rewrite.proofs.Laws.{back_refused, back_written, no_way_back_lem}
use Rattle.rewrite.proofs.to_edition1.Goals as goal

pub returns-in_err-v : goal.returns-in_err-v
returns-in_err-v c =
    let p = err_from_is_err_and c.from_residual.result c.from_residual.ensures.1 in rw (p.1, p.2) (back_refused _ c.in_err-v.ensures.0)

pub goes_back-requires : goal.goes_back-requires
goes_back-requires c =
    read_own c.in_ok-v.ensures.0.read

pub written-requires : goal.written-requires
written-requires c =
    inl refl

pub returns-then-goes_back : goal.returns-then-goes_back
unfolding byte
returns-then-goes_back c =
    let small = c.type_inv.sheet in
    let read = c.in_ok-v.ensures.0 in
    let goes = ap goes_back (sym read.read.bytes) ∙ sym c.goes_back.ensures ∙ c.if-goes_back.true in
    back_written (λ i. (small i).fits) read goes c.written.ensures

pub returns : goal.returns
returns c =
    let read = c.in_ok-v.ensures.0 in
    no_way_back_lem read (ap goes_back (sym read.read.bytes) ∙ sym c.goes_back.ensures ∙ c.if-goes_back.false)
