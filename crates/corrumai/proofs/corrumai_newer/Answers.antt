use Rattle.newer.specs.Laws.{told_in_c}
use Rattle.corrumai.proofs.corrumai_newer.Goals as goal

pub returns : goal.returns
returns c =
    told_in_c _ (λ s. s.now) c.args.first c.args.second c.part.result c.choose-choice.result c.choose-choice.ensures c.number.ensures c.which.ensures
    c.part.ensures
