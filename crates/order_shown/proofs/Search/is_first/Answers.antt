use Rattle.laws.specs.Test.{untold}
use Rattle.sheet.specs.WellFormed.{formed_by}
use Rattle.order_shown.specs.declared.Order.TheVariants.{First}
use Rattle.order_shown.proofs.GridLaws.{sides_are, first_unpaired, first_sought}
use Rattle.order_shown.proofs.Search.is_first.Goals as goal

pub returns-then-not-paired-clause-says : goal.returns-then-not-paired-clause-says
returns-then-not-paired-clause-says c =
    let of = sides_are c.paired.ensures.ground c.args.self.now.wanted First in
    first_unpaired _ _ of c.requires.fact (untold _ c.paired.result c.paired.ensures.tells c.if-not-paired.true)

pub returns-clause-says : goal.returns-clause-says
returns-clause-says c =
    let ground = c.paired.ensures.ground in
    first_sought (formed_by c.args.self.now.basis.sheet).formed (sides_are ground c.args.self.now.wanted First) _ c.requires.marks _ c.requires.fact
    _ c.start-start.ensures.row c.start-start.ensures.col c.seek.result c.seek.ensures.seeks c.is_none.result c.is_none.ensures
