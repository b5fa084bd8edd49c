use Rattle.laws.specs.Test.{denied}
use Rattle.sheet.specs.WellFormed.{formed_by}
use Rattle.least_ticks.specs.Laws.{bar_source, bar_says}
use Rattle.least_ticks.proofs.barred.Goals as goal

pub returns-then-no_source : goal.returns-then-no_source
returns-then-no_source c =
    bar_source (formed_by c.args.marked.now.sheet) c.no_source.result c.no_source.ensures c.if-no_source.true

pub returns-else-no_source : goal.returns-else-no_source
returns-else-no_source c =
    bar_says (formed_by c.args.marked.now.sheet) c.cleared_goal.result
    (denied c.no_source.result c.no_source.ensures c.if-no_source.false) c.cleared_goal.ensures
