use Rattle.laws.specs.Test.{said, denied}
use Rattle.least_ticks.specs.Laws.{solve_barred, solve_ticks}
use Rattle.least_ticks.proofs.solve.Goals as goal

pub returns-then-barred : goal.returns-then-barred
returns-then-barred c =
    let p = c.requires.able in
    solve_barred c.args.marked.now.sheet.well p.inside c.args.x.now
    (said c.barred.result c.barred.ensures c.if-barred.true)

pub returns : goal.returns
returns c =
    let p = c.requires.able in
    solve_ticks c.args.marked.now.sheet.well p.inside c.least_ticks.new.x
    c.least_ticks.result
    (denied c.barred.result
    c.barred.ensures c.if-barred.false)
    c.least_ticks.ensures
