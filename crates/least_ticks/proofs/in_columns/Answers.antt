use Rattle.least_ticks.specs.Laws.{ticks_are}
use Rattle.least_ticks.proofs.in_columns.Goals as goal

pub returns : goal.returns
returns g c =
    let p = c.requires in
    ticks_are p.marked_sheet _ _ _
    c.args.x.now c.raise.new.x
    c.raise.result
    (c.rows.ensures.rows
    (c.if-not-rows.false)) p.asks_ticks.least c.raise.ensures
