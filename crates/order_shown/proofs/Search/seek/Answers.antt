use native.Mathlib.Omega.{arith}
use mathlib.Core.Path.{refl, ◌∙◌}
use Rattle.order_shown.proofs.GridLaws.{sides_are, seek_start, seek_asks, seek_stop, seek_next, seek_none}
use Rattle.order_shown.proofs.Search.seek.Goals as goal

pub loop-r-init : goal.loop-r-init
loop-r-init c = (seek_start c.requires.asks_seek, c.requires.filled, refl)

pub stop-requires-clause-asks_stop : goal.stop-requires-clause-asks_stop
stop-requires-clause-asks_stop c =
    let p = c.requires.asks_seek in
    let isEnd = rw c.rows.ensures at c.places-end.ensures.end in
    let isTo = rw c.cols.ensures at c.places-from.ensures.end in
    seek_asks (sides_are c.places-end.ensures.ground c.args.self.now.wanted _) c.loop-r.invariant.0 p.exists p.row_low
    (omega (arith, c.loop-r-test.true, isEnd)) isTo c.event_at-row.ensures.event

pub returns-in-Some-clause-seeks : goal.returns-in-Some-clause-seeks
returns-in-Some-clause-seeks c =
    let isEnd = rw c.rows.ensures at c.places-end.ensures.end in
    let isTo = rw c.cols.ensures at c.places-from.ensures.end in
    seek_stop c.loop-r.invariant.0 isTo c.event_at-row.ensures.event (omega (arith, c.loop-r-test.true, isEnd)) c.in-Some.ensures.stops

pub loop-r-preserved : goal.loop-r-preserved
loop-r-preserved c =
    let isFrom = rw c.cols.ensures at c.places-from.ensures.from in
    let isTo = rw c.cols.ensures at c.places-from.ensures.end in (
      seek_next c.loop-r.invariant.0 isTo c.event_at-row.ensures.event isFrom c.in_default.ensures.stops,
      c.stop.ensures.filled_2,
      c.stop.auto.table ∙ c.loop-r.invariant.2,
    )

pub returns-clause-seeks : goal.returns-clause-seeks
returns-clause-seeks c =
    let isEnd = rw c.rows.ensures at c.places-end.ensures.end in
    seek_none c.loop-r.invariant.0 (omega (arith, c.loop-r-test.false, isEnd))
