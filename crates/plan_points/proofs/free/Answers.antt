use native.Mathlib.Omega.{arith}
use Rattle.rules.specs.Sheet.{max_facts}
use Rattle.plan_points.specs.Flat.{cell, group_of}
use Rattle.plan_points.proofs.Laws.{clears_order, free_end, free_says}
use Rattle.plan_points.proofs.free.Goals as goal

pub split-r-requires : goal.split-r-requires
unfolding group_of max_facts
split-r-requires c =
    clears_order c.requires.0 c.requires.1 c.span_of-clears.ensures

pub returns-then-clears-r : goal.returns-then-clears-r
unfolding group_of max_facts
returns-then-clears-r c =
    let o = clears_order c.requires.0
    c.requires.1 c.span_of-clears.ensures in
    free_end _ _ _ _ c.span_of-clears.ensures o c.split-r.ensures c.if-clears-r.true

pub offset_bounds-rows-r : goal.offset_bounds-rows-r
unfolding group_of max_facts
offset_bounds-rows-r c =
    let o = clears_order c.requires.0
    c.requires.1 c.span_of-clears.ensures in
    omega (arith, o.near, c.split-r.ensures.high)

pub bounds-rows-r : goal.bounds-rows-r
unfolding group_of max_facts
bounds-rows-r c =
    let o = clears_order c.requires.0
    c.requires.1 c.span_of-clears.ensures in
    omega (arith, o.within, c.if-clears-r.false)

pub returns : goal.returns
unfolding group_of max_facts cell
returns c =
    let o = clears_order c.requires.0
    c.requires.1 c.span_of-clears.ensures in
    free_says _ _ _ _ c.span_of-clears.ensures o c.split-r.ensures
    c.tick.result c.if-clears-r.false c.tick.ensures.0
