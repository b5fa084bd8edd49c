use native.Mathlib.Omega.{arith}
use Rattle.std.proofs.Common.{◌≡◌, ◌+◌, ◌<◌, ap, ◌∙◌, get_or, slice_range}
use Rattle.laws.specs.Test.{said, denied}
use Rattle.plan_points.specs.Flat.{cell, tick_in, entry_in}
use Rattle.plan_points.proofs.Laws.{slice_cell, slice_long, sparing_step, sparing_past, sparing_end, sparing_stop}
use Rattle.plan_points.proofs.first_harm.Goals as goal
use Rattle.plan_points.proofs.first_harm.Goals.{After-spaced}

-- the rows are read as a slice from the first that can harm
inside : (c : After-spaced) → c.split-from.result + c.loop-x.x-index < c.args.span.hi
inside c = omega (arith, slice_long c.args.rows.now c.split-from.result c.args.span.hi c.split-from.ensures.high c.requires.within)

row : (c : After-spaced) →
    get_or (slice_range c.args.rows.now c.split-from.result c.args.span.hi) c.loop-x.x-index 0
    ≡ cell c.args.rows.now (c.split-from.result + c.loop-x.x-index)
row c = slice_cell c.args.rows.now c.split-from.result c.args.span.hi c.loop-x.x-index (inside c)

pub returns-then-spaced : goal.returns-then-spaced
returns-then-spaced c =
    let here = (goal.at.returns-then-spaced c).After-spaced in
    let far = said c.spaced.result c.spaced.ensures c.if-spaced.true in
    let tick = c.tick-tick.ensures.0 ∙ ap tick_in (row here) in
    sparing_past c.requires
    c.loop-x.invariant (inside here) (omega (arith, far, tick))

pub returns-then-harms : goal.returns-then-harms
returns-then-harms c =
    let here = (goal.at.returns-then-harms c).After-spaced in
    let harm = said c.harms.result c.harms.ensures c.if-harms.true in
    let tick = c.tick-tick.ensures.0 ∙ ap tick_in (row here) in
    let entry = c.entry.ensures.0 ∙ ap entry_in (row here) in
    rw tick (sparing_stop c.requires c.loop-x.invariant (inside here) (rw (tick, entry) at harm))

pub loop-x-preserved : goal.loop-x-preserved
loop-x-preserved c =
    let here = (goal.at.loop-x-preserved c).After-spaced in
    let harmless = denied c.harms.result c.harms.ensures c.if-harms.false in
    let tick = c.tick-tick.ensures.0 ∙ ap tick_in (row here) in
    let entry = c.entry.ensures.0 ∙ ap entry_in (row here) in
    let next : c.split-from.result + (c.loop-x.x-index + 1) ≡ c.split-from.result + c.loop-x.x-index + 1 = omega arith in
    rw next (sparing_step c.requires c.loop-x.invariant (inside here) (rw (tick, entry) at harmless))

pub returns : goal.returns
returns c =
    let long = slice_long c.args.rows.now c.split-from.result c.args.span.hi c.split-from.ensures.high c.requires.within in
    sparing_end c.requires c.loop-x.invariant (omega arith)
