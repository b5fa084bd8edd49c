use native.Mathlib.Omega.{arith}
use mathlib.Core.Path.{sym, ap, ◌∙◌}
use lib.ListN.{get_or}
use Rattle.plan_points.specs.Flat.{cell, tick_in, entry_in}
use Rattle.delays.proofs.Laws.{shift_next, packed_late}
use Rattle.delays.proofs.shift.Goals as goal

pub bounds-delays-entry : goal.bounds-delays-entry
unfolding cell
bounds-delays-entry c =
    let w = c.loop-k.invariant in
    let p = c.requires in
    omega (arith, c.entry-entry.ensures.0, p.delay _ c.loop-k-test.true, ap entry_in (w.rest c.loop-k.k (omega arith)))

pub pack-requires : goal.pack-requires
unfolding cell
pack-requires c =
    let w = c.loop-k.invariant in
    let p = c.requires in
    let z = w.rest c.loop-k.k (omega arith) in
    let near = p.near c.loop-k.k c.loop-k-test.true in
    let entry = ap entry_in (sym z) ∙ sym c.entry-entry.ensures.0 in (
      omega (arith, c.group_of.ensures.1),
      omega (
        arith,
        c.tick.ensures.0,
        c.from.ensures,
        near,
        ap tick_in z,
        ap (λ i. get_or c.args.delays.now i 0) entry,
      ),
      omega (arith, c.entry-entry.ensures.1),
    )

pub loop-k-preserved : goal.loop-k-preserved
unfolding cell
loop-k-preserved c =
    let w = c.loop-k.invariant in
    shift_next w (omega (arith, c.loop-k-test.true, c.requires.room, w.long))
    (packed_late w c.entry-entry.ensures.0 c.tick.ensures.0 c.from.ensures c.group_of.ensures.0 c.pack.ensures)
