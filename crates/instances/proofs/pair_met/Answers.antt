use Prim.Native.Nat.{◌<◌}
use mathlib.Core.Path.{◌≡◌}
use Rattle.std.specs.Prelude.{Some}
use Rattle.laws.specs.Test.{Says, said, denied}
use Rattle.plan_points.specs.Flat.{Every, cell}
use Rattle.instances.specs.Rows.{time_at}
use Rattle.instances.specs.Own.{MeetsAt}
use Rattle.instances.proofs.Laws.{meets_read}
use Rattle.instances.proofs.Links.{walked_row, walked_less, walked_step, walked_end}
use Rattle.instances.proofs.pair_met.Goals as goal
use Rattle.instances.proofs.pair_met.Goals.{After-from-i, After-meets}

is_last : (c : After-from-i) → c.loop-last.last ≡ Some c.from-i.result
is_last c = rw c.from-i.ensures c.in-Some.is

at_entry : (c : After-from-i) → (c.from-i.result < c.args.count) × (cell c.args.job.now c.from-i.result ≡ c.args.at.job)
at_entry c = walked_row c.loop-last.invariant _ (is_last c)

meets_says
    : (c : After-meets)
    → Says
    (MeetsAt c.args.c
    (time_at c.args.l.now (cell c.args.place.now c.from-i.result) c.args.at.first c.args.c.later)
    (time_at c.args.l.now (cell c.args.place.now c.from-i.result) c.args.at.first c.args.c.earlier))
    c.meets.result
unfolding cell
meets_says c =
    rw c.from-body.ensures at
    (meets_read _ c.args.l.now c.from-body.result c.args.at.first _ _ c.time-later.ensures.0 c.time.ensures.0 c.meets.result c.meets.ensures)

pub time-later-requires : goal.time-later-requires
unfolding cell
time-later-requires c =
    let i = at_entry (goal.at.time-later-requires c).After-from-i in
    rw c.from-body.ensures (c.requires.later _ i.0 i.1)

pub time-requires : goal.time-requires
unfolding cell
time-requires c =
    let i = at_entry (goal.at.time-requires c).After-from-i in
    rw c.from-body.ensures (c.requires.earlier _ i.0 i.1)

pub returns-then-not-meets : goal.returns-then-not-meets
unfolding Every
returns-then-not-meets c =
    let at = goal.at.returns-then-not-meets c in
    let i = at_entry at.After-from-i in
    λ m. denied c.meets.result (meets_says at.After-meets) c.if-not-meets.true (m _ i.0 i.1)

pub loop-last-smaller : goal.loop-last-smaller
loop-last-smaller c =
    walked_less c.loop-last.invariant _ (is_last (goal.at.loop-last-smaller c).After-from-i) c.requires.linked

pub loop-last-preserved : goal.loop-last-preserved
loop-last-preserved c =
    let at = goal.at.loop-last-preserved c in
    walked_step c.loop-last.invariant _ (is_last at.After-from-i) c.requires.linked
    (said c.meets.result (meets_says at.After-meets) c.if-not-meets.false)

pub returns : goal.returns
unfolding Every
returns c = λ i l e. walked_end c.loop-last.invariant c.in_default.is i l e
