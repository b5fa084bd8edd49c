use native.Mathlib.Omega.{arith}
use mathlib.Core.Path.{sym, ◌∙◌}
use Prim.Native.Nat.{◌<◌, ◌+◌}
use lib.ListN.{length}
use Rattle.std.specs.Prelude.{None}
use Rattle.std.proofs.lemmas.List.{get_or-map, length-map, map-set}
use Rattle.plan_points.specs.Flat.{cell}
use Rattle.instances.specs.Chain.{before}
use Rattle.instances.proofs.Links.{chaining_step, before_next, before_sub}
use Rattle.instances.proofs.chain.Goals as goal

pub bounds-last-g : goal.bounds-last-g
unfolding cell
bounds-last-g c =
    omega (
      arith,
      c.requires.known c.loop-k.k c.loop-k-test.true,
      c.from-g.ensures,
      c.requires.lasts,
      c.loop-k.invariant.last_room,
      length-map c.args.last.now before,
      length-map c.loop-k.last before,
    )

pub bounds-last-g-in-loop-k : goal.bounds-last-g-in-loop-k
unfolding cell
bounds-last-g-in-loop-k c =
    omega (
      arith,
      c.requires.known c.loop-k.k c.loop-k-test.true,
      c.from-g.ensures,
      c.requires.lasts,
      c.loop-k.invariant.last_room,
      length-map c.args.last.now before,
      length-map c.loop-k.last before,
    )

pub loop-k-preserved : goal.loop-k-preserved
unfolding cell
loop-k-preserved c =
    let lasts = length-map c.args.last.now before in
    let inside : c.from-g.result < length c.args.last.now =
    omega (arith, c.requires.known c.loop-k.k c.loop-k-test.true, c.from-g.ensures, c.requires.lasts, lasts) in
    let there : c.from-g.result < length c.loop-k.last =
    omega (arith, inside, c.loop-k.invariant.last_room, length-map c.loop-k.last before) in
    let link = before_sub c.checked_sub.result _ c.checked_sub.ensures ∙ sym (get_or-map before c.loop-k.last c.from-g.result 0 None there) in
    rw (link, map-set before c.loop-k.last c.from-g.result (c.loop-k.k + 1), before_next c.loop-k.k)
    (chaining_step c.loop-k.invariant c.loop-k-test.true c.requires.links inside c.from-g.ensures)
