use Prim.Native.Nat.{◌<◌}
use native.Mathlib.Omega.{arith}
use Rattle.sheet.proofs.Pairs.{up_to_start, up_to_step, alike, unlike, other_row, ends_at_last, ends_at_other}
use Rattle.sheet.proofs.Sheet.pair.Goals as goal

pub loop-next-init : goal.loop-next-init
loop-next-init c =
    up_to_start c.requires.0 c.requires.1 c.bound-first.ensures

pub returns-then-c-first : goal.returns-then-c-first
returns-then-c-first c =
    let is = c.bound-first.ensures in
    let u = c.loop-next.invariant in
    let l : c.loop-next.next < c.args.self.bounds = omega (arith, c.loop-next-test.true) in
    ends_at_other c.requires.0 c.requires.1 is u l
    (other_row c.requires.0 c.requires.1 is u l c.bound-c.ensures (unlike _ _ _ _ c.if-c-first.true))
    c.of.ensures

pub loop-next-preserved : goal.loop-next-preserved
loop-next-preserved c =
    let same = alike _ _ _ _ c.if-c-first.false in
    up_to_step c.requires.0 c.requires.1 c.bound-first.ensures c.loop-next.invariant
    (omega (arith, c.loop-next-test.true))
    c.bound-c.ensures same.0 same.1 c.max-low.ensures c.min-high.ensures

pub returns : goal.returns
returns c =
    ends_at_last c.requires.0 c.requires.1 c.bound-first.ensures c.loop-next.invariant
    (let e = c.loop-next.auto.next-end in omega (arith, c.loop-next-test.false, c.requires.0.sheet.bounds, c.requires.1.in_sheet)) c.of-2.ensures
