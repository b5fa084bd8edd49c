use Rattle.std.proofs.lemmas.Result.{err_from_is_err_and}
use mathlib.Core.List.{map}
use Prim.Native.Nat.{ℕ, ◌<◌}
use native.Mathlib.Omega.{arith}
use lib.ListN.{length, get_or, length-set}
use Rattle.kernel_least.proofs.Laws.{Row-step, row_done, row_none, lift_at}
use Rattle.kernel_least.specs.Rows.{InRow, col}
use Rattle.kernel_least.specs.System.{Between}
use Rattle.kernel_widest.proofs.serve.Goals as goal
use Rattle.kernel_widest.proofs.serve.Goals.{In-loop-place}

in_row
    : (c : In-loop-place)
    → InRow (col (map (λ x. x.now) c.args.rules) 0) c.args.range.lo c.args.range.hi c.args.v c.loop-place.place
in_row c =
    record {
      of = c.requires.ticks_held.1;
      from = omega (arith, c.loop-place.invariant.from, c.at-start.ensures.0);
      below = omega (arith, c.loop-place-test.true, c.at-end.ensures.0);
    }

abbrev target : In-loop-place → ℕ
target c = get_or (col (map (λ x. x.now) c.args.rules) 1) c.loop-place.place 0

inside : (c : In-loop-place) → Between c.args.range.lo c.args.range.hi (target c)
inside c = c.requires.rows_formed.inside _ _ (in_row c)

fits_x : (c : In-loop-place) → target c < length c.loop-place.x
fits_x c = omega (arith, (inside c).below, c.requires.ticks_held.0.lent.ticks, c.loop-place.invariant.xs)

fits_m : (c : In-loop-place) → target c < length c.loop-place.marks
fits_m c =
    omega (
      arith,
      (inside c).below,
      c.requires.ticks_held.0.marked,
      c.loop-place.invariant.ms,
      length-set c.args.marks.now c.args.v 0,
    )

pub loop-place-preserved : goal.loop-place-preserved
loop-place-preserved c =
    let i = (goal.at.loop-place-preserved c).In-loop-place in
    let rules = map (λ x. x.now) c.args.rules in
    Row-step _ _ _ _ _ _ c.loop-place.invariant (in_row i) (inside i) (fits_x i) (fits_m i)
    (lift_at (col rules 1) (col rules 2) _ _ c.at-t.ensures.0 c.at.ensures.0 c.in_ok-lift.ensures)

pub returns-in_err-lift : goal.returns-in_err-lift
returns-in_err-lift c =
    let i = (goal.at.returns-in_err-lift c).In-loop-place in
    let rules = map (λ x. x.now) c.args.rules in
    let p = err_from_is_err_and c.from_residual.result c.from_residual.ensures.1 in
    rw p.1
    ((row_none _ _ _ _ _ _ c.args.x.now c.args.marks.now
    (omega (arith, c.requires.ticks_held.0.marked, c.requires.ticks_held.1.below))
    c.requires.ticks_held.1 c.from-from.ensures c.at-start.ensures.0 c.loop-place.invariant (in_row i) (inside i)
    (lift_at (col rules 1) (col rules 2) _ _ c.at-t.ensures.0 c.at.ensures.0 c.in_err-lift.ensures)).swept)

pub returns : goal.returns
returns c =
    (row_done _ _ _ _ _ _ c.args.x.now c.args.marks.now
    (omega (arith, c.requires.ticks_held.0.marked, c.requires.ticks_held.1.below))
    c.requires.ticks_held.1 c.from-from.ensures c.at-start.ensures.0 c.loop-place.invariant
    (omega (arith, c.loop-place-test.false, c.at-end.ensures.0))).swept
