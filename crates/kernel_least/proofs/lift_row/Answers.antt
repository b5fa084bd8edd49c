use Rattle.std.proofs.lemmas.Result.{err_from_is_err_and}
use mathlib.Core.List.{map}
use Prim.Native.Nat.{ℕ, ◌<◌}
use native.Mathlib.Omega.{arith}
use mathlib.Core.Path.{◌∙◌}
use lib.ListN.{length, get_or, length-set}
use Rattle.kernel_least.proofs.Laws.{Row-step, row_done, row_none, lift_at, note_step}
use Rattle.kernel_least.specs.Rows.{InRow, col}
use Rattle.kernel_least.specs.System.{Between}
use Rattle.kernel_least.proofs.lift_row.Goals as goal
use Rattle.kernel_least.proofs.lift_row.Goals.{In-loop-r}

in_row
    : (c : In-loop-r)
    → InRow (col (map (λ x. x.now) c.args.rules) 0) c.args.range.lo c.args.range.hi c.args.v c.loop-r.r
in_row c =
    record {
      of = c.requires.ticks_held.1;
      from = omega (arith, c.loop-r.invariant.0.from, c.at-start.ensures.0);
      below = omega (arith, c.loop-r-test.true, c.at-end.ensures.0);
    }

abbrev target : In-loop-r → ℕ
target c = get_or (col (map (λ x. x.now) c.args.rules) 1) c.loop-r.r 0

inside : (c : In-loop-r) → Between c.args.range.lo c.args.range.hi (target c)
inside c = c.requires.rows_formed.inside _ _ (in_row c)

fits_x : (c : In-loop-r) → target c < length c.loop-r.x
fits_x c = omega (arith, (inside c).below, c.requires.ticks_held.0.lent.ticks, c.loop-r.invariant.0.xs)

fits_m : (c : In-loop-r) → target c < length c.loop-r.marks
fits_m c =
    omega (
      arith,
      (inside c).below,
      c.requires.ticks_held.0.marked,
      c.loop-r.invariant.0.ms,
      length-set c.args.marks.now c.args.v 0,
    )

pub loop-r-preserved : goal.loop-r-preserved
loop-r-preserved c =
    let i = (goal.at.loop-r-preserved c).In-loop-r in
    let rules = map (λ x. x.now) c.args.rules in (
      Row-step _ _ _ _ _ _ c.loop-r.invariant.0 (in_row i) (inside i) (fits_x i) (fits_m i)
          (lift_at (col rules 1) (col rules 2) _ _ c.at-t.ensures.0 c.at.ensures.0 c.in_ok-noted.ensures),
      note_step c.loop-r.invariant.1 c.in_ok-noted.ensures,
      c.lift.auto.parents ∙ c.loop-r.invariant.2,
    )

pub returns-in_err-noted-clause-lifted : goal.returns-in_err-noted-clause-lifted
returns-in_err-noted-clause-lifted c =
    let i = (goal.at.returns-in_err-noted-clause-lifted c).In-loop-r in
    let rules = map (λ x. x.now) c.args.rules in
    let p = err_from_is_err_and c.from_residual.result c.from_residual.ensures.1 in
    rw p.1
    (row_none _ _ _ _ _ _ c.args.x.now c.args.marks.now
    (omega (arith, c.requires.ticks_held.0.marked, c.requires.ticks_held.1.below))
    c.requires.ticks_held.1 c.from-base.ensures c.at-start.ensures.0 c.loop-r.invariant.0 (in_row i)
    (inside i)
    (lift_at (col rules 1) (col rules 2) _ _ c.at-t.ensures.0 c.at.ensures.0 c.in_err-noted.ensures))

pub returns-clause-lifted : goal.returns-clause-lifted
returns-clause-lifted c =
    row_done _ _ _ _ _ _ c.args.x.now c.args.marks.now
    (omega (arith, c.requires.ticks_held.0.marked, c.requires.ticks_held.1.below))
    c.requires.ticks_held.1 c.from-base.ensures c.at-start.ensures.0 c.loop-r.invariant.0
    (omega (arith, c.loop-r-test.false, c.at-end.ensures.0))
