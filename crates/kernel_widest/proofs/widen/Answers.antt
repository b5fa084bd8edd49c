use Prim.Native.Nat.{ℕ}
use lib.ListN.{length-set}
use Rattle.kernel_widest.specs.Laws.{rows_closed}
use Rattle.kernel_widest.proofs.Laws.{row_kept, row_over, row_small, row_done, row_level}
use mathlib.Core.Path.{refl}
use native.Mathlib.Omega.{arith}
use Rattle.kernel_widest.proofs.widen.Goals as goal

pub overflow_sub-over : goal.overflow_sub-over
overflow_sub-over c =
    row_over _ _ _ _ c.copy.new.row c.requires.wide_asks c.copy.ensures
    (omega (arith, c.requires.lent.ticks, c.requires.wide_asks.of.below, c.copy.auto.row)) _ refl
    c.raise_from.ensures _ c.most.ensures

pub lower-requires : goal.lower-requires
lower-requires c = (
  c.requires.rows_formed.order,
  c.requires.wide_asks.long,
  omega (arith, c.requires.lent.ticks, c.copy.auto.row, c.raise_from.auto.x, length-set {A = ℕ}),
  omega (
    arith,
    c.requires.lent.low,
    row_small _ _ _ _ c.copy.new.row c.requires.wide_asks c.copy.ensures
        (omega (arith, c.requires.lent.ticks, c.requires.wide_asks.of.below, c.copy.auto.row)) _ refl
        c.raise_from.ensures _ c.most.ensures,
  ),
)

pub returns-then-over-gt0 : goal.returns-then-over-gt0
returns-then-over-gt0 c =
    row_done _ _ _ _ c.copy.new.row c.requires.wide_asks c.copy.ensures
    (omega (arith, c.requires.lent.ticks, c.requires.wide_asks.of.below, c.copy.auto.row)) _ refl
    c.raise_from.ensures _ c.most.ensures refl c.lower.ensures
    (rows_closed _ _ _ _ _ c.args.range.ceiling (λ l. c.requires.rows_formed))

pub returns-else-over-gt0 : goal.returns-else-over-gt0
returns-else-over-gt0 c =
    row_level _ _ _ _ c.copy.new.row c.requires.wide_asks c.copy.ensures
    (omega (arith, c.requires.lent.ticks, c.requires.wide_asks.of.below, c.copy.auto.row)) _ refl
    c.raise_from.ensures _ c.most.ensures c.if-over-gt0.false c.requires.lent.low
    (rows_closed _ _ _ _ _ c.args.range.ceiling (λ l. c.requires.rows_formed))

pub raise_from-requires-clause-between : goal.raise_from-requires-clause-between
raise_from-requires-clause-between c = (
  c.requires.wide_asks.of,
  row_kept _ _ _ _ c.copy.new.row c.requires.wide_asks c.copy.ensures
      (omega (arith, c.requires.lent.ticks, c.requires.wide_asks.of.below, c.copy.auto.row)) _ refl
      (rows_closed _ _ _ _ _ c.args.range.ceiling (λ l. c.requires.rows_formed)),
)
