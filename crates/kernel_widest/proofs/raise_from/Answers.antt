use native.Mathlib.Omega.{arith}
use Rattle.kernel_least.proofs.Turns.{raised_from}
use Rattle.kernel_widest.proofs.raise_from.Goals as goal

pub returns-then-range-gt-WIDE : goal.returns-then-range-gt-WIDE
returns-then-range-gt-WIDE c =
    raised_from _ _ _ _ _ _ c.args.x.now c.requires.under.0 c.args.v
    (omega (arith, c.requires.rows_formed.small, c.requires.between.0.below)) c.requires.between.1 c.spread.ensures

pub returns : goal.returns
returns c =
    raised_from _ _ _ _ _ _ c.args.x.now c.requires.under.0 c.args.v
    (omega (arith, c.requires.rows_formed.small, c.requires.between.0.below)) c.requires.between.1 c.finish.ensures
