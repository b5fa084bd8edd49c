use native.Mathlib.Omega.{arith}
use Rattle.rules.specs.Sheet.{max_facts}
use Rattle.plan_points.specs.Flat.{group_of, WithOwn.ours, WithOwn.other}
use Rattle.plan_points.proofs.with_own.Goals as goal

pub returns-then-group_of-need : goal.returns-then-group_of-need
unfolding group_of max_facts
returns-then-group_of-need c =
    other (λ g e. absurd (omega (arith, c.if-group_of-need.true, c.group_of.ensures.0)))

pub returns : goal.returns
unfolding group_of max_facts
returns c =
    ours (omega (arith, c.if-group_of-need.false, c.group_of.ensures.0))
    (omega (arith, c.entry.ensures.0)) (rw c.tick.ensures.0 at c.later.ensures)
