use native.Mathlib.Omega.{arith}
use Rattle.rules.specs.Sheet.{max_facts}
use Rattle.plan_points.specs.Flat.{group_of}
use Rattle.plan_points.proofs.Laws.{sets_order, clears_order, own_in, fault_none, fault_at}
use Rattle.plan_points.proofs.fault.Goals as goal

pub latest-requires : goal.latest-requires
unfolding group_of max_facts
latest-requires c =
    let p = c.requires in
    (sets_order p.0 p.1 c.span_of-sets.ensures, p.1, own_in p.2 c.span_of-sets.ensures)

pub returns-in_default : goal.returns-in_default
unfolding group_of max_facts
returns-in_default c =
    fault_none _ _ _ _ c.span_of-sets.ensures c.in_default.ensures

pub first_harm-requires : goal.first_harm-requires
unfolding group_of max_facts
first_harm-requires c =
    clears_order c.requires.0 c.requires.1 c.span_of-clears.ensures

pub returns : goal.returns
unfolding group_of max_facts
returns c =
    fault_at _ _ _ _ c.span_of-sets.ensures c.in-Some.ensures c.span_of-clears.ensures c.first_harm.ensures _
    (omega (arith, c.max.ensures))
