use native.Mathlib.Omega.{arith}
use Rattle.rules.specs.Plan.{gap}
use Rattle.sheet.specs.WellFormed.{formed_by}
use Rattle.judge.proofs.Laws.{goal_says, goal_fact, goal_own}
use Rattle.judge.proofs.goal_held.Goals as goal

pub fault-requires : goal.fault-requires
unfolding gap
fault-requires c =
    let p = c.requires in
    let w = formed_by c.args.sheet.now in
    let e = c.goal.ensures in (
      p.0,
      omega (arith, goal_fact _ _ e, p.1, w.formed.facts),
      goal_own _ _ _ _ e (omega (arith, c.gap-gap.ensures, w.gap)),
    )

pub returns : goal.returns
returns c =
    goal_says _ _ _ _ c.requires.2 c.goal.ensures
    c.gap-gap.ensures c.initial.ensures c.fault.result c.fault.ensures
