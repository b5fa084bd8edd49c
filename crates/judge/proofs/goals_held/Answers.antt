use native.Mathlib.Omega.{arith}
use Rattle.laws.specs.Test.{said, denied}
use Rattle.plan_points.specs.Every.{every_start, every_step, every_stop}
use Rattle.judge.proofs.Laws.{no_goal}
use Rattle.judge.proofs.goals_held.Goals as goal
use Rattle.judge.proofs.goals_held.Goals.{then-goal+else-not-goal_held, else-goal}

pub loop-f-init : goal.loop-f-init
loop-f-init c = every_start _

pub returns-then-not-goal_held : goal.returns-then-not-goal_held
returns-then-not-goal_held c =
    let d = denied c.goal_held.result c.goal_held.ensures (c.if-not-goal_held.true) in
    every_stop _ _ _ (omega (arith, c.loop-f-test.true, c.args.sheet.now.counted.facts)) d

pub loop-f-preserved : goal.loop-f-preserved
loop-f-preserved c =
    every_step _ _ c.loop-f.invariant
    (elim c.if-goal.branch [
      | then-goal+else-not-goal_held w ↦ said w.goal_held.result w.goal_held.ensures w.if-not-goal_held.false
      | else-goal w ↦ no_goal _ _ _ _ c.goal.ensures w.if-goal.false
    ])
