use native.Mathlib.Omega.{arith}
use mathlib.Core.Path.{sym, ◌∙◌}
use mathlib.Core.Bool.{true≢false}
use Rattle.rules.specs.Sheet.{max_facts, max_jobs}
use Rattle.rules.specs.Wanted.{is_goal}
use Rattle.sheet.specs.WellFormed.{said_by}
use Rattle.wanted.specs.View.{MarksGrow}
use Rattle.wanted.proofs.Laws.{grown_none, swept_none, swept_next, GoalAt, goal_stays, none_sized, least}
use Rattle.wanted.proofs.Wanted.new.Goals as goal
use Rattle.wanted.proofs.Wanted.new.Goals.{then-goal, else-goal}

pub loop-f-init : goal.loop-f-init
unfolding max_facts max_jobs
loop-f-init c = swept_none _ (goal_stays _) _ none_sized

pub mark_fact-requires : goal.mark_fact-requires
mark_fact-requires c =
    let p = c.requires in
    let l = c.loop-f in (
      record { index = p; sized = l.invariant.grown.sized },
      is_goal {f = l.f} (omega arith) (sym c.goal.ensures ∙ c.if-goal.true),
    )

pub loop-f-preserved : goal.loop-f-preserved
loop-f-preserved c =
    let s = said_by c.args.sheet.now in
    let l = c.loop-f in
    let m = c.if-goal in
    let w = m.progress.wanted in
    let h = l.invariant in
    -- after a turn the fact is marked if it is a goal
    let turn : MarksGrow s l.progress.wanted w × GoalAt s w l.f =
    elim m.branch [
      | then-goal w ↦ let n = w.mark_fact.ensures in rw w.progress-is (n.grown, (λ q. n.marked))
      | else-goal w ↦
          let not_goal = sym c.goal.ensures ∙ w.if-goal.false in
          rw w.progress-is (grown_none h.grown.sized, (λ q. absurd (true≢false (sym q ∙ not_goal))))
    ] in
    swept_next _ (goal_stays _) h turn.0 turn.1

pub returns : goal.returns
returns c = least c.loop-f.invariant (omega arith)
