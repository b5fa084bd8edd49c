use native.Mathlib.Omega.{arith}
use mathlib.Core.Path.{ap, ◌∙◌}
use mathlib.Core.List.{map}
use lib.ListN.{length}
use Rattle.rules.specs.Plan.{earliest}
use Rattle.rules.specs.RunList.{max_times}
use Rattle.laws.specs.Test.{Says, said, denied}
use Rattle.sheet.specs.WellFormed.{said_by}
use Rattle.plan_points.specs.Flat.{cell}
use Rattle.plan_points.specs.Every.{every_start, every_step, every_stop}
use Rattle.instances.specs.Rows.{entry_jobs}
use Rattle.instances.specs.Own.{TimelyRow}
use Rattle.instances.proofs.Laws.{jobs_lent, job_lent, timely_row}
use Rattle.instances.proofs.rows_timely.Goals as goal
use Rattle.instances.proofs.rows_timely.Goals.{After-timely}

row_says
    : (c : After-timely)
    → Says
    (TimelyRow (said_by c.args.sheet.now) (entry_jobs (map (λ x. x.now) c.args.columns)) c.args.rows.now c.args.count c.loop-k.k)
    c.timely.result
unfolding cell
row_says c =
    timely_row _ _ _ _ _ (c.requires.groups _ c.loop-k-test.true)
    (c.earliest-earliest.ensures.0 ∙ ap (earliest (said_by c.args.sheet.now)) (job_lent c.args.columns c.from.ensures c.entry.ensures.0))
    (c.latest-latest.ensures _)
    c.event.ensures
    c.tick.ensures.0
    c.next_tick-next.ensures.0
    c.timely.result
    c.timely.ensures

pub loop-k-init : goal.loop-k-init
loop-k-init c = every_start _

pub bounds-jobs-entry : goal.bounds-jobs-entry
unfolding cell
bounds-jobs-entry c =
    omega (arith, c.entry.ensures.0, c.requires.entry c.loop-k.k c.loop-k-test.true, ap length (jobs_lent c.args.columns))

pub earliest-earliest-requires : goal.earliest-earliest-requires
unfolding cell
earliest-earliest-requires c =
    let p = c.requires in
    (omega (arith, p.job c.loop-k.k c.loop-k-test.true, job_lent c.args.columns c.from.ensures c.entry.ensures.0))

pub next_tick-next-requires : goal.next_tick-next-requires
unfolding max_times
next_tick-next-requires c = (c.requires.room, c.loop-k-test.true, omega (arith, c.requires.few))

pub returns-then-not-timely : goal.returns-then-not-timely
returns-then-not-timely c =
    every_stop _ _ _ c.loop-k-test.true
    (denied c.timely.result (row_says (goal.at.returns-then-not-timely c).After-timely) c.if-not-timely.true)

pub loop-k-preserved : goal.loop-k-preserved
loop-k-preserved c =
    every_step _ _ c.loop-k.invariant (said c.timely.result (row_says (goal.at.loop-k-preserved c).After-timely) c.if-not-timely.false)
