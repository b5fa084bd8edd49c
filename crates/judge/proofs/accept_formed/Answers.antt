use native.Mathlib.Omega.{arith}
use mathlib.Core.Path.{refl}
use Rattle.rules.specs.Count.{byte}
use Rattle.rules.specs.RunList.{plan_of}
use Rattle.rules.specs.Plan.{IsPlan}
use Rattle.laws.specs.Test.{Says, said, denied}
use Rattle.sheet.specs.WellFormed.{said_by, formed_by}
use Rattle.plan_points.specs.Flat.{Every}
use Rattle.instances.specs.Own.{own_iff}
use Rattle.judge.specs.Points.{few_rows}
use Rattle.judge.specs.Verdict.{early_of}
use Rattle.judge.proofs.Laws.{plan_says, jobs_are, rows_in, rows_fit}
use Rattle.judge.proofs.accept_formed.Goals as goal
use Rattle.judge.proofs.accept_formed.Goals.{After-changes}

-- what points 2 to 4 say of a list that meets point 1
plan-told : (c : After-changes)
    → let a = c.args in
    Says (IsPlan (said_by a.sheet.now) (plan_of (said_by a.sheet.now) a.l.now)) c.changes.result
unfolding byte
plan-told c =
    let p = c.requires.0 in
    let r = c.rows_of-n.ensures in
    let timely = said c.rows_timely.result c.rows_timely.ensures c.if-not-rows_timely.false in
    let met = said c.bounds_met.result c.bounds_met.ensures c.if-not-bounds_met.false in
    let all = (own_iff _ (formed_by c.args.sheet.now).formed r (jobs_are p)).0 (timely, met) in
    plan_says _ _ p.list.ok all c.changes.result
    (c.changes.ensures _ r (early_of _ _ (formed_by c.args.sheet.now).gap (λ i. omega (arith, c.type_inv.l i))))

pub returns-then-not-bounds_met : goal.returns-then-not-bounds_met
unfolding Every
returns-then-not-bounds_met c =
    let d = denied c.bounds_met.result c.bounds_met.ensures (c.if-not-bounds_met.true) in
    (refl, λ q. d (λ k h i x y. (q.own i x).bounds k h y))

pub rows_timely-requires : goal.rows_timely-requires
rows_timely-requires c =
    rows_in c.requires.0
    c.rows_of-n.ensures

pub returns-then-not-rows_timely : goal.returns-then-not-rows_timely
returns-then-not-rows_timely c =
    let p = c.requires.0 in
    let d = denied c.rows_timely.result c.rows_timely.ensures (c.if-not-rows_timely.true) in
    (refl, λ q. d ((own_iff _ (formed_by c.args.sheet.now).formed c.rows_of-n.ensures (jobs_are p)).1 q.own).0)

pub changes-requires : goal.changes-requires
changes-requires c =
    let p = c.requires.0 in
    let r = c.rows_of-n.ensures in
    (rows_fit p r, few_rows (formed_by c.args.sheet.now).formed r)

pub returns-then-changes : goal.returns-then-changes
returns-then-changes c = (
  said c.changes.result (plan-told (goal.at.returns-then-changes c).After-changes) c.if-changes.true,
  c.rows_of-n.ensures,
)

pub returns-else-changes : goal.returns-else-changes
returns-else-changes c =
    (refl, denied c.changes.result (plan-told (goal.at.returns-else-changes c).After-changes) c.if-changes.false)
