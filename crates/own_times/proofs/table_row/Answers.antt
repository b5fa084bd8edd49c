use native.Mathlib.Nat.{mul-le-mul_left}
use Rattle.std.proofs.Common.{arith, ◌+◌, ◌*◌, ◌<◌, ◌≤◌}
use Rattle.sheet.specs.WellFormed.{said_by, formed_by}
use Rattle.laws.specs.Columns.{get_d_map}
use Rattle.own_times.proofs.TableRows.{row_shaped, row_asks, row_lent, row_put, to_rules, from_rules}
use Rattle.own_times.proofs.table_row.Goals as goal
use Rattle.own_times.proofs.table_row.Goals.{After-job-j}

row_job : (c : After-job-j) → c.job-j.result < (said_by c.args.sheet.now).jobs
row_job c =
    let p = c.requires in
    omega (arith, c.job-j.ensures.0, (formed_by c.args.sheet.now).formed.job c.args.e p.row_asks.event.in_sheet)

pub at-requires : goal.at-requires
at-requires c =
    let j = row_job (goal.at.at-requires c).After-job-j in
    (omega arith, omega (arith, j, c.requires.table_asks.rules.by_job.long))

pub at-requires-2 : goal.at-requires-2
at-requires-2 c =
    let j = row_job (goal.at.at-requires-2 c).After-job-j in
    (omega arith, omega (arith, j, c.requires.table_asks.rules.by_job.long))

pub slice_bounds-widen-end : goal.slice_bounds-widen-end
slice_bounds-widen-end c =
    let p = c.requires in
    let j = row_job (goal.at.slice_bounds-widen-end c).After-job-j in
    let hi = p.table_asks.rules.by_job.within (c.job-j.result + 1) (omega (arith, j)) in
    let far : c.args.m * c.args.e ≤ c.args.m * (said_by c.args.sheet.now).events = mul-le-mul_left c.args.m (omega (arith, p.row_asks.event.in_sheet)) in
    omega (arith, hi, c.at-2.ensures.0, p.row_asks.room, far)

pub widen-requires : goal.widen-requires
widen-requires c =
    let p = c.requires in
    let a = p.table_asks.rules in
    let h = c.args.sheet.now.counted.horizon in
    let j = c.job-j.ensures.0 in
    let lo = c.at.ensures.0 in
    let hi = c.at-2.ensures.0 in
    let t = to_rules c.rules_of.ensures (get_d_map (λ x. x.now) c.args.own 3 _)
    (row_shaped a p.table_asks.times p.row_asks _ _ _ _ j lo hi h)
    (row_lent a p.table_asks.times p.row_asks _ _ _ _ j lo hi h)
    (row_asks a p.table_asks.times p.row_asks _ _ _ _ j lo hi h) in
    record { rows_formed = t.0; lent = t.1.0; wide_asks = t.1.1 }

pub returns : goal.returns
returns c =
    let p = c.requires in
    row_put p.table_asks.rules p.table_asks.times p.row_asks _ _ _ _ c.job-j.ensures.0 c.at.ensures.0 c.at-2.ensures.0
    c.args.sheet.now.counted.horizon
    _
    c.widen.auto.row
    (from_rules c.rules_of.ensures (get_d_map (λ x. x.now) c.args.own 3 _) c.widen.ensures)
