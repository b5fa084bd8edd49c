use native.Mathlib.Omega.{arith}
use Prim.Native.Nat.{◌<◌}
use Rattle.rules.specs.RunList.{max_instances}
use Rattle.sheet.specs.WellFormed.{said_by}
use Rattle.plan_points.specs.Flat.{cell}
use Rattle.instances.proofs.Laws.{columns_lent, filling_start, entry_known, body_fits, body_filled, filling_end}
use Rattle.instances.proofs.fill.Goals as goal
use Rattle.instances.proofs.fill.Goals.{After-from-j}

known : (c : After-from-j) → c.from-j.result < (said_by c.args.sheet.now).jobs
unfolding cell
known c =
    let w = columns_lent c.args.columns c.requires.0 in
    omega (arith, c.from-j.ensures, entry_known w c.loop-i.i c.loop-i-test.true)

pub loop-i-init : goal.loop-i-init
loop-i-init c = filling_start _ _ _

pub offset_bounds-jobs-i : goal.offset_bounds-jobs-i
unfolding max_instances
offset_bounds-jobs-i c = omega (arith, c.requires.0.list.few)

pub bounds-spans-j : goal.bounds-spans-j
bounds-spans-j c =
    let w = columns_lent c.args.columns c.requires.0 in
    omega (arith, known (goal.at.bounds-spans-j c).After-from-j, w.spans.long, c.args.sheet.now.few.jobs)

pub bounds-spans-j-in-loop-i : goal.bounds-spans-j-in-loop-i
bounds-spans-j-in-loop-i c =
    let w = columns_lent c.args.columns c.requires.0 in
    omega (arith, known (goal.at.bounds-spans-j-in-loop-i c).After-from-j, w.spans.long, c.args.sheet.now.few.jobs)

pub fill_body-n-requires : goal.fill_body-n-requires
unfolding cell
fill_body-n-requires c =
    let p = c.requires in
    body_fits (columns_lent c.args.columns p.0) p.1 p.2.room p.2.few c.loop-i.invariant c.loop-i-test.true _
    c.from-j.ensures c.from.ensures
    c.from-in-loop-i.ensures c.from-in-loop-i-2.ensures

pub loop-i-preserved : goal.loop-i-preserved
unfolding cell
loop-i-preserved c =
    let p = c.requires in
    body_filled (columns_lent c.args.columns p.0) p.1 p.2.room p.2.few c.loop-i.invariant c.loop-i-test.true _
    c.from-j.ensures
    c.from.ensures
    c.from-in-loop-i.ensures
    c.from-in-loop-i-2.ensures
    c.fill_body-n.ensures

pub returns : goal.returns
returns c =
    let p = c.requires in
    filling_end p.0 p.2.room c.loop-i.invariant c.loop-i-test.false
