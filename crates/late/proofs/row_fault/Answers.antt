use native.Mathlib.Omega.{arith}
use Rattle.std.proofs.Common.{ℕ, ◌<◌, List, get_or, Fits, w32, ap}
use Rattle.sheet.specs.View.{type_of, fact_of}
use Rattle.sorting.specs.Counting.{group_in}
use Rattle.plan_points.specs.Flat.{cell}
use Rattle.judge.specs.RowEvent.{row_fact, row_small, row_kind}
use Rattle.late.specs.Rows.{RowFault.need, RowFault.set, RowFault.other}
use Rattle.late.proofs.row_fault.Goals as goal

-- a row's group is one of the groups
few : (rows : List ℕ) (k : ℕ) → Fits w32 (get_or rows k 0) → group_in (cell rows k) < 256
unfolding cell
few rows k h = omega (arith, h)

pub need_fault-requires : goal.need_fault-requires
unfolding cell
need_fault-requires c =
    let p = c.requires in
    let g = few c.args.rows.now c.args.k (c.type_inv.rows c.args.k) in (
      p.0,
      p.1,
      p.2,
      row_fact _ g c.event.ensures (ap fact_of c.in-Begins.is),
      row_kind _ g c.event.ensures (ap type_of c.in-Begins.is),
      p.3,
    )

pub set_fault-requires : goal.set_fault-requires
unfolding cell
set_fault-requires c = (
  c.requires.0,
  row_small _ (few c.args.rows.now c.args.k (c.type_inv.rows c.args.k)) c.event.ensures (ap fact_of c.in-Sets.is),
)

pub returns-in-Begins : goal.returns-in-Begins
unfolding cell
returns-in-Begins c =
    need (row_kind _ (few c.args.rows.now c.args.k (c.type_inv.rows c.args.k)) c.event.ensures (ap type_of c.in-Begins.is)) c.need_fault.ensures

pub returns-in-Ends : goal.returns-in-Ends
unfolding cell
returns-in-Ends c =
    let kind = row_kind _ (few c.args.rows.now c.args.k (c.type_inv.rows c.args.k)) c.event.ensures (ap type_of c.in-Ends.is) in
    other (λ z. omega (arith, kind)) (λ z. omega (arith, kind))

pub returns-in-Sets : goal.returns-in-Sets
unfolding cell
returns-in-Sets c =
    let e = c.event.ensures in
    let g = few c.args.rows.now c.args.k (c.type_inv.rows c.args.k) in
    set (row_kind _ g e (ap type_of c.in-Sets.is))
    (rw (row_fact _ g e (ap fact_of c.in-Sets.is)) at c.set_fault.ensures)

pub returns-in-Clears : goal.returns-in-Clears
unfolding cell
returns-in-Clears c =
    let kind = row_kind _ (few c.args.rows.now c.args.k (c.type_inv.rows c.args.k)) c.event.ensures (ap type_of c.in-Clears.is) in
    other (λ z. omega (arith, kind)) (λ z. omega (arith, kind))
