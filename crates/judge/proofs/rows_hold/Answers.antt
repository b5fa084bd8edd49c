use native.Mathlib.Omega.{arith}
use Rattle.std.proofs.Common.{rules}
use Rattle.std.proofs.Common.{ℕ, ◌<◌, List, get_or, Fits, w32, ap}
use Rattle.laws.specs.Test.{Says, said, denied}
use Rattle.sheet.specs.WellFormed.{said_by}
use Rattle.sheet.specs.View.{type_of, fact_of}
use Rattle.sorting.specs.Counting.{group_in}
use Rattle.plan_points.specs.Flat.{cell}
use Rattle.plan_points.specs.Every.{every_start, every_step, every_stop}
use Rattle.judge.specs.Points.{RowHoldsAt}
use Rattle.judge.specs.RowEvent.{row_fact, row_small, row_kind}
use Rattle.judge.proofs.Laws.{begin_says, set_says, other_holds}
use Rattle.judge.proofs.rows_hold.Goals as goal
use Rattle.judge.proofs.rows_hold.Goals.{Joined-event, in-Begins, in-Ends, in-Sets, in-Clears}

-- a row's group is one of the groups
few : (rows : List ℕ) (k : ℕ) → Fits w32 (get_or rows k 0) → group_in (cell rows k) < 256
unfolding cell
few rows k h = omega (arith, h)

-- the row holds, by the type of its event
row-says : (c : Joined-event)
    → let a = c.args in
    Says
    (RowHoldsAt (said_by a.sheet.now) a.first.now a.sorted.now a.rows.now a.count
    c.loop-k.k)
    c.match-event.holds
unfolding cell
row-says c =
    let e = c.event.ensures in
    let g = few c.args.rows.now c.loop-k.k (c.type_inv.rows c.loop-k.k) in
    elim c.match-event.branch [
      | in-Begins w ↦
          rw w.holds-is
          (begin_says _ _ _ _ _ (row_kind _ g e (ap type_of w.in-Begins.is)) w.need_fault.result w.need_fault.ensures)
      | in-Ends w ↦
          rw w.holds-is (other_holds (row_kind _ g e (ap type_of w.in-Ends.is)) (λ z. omega arith) (λ z. omega arith))
      | in-Sets w ↦
          set_says _ _ _ _ _ (row_fact _ g e (ap fact_of w.in-Sets.is)) (row_kind _ g e (ap type_of w.in-Sets.is)) w.tick.ensures.0
          c.match-event.holds (rw w.holds-is (search rules))
      | in-Clears w ↦
          rw w.holds-is (other_holds (row_kind _ g e (ap type_of w.in-Clears.is)) (λ z. omega arith) (λ z. omega arith))
    ]

pub loop-k-init : goal.loop-k-init
loop-k-init c = every_start _

pub need_fault-requires : goal.need_fault-requires
unfolding cell
need_fault-requires c =
    let p = c.requires in
    let g = few c.args.rows.now c.loop-k.k (c.type_inv.rows c.loop-k.k) in (
      p.0,
      p.1,
      c.loop-k-test.true,
      row_fact _ g c.event.ensures (ap fact_of c.in-Begins.is),
      row_kind _ g c.event.ensures (ap type_of c.in-Begins.is),
      p.2,
    )

pub free-holds-requires : goal.free-holds-requires
unfolding cell
free-holds-requires c = (
  c.requires.0,
  row_small _ (few c.args.rows.now c.loop-k.k (c.type_inv.rows c.loop-k.k)) c.event.ensures (ap fact_of c.in-Sets.is),
)

pub returns-then-not-holds : goal.returns-then-not-holds
returns-then-not-holds c =
    every_stop _ _ _ c.loop-k-test.true
    (denied c.match-event.holds (row-says (goal.at.returns-then-not-holds c).Joined-event) c.if-not-holds.true)

pub loop-k-preserved : goal.loop-k-preserved
loop-k-preserved c =
    every_step _ _ c.loop-k.invariant
    (said c.match-event.holds (row-says (goal.at.loop-k-preserved c).Joined-event) c.if-not-holds.false)
