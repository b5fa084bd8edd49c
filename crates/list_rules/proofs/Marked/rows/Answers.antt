use Rattle.std.proofs.Common.{◌<◌, arith, refl}
use Rattle.laws.specs.Bools.{clash}
use Rattle.sheet.specs.WellFormed.{formed_by}
use Rattle.list_rules.specs.View.{sheet_of}
use Rattle.list_rules.proofs.Fill.{turn_start, turn_small, turn_never, turn_fits, turn_step, turn_end}
use Rattle.list_rules.proofs.Marked.rows.Goals as goal
use Rattle.list_rules.proofs.Marked.rows.Goals.{After-own_count}

-- the turn is that of an event
here
    : (c : After-own_count)
    → c.loop-e.e < (sheet_of c.args.self.now).events
here c = omega (arith, c.loop-e-test.true, c.args.self.now.sheet.counted.events)

pub loop-e-init : goal.loop-e-init
loop-e-init c = turn_start (formed_by c.args.self.now.sheet).formed c.requires.own_rows.0 c.requires.own_rows.1

pub overflow_add-n : goal.overflow_add-n
overflow_add-n c =
    let p = c.requires in
    omega (
      arith,
      c.own_count.ensures,
      turn_small (formed_by c.args.self.now.sheet).formed p.own_rows.0 p.own_rows.1 c.loop-e.invariant
          (here (goal.at.overflow_add-n c).After-own_count),
    )

pub overflow_add-n-in-loop-e : goal.overflow_add-n-in-loop-e
overflow_add-n-in-loop-e c =
    let p = c.requires in
    omega (
      arith,
      c.own_count.ensures,
      turn_small (formed_by c.args.self.now.sheet).formed p.own_rows.0 p.own_rows.1 c.loop-e.invariant
          (here (goal.at.overflow_add-n-in-loop-e c).After-own_count),
    )

pub returns-then-room-n : goal.returns-then-room-n
returns-then-room-n c =
    let p = c.requires in
    record {
      rows = λ q. absurd (clash q refl);
      always =
          λ x y.
          absurd
          (turn_never (formed_by c.args.self.now.sheet).formed p.own_rows.0 p.own_rows.1 c.loop-e.invariant
          (here (goal.at.returns-then-room-n c).After-own_count)
          c.room-room.ensures c.own_count.ensures c.if-room-n.true x y);
    }

pub loop-e-preserved : goal.loop-e-preserved
loop-e-preserved c =
    let p = c.requires in
    let l = here (goal.at.loop-e-preserved c).After-own_count in
    let f = turn_fits (formed_by c.args.self.now.sheet).formed p.own_rows.0 p.own_rows.1 c.loop-e.invariant l c.room-room.ensures
    c.own_count.ensures c.if-room-n.false in
    turn_step (formed_by c.args.self.now.sheet).formed p.own_rows.0 p.own_rows.1 c.loop-e.invariant l f c.row-n.ensures c.row-n.auto.to
    c.row-n.auto.weight

pub returns : goal.returns
returns c =
    let p = c.requires in
    record {
      rows =
          λ q.
          turn_end (formed_by c.args.self.now.sheet).formed p.own_rows.0 p.own_rows.1 c.loop-e.invariant
          (omega (arith, c.loop-e-test.false, c.args.self.now.sheet.counted.events));
      always = λ x y. refl;
    }
