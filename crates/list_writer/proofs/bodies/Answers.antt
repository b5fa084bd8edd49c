use Rattle.list_writer.specs.ListBytes.{marked}
use Rattle.list_writer.proofs.Laws.{bodying_start, bodying_room, bodying_yes, bodying_no}
use Rattle.std.proofs.Common.{rules}
use Rattle.sheet.specs.WellFormed.{formed_by}
use Rattle.list_writer.proofs.bodies.Goals as goal
use Rattle.list_writer.proofs.bodies.Goals.{then-jobs-j, else-jobs-j}

pub loop-j-init : goal.loop-j-init
loop-j-init c =
    let p = c.requires in bodying_start _ _ (formed_by c.args.sheet.now).formed.jobs p.1.start

pub body-requires : goal.body-requires
unfolding marked
body-requires c =
    let p = c.requires in
    let few = (formed_by c.args.sheet.now).formed in
    let first = c.at.ensures.0 in
    let taken = c.if-jobs-j.true in
    let n = c.events-n.ensures.0 in
    let inv = c.loop-j.invariant in
    bodying_room _ inv _ p.0.spans first few.events p.1.room (search rules) taken n

pub loop-j-preserved : goal.loop-j-preserved
unfolding marked
loop-j-preserved c =
    let inv = c.loop-j.invariant in
    let p = c.requires in
    let few = (formed_by c.args.sheet.now).formed in
    elim c.if-jobs-j.branch [
      | then-jobs-j w ↦
          let first = w.at.ensures.0 in
          let n = w.events-n.ensures.0 in
          rw (w.out-is, w.at-is)
          (bodying_yes _ inv _ p.0.spans first (search rules) w.if-jobs-j.true n few.jobs few.events w.body.ensures)
      | else-jobs-j w ↦ rw (w.out-is, w.at-is) (bodying_no _ inv (search rules) w.if-jobs-j.false)
    ]
