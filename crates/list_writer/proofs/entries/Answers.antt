use Rattle.list_writer.specs.ListBytes.{marked}
use Rattle.list_writer.proofs.Laws.{entering_start, entering_room, entering_yes, entering_no}
use Rattle.std.proofs.Common.{rules}
use Rattle.sheet.specs.WellFormed.{formed_by}
use Rattle.list_writer.proofs.entries.Goals as goal
use Rattle.list_writer.proofs.entries.Goals.{then-jobs-j, else-jobs-j}

pub loop-j-init : goal.loop-j-init
loop-j-init c =
    let p = c.requires in entering_start _ _ (formed_by c.args.sheet.now).formed.jobs p.1.number

pub entry-requires : goal.entry-requires
unfolding marked
entry-requires c =
    entering_room _ c.loop-j.invariant (search rules)
    c.if-jobs-j.true
    c.requires.1.room

pub loop-j-preserved : goal.loop-j-preserved
unfolding marked
loop-j-preserved c =
    let inv = c.loop-j.invariant in
    let few = (formed_by c.args.sheet.now).formed in
    elim c.if-jobs-j.branch [
      | then-jobs-j w ↦
          rw (w.out-is, w.at-is, w.place-is)
          (entering_yes _ inv (search rules) w.if-jobs-j.true w.code.ensures.0 w.entry.ensures w.events.ensures.0 few.jobs few.events)
      | else-jobs-j w ↦ rw (w.out-is, w.at-is, w.place-is) (entering_no _ inv (search rules) w.if-jobs-j.false)
    ]
