use Rattle.list_writer.specs.ListBytes.{marked}
use Rattle.list_writer.proofs.Laws.{timing_start, timing_yes, timing_no}
use Rattle.std.proofs.Common.{rules}
use Rattle.sheet.specs.WellFormed.{formed_by}
use Rattle.list_writer.proofs.times.Goals as goal
use Rattle.list_writer.proofs.times.Goals.{then-jobs-j, else-jobs-j}

pub loop-j-init : goal.loop-j-init
loop-j-init c =
    timing_start

pub loop-j-preserved : goal.loop-j-preserved
unfolding marked
loop-j-preserved c =
    let inv = c.loop-j.invariant in
    let few = (formed_by c.args.sheet.now).formed.events in
    elim c.if-jobs-j.branch [
      | then-jobs-j w ↦ rw w.n-is (timing_yes few inv _ (search rules) w.if-jobs-j.true w.events-n.ensures.0)
      | else-jobs-j w ↦ rw w.n-is (timing_no few inv (search rules) w.if-jobs-j.false)
    ]
