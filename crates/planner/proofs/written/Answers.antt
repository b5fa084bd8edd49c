use Rattle.std.proofs.Common.{arith}
use Rattle.list_writer.specs.ListBytes.{marked}
use Rattle.list_writer.specs.Answers.{wrote_plan, wrote_short}
use Rattle.planner.proofs.written.Goals as goal

pub returns-then-size-out : goal.returns-then-size-out
unfolding marked
returns-then-size-out c =
    let p = c.requires in
    wrote_plan c.args.sheet.now.well p.inside p.wanted.job_wanted p.wanted.job_marked p.best c.write-size.ensures
    (omega (arith, c.if-size-out.true, c.write-size.auto.out))

pub returns-else-size-out : goal.returns-else-size-out
unfolding marked
returns-else-size-out c =
    let p = c.requires in
    wrote_short c.args.sheet.now.well p.inside p.wanted.job_wanted p.wanted.job_marked p.best c.write-size.ensures
    (omega (arith, c.if-size-out.false, c.write-size.auto.out))
