use Rattle.byte_writer.specs.Fill.{rows_start, rows_end}
use Rattle.sheet_bytes.specs.SheetBytes.{jobs_bytes}
use Rattle.sheet_writer.proofs.Laws.{job_room_lem, job_step}
use Rattle.std.proofs.Common.{rules}
use Rattle.sheet_writer.proofs.jobs.Goals as goal

pub loop-j-init : goal.loop-j-init
loop-j-init c =
    rows_start _ _ _ _

pub job-requires : goal.job-requires
job-requires c =
    let room = job_room_lem _ _ c.loop-j.invariant (search rules) c.job_row-row.ensures.0 c.requires in
    (search rules, room)

pub loop-j-preserved : goal.loop-j-preserved
loop-j-preserved c =
    job_step _ _ c.loop-j.invariant (search rules) c.job_row-row.ensures.0
    c.job.ensures

pub returns : goal.returns
unfolding jobs_bytes
returns c =
    rows_end _ _ _ _ c.loop-j.invariant (search rules)
