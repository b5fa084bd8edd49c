use Rattle.byte_writer.specs.Fill.{rows_start}
use Rattle.sheet_writer.proofs.Laws.{byte_step}
use Rattle.std.proofs.Common.{rules}
use Rattle.sheet_writer.proofs.marks.Goals as goal

pub loop-f-init : goal.loop-f-init
loop-f-init c =
    rows_start _ _ _ _

pub loop-f-preserved : goal.loop-f-preserved
loop-f-preserved c =
    byte_step _ _ c.loop-f.invariant (search rules) c.mark.ensures.0
    c.put_byte.ensures
