use mathlib.Core.Path.{sym, ap}
use Rattle.byte_writer.specs.Bytes.{pair}
use Rattle.byte_writer.specs.Fill.{rows_start, rows_step}
use Rattle.list_writer.specs.ListBytes.{time_size, ticks_from, tick_of}
use Rattle.byte_writer.specs.Joined.{pair_length}
use Rattle.std.proofs.Common.{rules}
use Rattle.list_writer.proofs.body.Goals as goal

pub loop-i-init : goal.loop-i-init
loop-i-init c =
    rows_start _ _ _ _

pub loop-i-preserved : goal.loop-i-preserved
unfolding tick_of ticks_from
loop-i-preserved c =
    rows_step _ _ _ _ c.loop-i.invariant time_size (λ i. pair_length _) (search rules)
    (ap pair (sym c.from.ensures))
    c.put.ensures
