use Rattle.byte_writer.specs.Fill.{Rows}
use Rattle.list_writer.specs.ListBytes.{ticks_from, tick_of}
use Rattle.list_writer.proofs.body.Given as goal

abbrev pub invariant-loop-i : goal.invariant-loop-i
invariant-loop-i l =
    Rows l.initial.out l.at (ticks_from (tick_of l.x) l.e) l.n l.i l.out
