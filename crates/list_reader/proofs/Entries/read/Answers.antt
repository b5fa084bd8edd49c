use native.Mathlib.Omega.{arith}
use Rattle.list_reader.proofs.Laws.{scanning_start, scanning_near, scanning_step, scanning_stop, scanning_end}
use Rattle.list_reader.proofs.Entries.read.Goals as goal

pub loop-k-init : goal.loop-k-init
loop-k-init c =
    scanning_start _ _ _ c.requires.0 c.two_at-count.ensures.0
    c.requires.1

pub returns-in_err-entry : goal.returns-in_err-entry
returns-in_err-entry c =
    rw c.from_residual.ensures (scanning_stop c.loop-k.invariant (omega arith) c.in_err-entry.ensures)

pub overflow_cast-place : goal.overflow_cast-place
overflow_cast-place c =
    record { fits = scanning_near c.loop-k.invariant (omega arith) }

pub loop-k-preserved : goal.loop-k-preserved
loop-k-preserved c =
    scanning_step c.loop-k.invariant (omega arith) c.in_ok-entry.ensures

pub returns : goal.returns
returns c =
    scanning_end c.loop-k.invariant (omega arith)
