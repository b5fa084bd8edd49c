-- The count is a number of two bytes.
use Rattle.std.proofs.Common.{◌<◌}
use Rattle.runlist.proofs.print_plan.Given as goal

abbrev pub invariant-loop-k : goal.invariant-loop-k
invariant-loop-k g l = l.count < 65536
