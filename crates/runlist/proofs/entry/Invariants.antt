-- `at` goes on by two with each line.
use Rattle.std.proofs.Common.{◌+◌, ◌*◌, ◌≤◌}
use Rattle.runlist.proofs.entry.Given as goal

abbrev pub invariant-loop-e : goal.invariant-loop-e
invariant-loop-e g l = l.at ≤ 65536 + 2 * l.e
