-- It calls itself at most once: for the large table after the middle one. The measure is 1 for the middle one and 0 for the large one.
use Rattle.std.proofs.Common.{cond}
use Rattle.order_table.proofs.+in_larger.Given as goal

abbrev pub decreases-in_larger : goal.decreases-in_larger
decreases-in_larger l = cond l.again 0 1
