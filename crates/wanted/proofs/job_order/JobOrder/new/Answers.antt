use Rattle.std.proofs.Common.{ℕ, arith}
use Rattle.rules.specs.Sheet.{max_jobs}
use Rattle.wanted.proofs.Laws.{same_everywhere}
use Rattle.wanted.proofs.job_order.JobOrder.new.Goals as goal

pub invariant_of-result : goal.invariant_of-result
unfolding max_jobs
invariant_of-result c = record { number = λ i. omega (arith, same_everywhere {A = ℕ} max_jobs i 0); within = omega arith }
