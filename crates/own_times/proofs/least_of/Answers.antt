use native.Mathlib.Omega.{arith}
use Rattle.own_times.proofs.Own.{job_shaped}
use Rattle.own_times.proofs.least_of.Goals as goal

pub settle_job-settled-requires-clause-rows_formed : goal.settle_job-settled-requires-clause-rows_formed
settle_job-settled-requires-clause-rows_formed c =
    let p = c.requires.rules_ask in
    λ l. rw (c.from.ensures, c.from-2.ensures) (job_shaped p.0 _ p.1 (omega (arith, l, c.from.ensures, c.from-2.ensures)))
