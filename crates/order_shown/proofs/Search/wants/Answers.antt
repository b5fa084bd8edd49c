use native.Mathlib.Omega.{arith}
use mathlib.Core.Path.{ap}
use lib.ListN.{get_or}
use mathlib.Core.Bool.{false}
use Rattle.order_guard.specs.Pair.{mark_of}
use Rattle.sheet.specs.WellFormed.{formed_by}
use Rattle.order_shown.proofs.GridLaws.{jobs_long}
use Rattle.order_shown.proofs.Search.wants.Goals as goal

pub bounds-self-job : goal.bounds-self-job
bounds-self-job c =
    jobs_long c.args.self.now.wanted
    (omega (arith, c.job-job.ensures.job, (formed_by c.args.self.now.basis.sheet).formed.job _ c.requires))

pub returns : goal.returns
unfolding mark_of
returns c = ap (λ j. get_or c.args.self.now.jobs.now j false) c.job-job.ensures.job
