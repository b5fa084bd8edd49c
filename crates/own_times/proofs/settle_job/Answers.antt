use Rattle.own_times.proofs.Jobs.{done_raised}
use Rattle.own_times.proofs.settle_job.Goals as goal

pub returns : goal.returns
returns c =
    done_raised _ _ c.fill.ensures c.raise.ensures
