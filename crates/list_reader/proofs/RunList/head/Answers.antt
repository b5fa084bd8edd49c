use Rattle.rules.specs.RunList.{max_instances}
use Rattle.list_reader.proofs.Laws.{head_at}
use Rattle.list_reader.proofs.RunList.head.Goals as goal

pub returns : goal.returns
unfolding max_instances
returns c =
    head_at _ _ _ _ c.byte_at.ensures.0 c.byte_at-2.ensures.0 c.two_at.ensures.0
