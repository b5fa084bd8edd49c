use Rattle.list_writer.proofs.Laws.{size_is}
use Rattle.list_writer.proofs.length.Goals as goal

pub returns : goal.returns
returns c =
    λ t. size_is c.count.ensures c.times.ensures t
