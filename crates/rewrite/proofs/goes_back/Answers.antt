use Rattle.rewrite.proofs.Laws.{goes_back_is}
use Rattle.rewrite.proofs.goes_back.Goals as goal

pub returns : goal.returns
returns c =
    goes_back_is c.requires c.gap_byte.ensures.0 c.revision.ensures.0 c.no_releases.ensures
