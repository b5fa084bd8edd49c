use Rattle.sheet.proofs.Laws.{two_at}
use Rattle.std.proofs.Common.{rules}
use Rattle.sheet.proofs.two_in.Goals as goal

pub returns : goal.returns
returns c =
    (two_at _ _ _ _ c.byte_in.ensures.0 c.byte_in-2.ensures.0, search rules)
