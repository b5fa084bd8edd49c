use Rattle.sheet.proofs.Laws.{signed_at_lem}
use Rattle.std.proofs.Common.{rules}
use Rattle.sheet.proofs.signed_at.Goals as goal

pub returns : goal.returns
returns c =
    (signed_at_lem _ _ _ c.two_at.ensures.0, search rules)
