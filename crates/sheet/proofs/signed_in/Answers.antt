use Rattle.sheet.proofs.Laws.{signed_at_lem}
use Rattle.std.proofs.Common.{rules}
use Rattle.sheet.proofs.signed_in.Goals as goal

pub returns : goal.returns
returns c =
    (signed_at_lem _ _ _ c.two_in.ensures.0, search rules)
