use Rattle.sheet.proofs.Laws.{two_at, two_past}
use Rattle.std.proofs.Common.{rules}
use Rattle.sheet.proofs.two_at.Goals as goal

pub returns-then-i-b : goal.returns-then-i-b
returns-then-i-b c =
    (two_at _ _ _ _ c.byte_at.ensures.0 c.byte_at-then-i-b.ensures.0, search rules)

pub returns-else-i-b : goal.returns-else-i-b
returns-else-i-b c =
    (two_past _ _ c.if-i-b.false, search rules)
