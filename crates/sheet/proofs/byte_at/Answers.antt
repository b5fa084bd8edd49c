use Rattle.sheet.proofs.Laws.{past}
use Rattle.std.proofs.Common.{rules}
use Rattle.sheet.proofs.byte_at.Goals as goal

pub returns-else-i-b : goal.returns-else-i-b
returns-else-i-b c =
    (past _ _ c.if-i-b.false, search rules)
