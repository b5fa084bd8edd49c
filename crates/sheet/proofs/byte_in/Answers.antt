use Rattle.rules.specs.Count.{byte}
use Rattle.std.proofs.Common.{rules}
use Rattle.sheet.proofs.byte_in.Goals as goal

pub returns : goal.returns
unfolding byte
returns c =
    search rules
