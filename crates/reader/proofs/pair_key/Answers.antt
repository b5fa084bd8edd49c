use Rattle.rules.specs.Sheet.{bound_key}
use Rattle.std.proofs.Common.{rules}
use Rattle.reader.proofs.pair_key.Goals as goal

pub returns : goal.returns
unfolding bound_key
returns c =
    search rules
