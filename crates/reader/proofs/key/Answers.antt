use Rattle.rules.specs.Sheet.{event_key}
use Rattle.std.proofs.Common.{rules}
use Rattle.reader.proofs.key.Goals as goal

pub returns : goal.returns
unfolding event_key
returns c =
    search rules
