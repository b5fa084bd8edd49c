use Rattle.std.proofs.Common.{arith}
use Rattle.least_ticks.specs.Laws.{long_enough}
use Rattle.least_ticks.proofs.least_ticks.Goals as goal

pub unwrap-requires : goal.unwrap-requires
unwrap-requires c =
    long_enough _ _ _ _ _ (omega arith) c.in_columns-2.ensures
