use Rattle.std.proofs.Common.{arith}
use Rattle.index.specs.Keys.{counted_lent, sorted_by_fact}
use Rattle.sheet.specs.WellFormed.{formed_by}
use Rattle.planner.specs.Laws.{index_of}
use Rattle.planner.proofs.plan_formed.Goals as goal

pub starts-starts-requires : goal.starts-starts-requires
starts-starts-requires c =
    let formed = formed_by c.args.sheet.now in
    counted_lent formed.formed formed.few.facts c.keep_counted.ensures.0

pub places-event-requires-clause-lent : goal.places-event-requires-clause-lent
places-event-requires-clause-lent c =
    let formed = formed_by c.args.sheet.now in
    counted_lent formed.formed formed.few.facts c.keep_counted.ensures.0

pub plan_indexed-requires : goal.plan_indexed-requires
plan_indexed-requires c =
    let formed = formed_by c.args.sheet.now in
    let alone = c.least_times-present.ensures in
    let sorted =
    sorted_by_fact formed.formed formed.few.facts c.keep_counted.ensures.0 c.starts-starts.ensures
    c.places-event.ensures formed.few.events in
    record {
      owned =
          record { rows = c.rows.ensures; least = alone.least; long = omega arith };
      index =
          rw (c.of_type-begins.ensures, c.of_type-sets.ensures, c.of_type-clears.ensures)
          (index_of _ _ _ _ _ formed.formed alone.present sorted c.spans-span.ensures
          (c.decode.ensures.0, c.decode.ensures.1));
    }
