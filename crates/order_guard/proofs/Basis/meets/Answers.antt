use Rattle.std.specs.Prelude.{None}
use native.Mathlib.Omega.{arith}
use Rattle.sheet.specs.WellFormed.{formed_by}
use Rattle.order_guard.proofs.Laws.{finds_of, is_of, until_is, no_begin, asks_at_most, guard_says}
use Rattle.order_guard.proofs.Basis.meets.Goals as goal

pub find-requires : goal.find-requires
find-requires c =
    let clear = c.requires.clear in
    record {
      column = omega arith;
      fact = omega (arith, (formed_by c.args.self.now.sheet).formed.fact _ clear.in_sheet, clear.of_fact);
      alone = rw c.job-job.ensures.job c.requires.pair.row_of.alone;
    }

pub returns-in_default-clause-says : goal.returns-in_default-clause-says
returns-in_default-clause-says c =
    no_begin (formed_by c.args.self.now.sheet).formed _ (finds_of _ _ _ None c.in_default.ensures c.job-job.ensures.job)

pub at_most-requires : goal.at_most-requires
at_most-requires c =
    let ground = c.job-job.ensures.ground in
    let w = formed_by c.args.self.now.sheet in
    let end = until_is w.formed _ c.in-Some.ensures in
    asks_at_most w.sheet.events w.few.events ground.few c.make_row-2.ensures.filled_2
    c.requires.clear.in_sheet c.requires.pair.col_of.in_sheet end.in_sheet c.requires.pair.row_of.in_sheet

pub returns-clause-says : goal.returns-clause-says
returns-clause-says c =
    let w = formed_by c.args.self.now.sheet in
    let end = until_is w.formed _ (is_of c.in-Some.ensures c.job-job.ensures.job) in
    let made = c.make_row-2.ensures.grown in
    guard_says _ w.formed _ _ _ c.make_row-2.ensures.filled_2 _ _ _ _ _ c.requires.pair end c.requires.clear
    (made.still _ c.requires.clear.in_sheet c.make_row.ensures.grown.here)
    made.here
    c.at_most.result
    c.at_most.ensures
