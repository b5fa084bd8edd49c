use Rattle.std.proofs.Common.{arith}
use Rattle.std.proofs.lemmas.Result.{err_from_is_err_and}
use Rattle.laws.specs.Planned.{PlannedFor}
use Rattle.list_writer.specs.ListBytes.{tick_of}
use Rattle.sheet.specs.WellFormed.{formed_by}
use Rattle.least_ticks.specs.Laws.{least_copied}
use Rattle.planner.proofs.plan_inside.Goals as goal

pub solve-requires-clause-least_owns : goal.solve-requires-clause-least_owns
solve-requires-clause-least_owns c =
    let o = c.requires.able.ordered.indexed.owned in
    (least_copied _ _ (formed_by c.args.marked.now.sheet) o.least c.copied-x.ensures, omega (arith, c.copied-x.ensures.long))

pub returns-in_err-solve : goal.returns-in_err-solve
returns-in_err-solve c =
    let p = err_from_is_err_and c.from_residual.result c.from_residual.ensures.1 in
    rw (p.1, p.2) (PlannedFor.no_plan c.requires.able.inside c.in_err-solve.ensures)

pub written-requires : goal.written-requires
unfolding tick_of
written-requires c =
    let p = c.requires.able in
    record {
      inside = p.inside;
      index = p.ordered.indexed.index;
      wanted = c.requires.wanted_marks;
      best = c.in_ok-solve.ensures;
    }
