use Rattle.std.proofs.Common.{rules}
use Rattle.laws.specs.Test.{said, denied}
use Rattle.plan_points.specs.Flat.{Later.kept, Later.more}
use Rattle.plan_points.proofs.Laws.{later_than, kept_by, passed_by}
use Rattle.plan_points.proofs.later.Goals as goal
use Rattle.plan_points.proofs.later.Goals.{After-is_some_and}

test : (c : After-is_some_and) → later_than c.args.tick c.args.best c.is_some_and.result
test c = search rules

pub returns-then-is_some_and : goal.returns-then-is_some_and
returns-then-is_some_and c =
    kept (λ s. kept_by _ _ _ (test (goal.at.returns-then-is_some_and c).After-is_some_and) c.if-is_some_and.true)

pub returns-then-not-serves : goal.returns-then-not-serves
returns-then-not-serves c =
    kept (λ s. absurd (denied c.serves.result c.serves.ensures c.if-not-serves.true s))

pub returns : goal.returns
returns c =
    more (said c.serves.result c.serves.ensures c.if-not-serves.false)
    (passed_by _ _ _ (test (goal.at.returns c).After-is_some_and) c.if-is_some_and.false)
