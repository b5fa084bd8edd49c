use Rattle.class.specs.Laws.{refused, setters_broken}
use Rattle.planner.proofs.plan_indexed.Goals as goal

pub returns-in-Some : goal.returns-in-Some
returns-in-Some c = refused _ _ (setters_broken c.in-Some.ensures)
