use mathlib.Core.List.{map}
use Rattle.sheet.specs.WellFormed.{said_by}
use Rattle.plan_points.specs.Flat.{Every}
use Rattle.instances.specs.Rows.{entry_jobs}
use Rattle.instances.specs.Own.{TimelyRow}
use Rattle.instances.proofs.rows_timely.Given as goal

abbrev pub invariant-loop-k : goal.invariant-loop-k
invariant-loop-k l = Every (TimelyRow (said_by l.sheet) (entry_jobs (map (λ x. x.now) l.fn.columns)) l.rows l.count) l.k
