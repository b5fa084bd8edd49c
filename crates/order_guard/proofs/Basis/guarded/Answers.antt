use native.Mathlib.Omega.{arith}
use mathlib.Core.Path.{◌∙◌}
use Rattle.laws.specs.Test.{said, denied}
use Rattle.laws.specs.Throughout.{throughout_more}
use Rattle.sheet.specs.WellFormed.{formed_by}
use Rattle.order_guard.proofs.Laws.{asks_hit, none_guards, hit_guarded}
use Rattle.order_guard.proofs.Basis.guarded.Goals as goal

pub span-from-requires : goal.span-from-requires
span-from-requires c =
    omega (arith, c.job-job.ensures.job, (formed_by c.args.self.now.sheet).formed.job _ c.requires.pair.col_of.in_sheet)

pub hits-requires-clause-asks_hit : goal.hits-requires-clause-asks_hit
hits-requires-clause-asks_hit c =
    let job = c.job-job.ensures in
    let few = (formed_by c.args.self.now.sheet).formed.job _ c.requires.pair.col_of.in_sheet in
    asks_hit _ _ job.ground.index.spans _ job.job (omega (arith, job.job, few)) _ _
    c.span-from.ensures.from c.span-from.ensures.end _ c.loop-x.auto.x c.loop-x-test.true

pub returns-then-hits-clause-says : goal.returns-then-hits-clause-says
returns-then-hits-clause-says c = hit_guarded (said c.hits.result c.hits.ensures.says c.if-hits.true)

pub loop-x-preserved : goal.loop-x-preserved
loop-x-preserved c = (
  throughout_more c.loop-x.invariant.0 (denied c.hits.result c.hits.ensures.says c.if-hits.false),
  c.hits.ensures.filled_2,
  c.hits.auto.table ∙ c.loop-x.invariant.2,
)

pub returns-clause-says : goal.returns-clause-says
returns-clause-says c =
    let job = c.job-job.ensures in
    let few = (formed_by c.args.self.now.sheet).formed.job _ c.requires.pair.col_of.in_sheet in
    none_guards _ _ job.ground.index.spans _ job.job (omega (arith, job.job, few)) _ _
    c.span-from.ensures.from c.span-from.ensures.end _ _ _ c.loop-x.invariant.0 c.loop-x-test.false
