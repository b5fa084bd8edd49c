use native.Mathlib.Omega.{arith}
use Prim.Native.Nat.{◌<◌}
use mathlib.Core.Path.{sym, ◌∙◌}
use lib.ListN.{length}
use Rattle.std.specs.Prelude.{None}
use Rattle.std.proofs.lemmas.List.{get_or-map, length-map}
use Rattle.laws.specs.Test.{Says}
use Rattle.laws.specs.Test.{said, denied}
use Rattle.rules.specs.RunList.{plan_of, max_instances}
use Rattle.rules.specs.Sheet.{max_jobs}
use Rattle.sheet.specs.WellFormed.{said_by, formed_by}
use Rattle.plan_points.specs.Flat.{cell}
use Rattle.instances.proofs.Laws.{columns_lent, unchained, one_pair, pair_says}
use Rattle.instances.specs.Chain.{before}
use Rattle.instances.proofs.Links.{before_sub}
use Rattle.instances.proofs.Pairs.{PairOf, pairs_start, pairs_step, pairs_stop}
use Rattle.instances.proofs.bounds_met.Goals as goal
use Rattle.instances.proofs.bounds_met.Goals.{After-pair_met, After-job-j}

pair_is
    : (c : After-pair_met)
    → Says
    (PairOf
    (said_by c.args.sheet.now)
    (plan_of (said_by c.args.sheet.now)
    c.args.l.now) c.loop-k.k)
    c.pair_met.result
unfolding cell
pair_is c =
    let p = columns_lent c.args.columns c.requires in
    let known : c.loop-k.k < (said_by c.args.sheet.now).bounds =
    omega (arith, c.args.sheet.now.counted.bounds) in
    pair_says p known c.pair-c.ensures c.job-j.ensures.0
    c.chain.ensures
    c.from.ensures c.pair_met.result c.pair_met.ensures

pub chain-requires : goal.chain-requires
unfolding max_instances max_jobs
chain-requires c =
    unchained (columns_lent c.args.columns c.requires)

pub job-j-requires : goal.job-j-requires
job-j-requires c =
    let known : c.loop-k.k < (said_by c.args.sheet.now).bounds = omega (arith, c.args.sheet.now.counted.bounds) in
    omega (arith, c.pair-c.ensures.later, ((formed_by c.args.sheet.now).formed.bound c.loop-k.k known).later)

job_in : (c : After-job-j) → c.job-j.result < (said_by c.args.sheet.now).jobs
job_in c =
    let f = (formed_by c.args.sheet.now).formed in
    let known : c.loop-k.k < (said_by c.args.sheet.now).bounds = omega (arith, c.args.sheet.now.counted.bounds) in
    let later : c.pair-c.result.later < (said_by c.args.sheet.now).events = omega (arith, c.pair-c.ensures.later, (f.bound c.loop-k.k known).later) in
    omega (arith, c.job-j.ensures.0, f.job c.pair-c.result.later later)

pub bounds-first-j : goal.bounds-first-j
bounds-first-j c =
    let p = columns_lent c.args.columns c.requires in
    omega (arith, job_in (goal.at.bounds-first-j c).After-job-j, p.spans.long)

pub bounds-last-j : goal.bounds-last-j
unfolding max_jobs
bounds-last-j c =
    omega (arith, job_in (goal.at.bounds-last-j c).After-job-j)

pub loop-k-init : goal.loop-k-init
loop-k-init c =
    pairs_start _ _

pub pair_met-requires : goal.pair_met-requires
unfolding cell max_jobs
pair_met-requires c =
    let p = columns_lent c.args.columns c.requires in
    let f = (formed_by c.args.sheet.now).formed in
    let inside : c.job-j.result < length c.chain.new.last =
    omega (arith, job_in (goal.at.pair_met-requires c).After-job-j, f.jobs, c.chain.ensures.ends, length-map c.chain.new.last before) in
    rw (before_sub c.checked_sub.result _ c.checked_sub.ensures ∙ sym (get_or-map before c.chain.new.last c.job-j.result 0 None inside))
    (one_pair p (omega (arith, c.args.sheet.now.counted.bounds)) c.pair-c.ensures
    c.job-j.ensures.0
    c.chain.ensures c.from.ensures)

pub returns-then-not-pair_met : goal.returns-then-not-pair_met
returns-then-not-pair_met c =
    let p = columns_lent c.args.columns c.requires in
    pairs_stop _ _ (formed_by c.args.sheet.now).formed _ (omega (arith, c.args.sheet.now.counted.bounds))
    (denied c.pair_met.result (pair_is (goal.at.returns-then-not-pair_met c).After-pair_met) c.if-not-pair_met.true)

pub loop-k-preserved : goal.loop-k-preserved
loop-k-preserved c =
    pairs_step _ _ c.loop-k.invariant
    c.pair-c.ensures.next
    (said c.pair_met.result (pair_is (goal.at.loop-k-preserved c).After-pair_met) c.if-not-pair_met.false)
