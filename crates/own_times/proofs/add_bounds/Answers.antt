use native.Mathlib.Omega.{arith}
use Rattle.laws.specs.Events.{small}
use Rattle.laws.specs.Pairs.{next_pair}
use Rattle.sheet.specs.WellFormed.{said_by, formed_by}
use Rattle.own_times.specs.Rules.{bound_rules, Has, RuleOf, RuleInList}
use mathlib.Core.Path.{subst, ◌∙◌}
use Rattle.own_times.proofs.Laws.{small_high_lem, Pair-turn, room_for, room_then}
use Rattle.own_times.proofs.add_bounds.Goals as goal

pub add-n-requires-in-loop-i : goal.add-n-requires-in-loop-i
add-n-requires-in-loop-i c = (
  room_for bound_rules _ c.requires (room_then c.loop-i.invariant.2 c.add-n.auto.from c.add-n.auto.to c.add-n.auto.weight)
      (omega (
        arith,
        (small _ (formed_by c.args.sheet.now).formed).bounds,
        c.args.sheet.now.counted.bounds,
        c.loop-i-test.true,
        c.loop-i.invariant.0.count,
        c.add-n.ensures.count,
      )),
  small_high_lem _ (formed_by c.args.sheet.now).formed _ (omega (arith, c.args.sheet.now.counted.bounds, c.loop-i-test.true)) c.pair-c.ensures _
      c.args.sheet.now.counted.horizon,
)

pub loop-i-preserved : goal.loop-i-preserved
loop-i-preserved c = (
  Pair-turn _ (formed_by c.args.sheet.now).formed _ (omega (arith, c.args.sheet.now.counted.bounds, c.loop-i-test.true)) c.pair-c.ensures _
      c.args.sheet.now.counted.horizon c.loop-i.invariant.0 c.add-n.ensures c.add-n-in-loop-i.ensures,
  next_pair _ c.pair-c.ensures.next c.loop-i.invariant.1,
  record {
    sources = c.add-n-in-loop-i.auto.from ∙ c.add-n.auto.from ∙ c.loop-i.invariant.2.sources;
    targets = c.add-n-in-loop-i.auto.to ∙ c.add-n.auto.to ∙ c.loop-i.invariant.2.targets;
    weights = c.add-n-in-loop-i.auto.weight ∙ c.add-n.auto.weight ∙ c.loop-i.invariant.2.weights;
  },
)

pub returns : goal.returns
returns c =
    record {
      has = subst (λ k. Has (said_by c.args.sheet.now).horizon (RuleOf (said_by c.args.sheet.now) k 0)
          (RuleInList c.loop-i.from c.loop-i.to c.loop-i.weight c.loop-i.n)) (omega
          (arith, c.args.sheet.now.counted.bounds, c.loop-i-test.false)) c.loop-i.invariant.0.has;
      count = omega (arith, c.loop-i.invariant.0.count, c.loop-i.invariant.1, (small _ (formed_by c.args.sheet.now).formed).bounds);
    }
