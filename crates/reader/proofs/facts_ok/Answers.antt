use native.Mathlib.Omega.{arith}
use Rattle.rules.specs.Sheet.{max_facts, max_horizon, max_gap}
use Rattle.reader.proofs.Laws.{head_after, facts_over, facts_is}
use Rattle.reader.proofs.facts_ok.Goals as goal

pub returns-then-v-gt-MAX_FACTS : goal.returns-then-v-gt-MAX_FACTS
unfolding max_facts
returns-then-v-gt-MAX_FACTS c =
    facts_over _ _ c.requires c.if-v-gt-MAX_FACTS.true

pub overflow_sub-result : goal.overflow_sub-result
overflow_sub-result c =
    omega (arith, head_after _ _ c.requires)

pub marks_ok-requires : goal.marks_ok-requires
unfolding max_facts
marks_ok-requires c =
    (c.requires.near, c.if-v-gt-MAX_FACTS.false)

pub returns : goal.returns
unfolding max_facts max_horizon max_gap
returns c =
    facts_is _ _ c.requires _ _ c.if-v-gt-MAX_FACTS.false
    c.length_of.ensures.0 c.marks_ok.ensures
