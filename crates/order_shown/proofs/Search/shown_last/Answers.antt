use mathlib.Core.Path.{refl}
use Rattle.laws.specs.Limits.{most_facts}
use Rattle.order_guard.specs.Laws.{mark_none}
use Rattle.sheet.specs.WellFormed.{formed_by}
use Rattle.order_shown.specs.declared.Order.TheVariants.{Last}
use Rattle.order_shown.proofs.GridLaws.{sides_are, left_less, last_end, next_is, next_none, next_facts, lists_are, state_fewer, none_tried}
use native.Mathlib.Omega.{arith}
use Rattle.order_shown.proofs.Search.shown_last.Goals as goal

pub loop-tried-init : goal.loop-tried-init
loop-tried-init c =
    let facts = c.facts-facts.ensures.facts in (
      state_fewer _ (λ p h. absurd (mark_none most_facts p h)) c.begin.ensures.state,
      refl,
      next_facts _ _ _ c.next-tried.ensures facts,
      lists_are c.unmarked-left.ensures facts c.listed-rest.ensures,
      c.begin.ensures.filled_2,
      refl,
    )

pub loop-tried-smaller : goal.loop-tried-smaller
loop-tried-smaller c =
    let w = c.loop-tried.invariant in
    let next = next_is _ w.2 c.in-Some.is in
    left_less _ _ w.1 (omega (arith, next.exists, (formed_by c.args.self.now.basis.sheet).few.facts)) next.untried

pub spread-requires-clause-asks_spread : goal.spread-requires-clause-asks_spread
spread-requires-clause-asks_spread c =
    let w = c.loop-tried.invariant in
    let next = next_is _ w.2 c.in-Some.is in
    record {
      state = state_fewer _ (λ p h. absurd (none_tried p h)) w.0;
      listed = w.3;
      exists = next.exists;
      marked = next.marked;
    }

pub returns-clause-last_of : goal.returns-clause-last_of
returns-clause-last_of c =
    let w = c.loop-tried.invariant in
    let ground = c.facts-facts.ensures.ground in
    last_end (formed_by c.args.self.now.basis.sheet).formed (sides_are ground c.args.self.now.wanted Last) w.0 (next_none _ _ _ _ w.2 c.in_default.not-Some)
