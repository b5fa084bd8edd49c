use mathlib.Core.Path.{refl}
use Rattle.laws.specs.Test.{denied}
use Rattle.order_shown.specs.declared.Order.TheVariants.{Last}
use Rattle.order_shown.proofs.GridLaws.{marked_is, not_marked, sides_are, visiting, visiting_first, visit_row, visit_col, visit_marked, visit_moved, visit_settle, visit_two, visit_keep}
use Rattle.order_shown.proofs.Search.visit.Goals as goal

pub returns-then-marking-f-clause-visits : goal.returns-then-marking-f-clause-visits
returns-then-marking-f-clause-visits c =
    record { moved = λ d tried h. visit_marked (visiting c.requires.asks_visit d tried h) (marked_is _ _ c.if-marking-f.true) }

pub event_at-requires : goal.event_at-requires
event_at-requires c = visit_row (visiting_first c.requires.asks_visit) (not_marked _ _ c.if-marking-f.false) _ refl

pub event_at-requires-2 : goal.event_at-requires-2
event_at-requires-2 c = visit_col (visiting_first c.requires.asks_visit) (not_marked _ _ c.if-marking-f.false) _ refl

pub guards-requires-clause-pair : goal.guards-requires-clause-pair
guards-requires-clause-pair c =
    visit_two (visiting_first c.requires.asks_visit) (not_marked _ _ c.if-marking-f.false) _ refl
    _ _ c.event_at.ensures.event c.event_at-2.ensures.event
    (sides_are c.event_at.ensures.ground c.args.self.now.wanted Last)

pub returns-then-not-guards-clause-visits : goal.returns-then-not-guards-clause-visits
returns-then-not-guards-clause-visits c =
    record {
      moved = λ d tried h.
          visit_keep (visiting c.requires.asks_visit d tried h) (not_marked _ _ c.if-marking-f.false) _ refl
          _ _ c.event_at.ensures.event c.event_at-2.ensures.event
          (denied c.guards.result c.guards.ensures.says c.if-not-guards.true);
    }

pub settle-requires-clause-asks_settle : goal.settle-requires-clause-asks_settle
settle-requires-clause-asks_settle c = visit_settle (visiting_first c.requires.asks_visit) (not_marked _ _ c.if-marking-f.false) _ refl

pub returns-clause-visits : goal.returns-clause-visits
returns-clause-visits c = record { moved = λ d tried h. visit_moved (visiting c.requires.asks_visit d tried h) c.settle.ensures.moved }
