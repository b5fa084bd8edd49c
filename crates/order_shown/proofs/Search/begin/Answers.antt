use mathlib.Core.Path.{refl, ◌∙◌}
use Rattle.order_shown.specs.declared.Order.TheVariants.{Last}
use Rattle.order_shown.proofs.GridLaws.{marked_is, none_tried, sides_are, plain_sound, begin_start, begin_skip, begin_step}
use Rattle.order_shown.proofs.Search.begin.Goals as goal
use Rattle.order_shown.proofs.Search.begin.Goals.{then-not-marking-f, else-not-marking-f}

pub loop-f-init : goal.loop-f-init
loop-f-init c = (
  begin_start c.requires.long
      (plain_sound (sides_are c.facts-f-end.ensures.ground c.args.self.now.wanted Last) c.requires.plain)
      none_tried,
  c.requires.filled,
  refl,
)

pub loop-f-preserved : goal.loop-f-preserved
loop-f-preserved c =
    let w = c.loop-f.invariant in
    elim c.if-not-marking-f.branch [
      | then-not-marking-f u ↦ rw (u.marking-is, u.table-is) (
        begin_step w.0 u.settle.ensures.moved,
        u.settle.ensures.filled_2,
        u.settle.auto.table ∙ w.2,
      )
      | else-not-marking-f u ↦ rw (u.marking-is, u.table-is) (
        begin_skip w.0 (marked_is _ _ u.if-not-marking-f.false),
        w.1,
        w.2,
      )
    ]
