use mathlib.Core.Path.{sym, ◌∙◌}
use mathlib.Core.Bool.{true≢false}
use Rattle.order_shown.proofs.GridLaws.{open_says}
use Rattle.order_shown.proofs.Search.is_open.Goals as goal
use Rattle.order_shown.proofs.Search.is_open.Goals.{else-both-via-then-both+else-not-wants-2, else-both-via-else-both}

pub returns-clause-tells : goal.returns-clause-tells
returns-clause-tells c =
    open_says _ _ _ _ _ _
    (elim c.else-both.branch [
      | else-both-via-then-both+else-not-wants-2 w ↦ λ q. sym w.wants-then-both.ensures ∙ w.if-not-wants-2.false
      | else-both-via-else-both w ↦ λ q. absurd (true≢false (sym q ∙ sym c.both.ensures ∙ w.if-both.false))
    ])
    (sym c.wants.ensures ∙ c.if-not-wants.false)
    c.guarded.result
    c.guarded.ensures.says
