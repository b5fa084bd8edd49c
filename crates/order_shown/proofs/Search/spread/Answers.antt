use native.Mathlib.Omega.{arith}
use mathlib.Core.Path.{refl, ◌∙◌}
use Rattle.order_shown.proofs.GridLaws.{spread_start, spread_step}
use Rattle.order_shown.proofs.Search.spread.Goals as goal

pub loop-f-init : goal.loop-f-init
loop-f-init c = (λ d s. spread_start _ _ s c.requires.asks_spread.marked, c.requires.filled, refl)

pub loop-f-preserved : goal.loop-f-preserved
loop-f-preserved c = (
  λ d s.
      let w = c.loop-f.invariant.0 d s in
      spread_step w
      (c.visit.ensures.visits.moved d w.tried
      (w.state.settled.each _ (omega arith) (c.requires.asks_spread.listed.exist _ c.loop-f-test.true)))
      refl,
  c.visit.ensures.filled_2,
  c.visit.auto.table ∙ c.loop-f.invariant.2,
)
