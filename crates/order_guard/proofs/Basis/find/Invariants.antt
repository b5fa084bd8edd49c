use mathlib.Core.Path.{◌≡◌}
use lib.ListN.{get_or}
use Rattle.laws.specs.Throughout.{Throughout}
use Rattle.index.specs.View.{events_in}
use Rattle.order_guard.specs.Basis.{sheet_of}
use Rattle.order_guard.proofs.Basis.find.Given as goal

abbrev pub invariant-loop-i : goal.invariant-loop-i
invariant-loop-i l =
    Throughout (λ r. ((sheet_of l.self).event (get_or (events_in l.self.columns) r 0)).job ≡ l.job → ⊥) l.from l.i
