use mathlib.Core.Path.{refl}
use Rattle.sheet.specs.View.{event_from}
use Rattle.sheet.proofs.Laws.{clears_from}
use Rattle.sheet.proofs.Event.decode.Goals as goal

pub returns-then-kind-eq-BEGINS : goal.returns-then-kind-eq-BEGINS
unfolding event_from
returns-then-kind-eq-BEGINS c =
    rw c.if-kind-eq-BEGINS.true refl

pub returns-then-kind-eq-ENDS : goal.returns-then-kind-eq-ENDS
unfolding event_from
returns-then-kind-eq-ENDS c =
    rw c.if-kind-eq-ENDS.true refl

pub returns-then-kind-eq-SETS : goal.returns-then-kind-eq-SETS
unfolding event_from
returns-then-kind-eq-SETS c =
    rw c.if-kind-eq-SETS.true refl

pub returns : goal.returns
returns c =
    clears_from _ _ c.if-kind-eq-BEGINS.false c.if-kind-eq-ENDS.false c.if-kind-eq-SETS.false
