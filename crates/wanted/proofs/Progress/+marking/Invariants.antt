-- The measure is the count of unmarked facts and jobs, doubled, and one more for marking needs, which marks nothing itself before it calls.
use Rattle.std.proofs.Common.{◌+◌, ◌*◌, map}
use Rattle.sheet.specs.WellFormed.{said_by}
use Rattle.index.specs.View.{events_in}
use Rattle.wanted.proofs.Laws.{left, Swept, SetterAt, NeedAt}
use Rattle.wanted.proofs.Progress.+marking.Given as goal

abbrev pub decreases-mark_fact : goal.decreases-mark_fact
decreases-mark_fact l = 2 * left l.self.now.wanted

abbrev pub decreases-mark_needs : goal.decreases-mark_needs
decreases-mark_needs l = 2 * left l.self.now.wanted + 1

abbrev pub decreases-mark_setters : goal.decreases-mark_setters
decreases-mark_setters l = 2 * left l.self.now.wanted

abbrev pub invariant-mark_needs-loop-e : goal.invariant-mark_needs-loop-e
invariant-mark_needs-loop-e l =
    Swept (said_by l.sheet) (NeedAt (said_by l.sheet)) l.initial.self.wanted l.self.wanted l.start l.e

abbrev pub invariant-mark_setters-loop-r : goal.invariant-mark_setters-loop-r
invariant-mark_setters-loop-r l =
    Swept (said_by l.sheet) (SetterAt (said_by l.sheet) (events_in (map (λ x. x.now) l.columns))) l.initial.self.wanted l.self.wanted l.start l.r
