use mathlib.Core.List.{map}
use Rattle.sheet.specs.WellFormed.{said_by}
use Rattle.own_times.proofs.Jobs.{Raising}
use Rattle.own_times.proofs.least_times.Given as goal

abbrev pub invariant-loop-j : goal.invariant-loop-j
invariant-loop-j l =
    Raising (said_by l.sheet) l.span (map (λ x. x.now) l.rules) l.initial.x l.x l.present l.j
