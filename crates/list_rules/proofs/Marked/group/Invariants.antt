use mathlib.Core.Path.{◌≡◌}
use mathlib.Core.Bool.{true}
use Rattle.index.specs.View.{events_in}
use Rattle.marks.specs.View.{job_marks}
use Rattle.list_rules.specs.View.{sheet_of, columns_of, marks_of, link_from, link_end}
use Rattle.list_rules.proofs.Laws.{SpotTurn}
use Rattle.list_rules.proofs.Marked.group.Given as goal

abbrev pub invariant-loop-r : goal.invariant-loop-r
invariant-loop-r l =
    let cs = columns_of l.self in
    SpotTurn (sheet_of l.self) (events_in cs) (job_marks (marks_of l.self)) l.link l.initial.to l.initial.weight (link_from cs l.link) (link_end cs l.link) l.start l.r l.to l.weight l.n
    × (l.end ≡ link_end cs l.link)
    × (l.link.shown ≡ true)
