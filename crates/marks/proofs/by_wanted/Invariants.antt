use Rattle.std.proofs.Common.{ℕ, ◌≡◌, ◌<◌, ◌≤◌, false, map, get_or}
use Rattle.sheet.specs.WellFormed.{said_by}
use Rattle.index.specs.View.{events_in}
use Rattle.marks.specs.View.{job_marks}
use Rattle.marks.proofs.by_wanted.Given as goal

abbrev pub invariant-loop-r : goal.invariant-loop-r
invariant-loop-r l =
    (i : ℕ)
    → l.start ≤ i
    → i < l.r
    → get_or (job_marks (map (λ x. x.now) l.marks)) ((said_by l.sheet).event (get_or (events_in (map (λ x. x.now) l.columns)) i 0)).job false ≡ false
