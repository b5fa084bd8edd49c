use native.Mathlib.Omega.{arith}
use Rattle.rules.specs.Sheet.{max_facts}
use Rattle.laws.specs.Test.{said, denied, says_of}
use Rattle.sheet.specs.WellFormed.{formed_by}
use Rattle.plan_points.specs.Flat.{group_of}
use Rattle.judge.specs.Points.{ordered_of, points_iff}
use Rattle.judge.specs.Empty.{zeros_fit}
use Rattle.judge.proofs.changes.Goals as goal

pub sort-first-requires : goal.sort-first-requires
sort-first-requires c =
    (c.requires.0, zeros_fit _ c.requires.1.few, omega arith)

pub rows_hold-requires : goal.rows_hold-requires
unfolding group_of max_facts
rows_hold-requires c =
    let p = c.requires in
    let t = c.sort-first.ensures in
    (ordered_of p.1.few t, p.1, record { same = t.same; spans = t.spans })

pub returns-then-not-rows_hold : goal.returns-then-not-rows_hold
unfolding group_of max_facts
returns-then-not-rows_hold c =
    let d = denied c.rows_hold.result c.rows_hold.ensures (c.if-not-rows_hold.true) in
    λ p w e h. d
    ((points_iff (formed_by c.args.sheet.now).formed w
    c.sort-first.ensures e).1 h).0

pub goals_held-requires : goal.goals_held-requires
unfolding group_of max_facts
goals_held-requires c =
    ordered_of c.requires.1.few c.sort-first.ensures

pub returns : goal.returns
unfolding group_of max_facts
returns c =
    let held =
    said c.rows_hold.result c.rows_hold.ensures
    (c.if-not-rows_hold.false) in
    let f = (formed_by c.args.sheet.now).formed in
    let t = c.sort-first.ensures in
    λ p w e. says_of (λ g. (points_iff f w t e).0 (held, g), λ q. ((points_iff f w t e).1 q).1) c.goals_held.result c.goals_held.ensures
