use native.Mathlib.Omega.{arith}
use Rattle.rules.specs.Sheet.{max_facts}
use Rattle.laws.specs.Test.{said, denied}
use Rattle.sheet.specs.WellFormed.{formed_by}
use Rattle.plan_points.specs.Flat.{group_of}
use Rattle.judge.specs.Points.{ordered_of}
use Rattle.judge.specs.Empty.{zeros_fit}
use Rattle.late.proofs.Laws.{horizon_of, found_fault, found_none, found_plan, not_in_time, not_held}
use Rattle.late.proofs.answer_of.Goals as goal

pub sort_any-first-requires : goal.sort_any-first-requires
sort_any-first-requires c =
    (c.requires.0, zeros_fit _ c.requires.1.few, omega arith)

pub first_fault-tick-requires : goal.first_fault-tick-requires
unfolding group_of max_facts
first_fault-tick-requires c =
    let p = c.requires in
    let t = c.sort_any-first.ensures in
    (ordered_of p.1.few t, p.1, record { same = t.same; spans = t.spans })

pub returns-then-tick-latest-clause-found : goal.returns-then-tick-latest-clause-found
unfolding group_of max_facts
returns-then-tick-latest-clause-found c =
    let f = (formed_by c.args.sheet.now).formed in
    let far = horizon_of c.latest-latest.ensures f in
    λ p w e b. found_fault f w c.sort_any-first.ensures b c.first_fault-tick.ensures (omega (arith, c.if-tick-latest.true, far.0)) far.1

pub goals_held-requires : goal.goals_held-requires
unfolding group_of max_facts
goals_held-requires c =
    ordered_of c.requires.1.few c.sort_any-first.ensures

pub returns-then-goals_held-clause-found : goal.returns-then-goals_held-clause-found
unfolding group_of max_facts
returns-then-goals_held-clause-found c =
    let f = (formed_by c.args.sheet.now).formed in
    let far = horizon_of c.latest-latest.ensures f in
    let time = said c.in_time.result c.in_time.ensures c.if-in_time.true in
    let held = said c.goals_held.result c.goals_held.ensures c.if-goals_held.true in
    λ p w e b.
    found_plan f w c.sort_any-first.ensures b c.first_fault-tick.ensures (omega (arith, c.if-tick-latest.false, far.0))
    (rw far.0 at time) e held

pub returns-else-goals_held-clause-found : goal.returns-else-goals_held-clause-found
unfolding group_of max_facts
returns-else-goals_held-clause-found c =
    let f = (formed_by c.args.sheet.now).formed in
    let far = horizon_of c.latest-latest.ensures f in
    let t = c.sort_any-first.ensures in
    let h = c.first_fault-tick.ensures in
    let lost = denied c.goals_held.result c.goals_held.ensures c.if-goals_held.false in
    λ p w e b.
    rw far.0 (found_none f w t b h (omega (arith, c.if-tick-latest.false, far.0)) (not_held f w t b h e lost))

pub returns-else-in_time-clause-found : goal.returns-else-in_time-clause-found
unfolding group_of max_facts
returns-else-in_time-clause-found c =
    let f = (formed_by c.args.sheet.now).formed in
    let far = horizon_of c.latest-latest.ensures f in
    let t = c.sort_any-first.ensures in
    let h = c.first_fault-tick.ensures in
    let late = denied c.in_time.result c.in_time.ensures c.if-in_time.false in
    λ p w e b.
    rw far.0 (found_none f w t b h (omega (arith, c.if-tick-latest.false, far.0)) (not_in_time f w t b h (rw far.0 at late)))
