use Prim.Native.Nat.{◌≤◌, ◌<◌}
use native.Mathlib.Omega.{arith}
use mathlib.Core.Path.{refl, sym, ◌∙◌, subst}
use Rattle.laws.specs.Bools.{clash}
use Rattle.laws.specs.Distance.{distance_by_within}
use Rattle.sheet.specs.WellFormed.{formed_by}
use Rattle.list_rules.specs.View.{sheet_of}
use Rattle.list_rules.proofs.Laws.{Next, spot_next, spot_stored, spot_skip, group_end}
use Rattle.list_rules.proofs.Links.{link_span, link_event}
use Rattle.list_rules.proofs.Marked.group.Goals as goal
use Rattle.list_rules.proofs.Marked.group.Goals.{After-at-e, After-distance, then-on, else-on}

-- the event that is looked at
inside
    : (c : After-at-e)
    → c.at-e.result < (sheet_of c.args.self.now).events
inside c =
    let p = c.requires in
    let at-loop = c.loop-r in
    link_event p.asks_link _ _ c.at-e.ensures.0 at-loop.invariant.0.from (omega (arith, c.loop-r-test.true, at-loop.invariant.1))

-- there is room for its rule
next
    : (c : After-at-e)
    → Next c.loop-r.to c.loop-r.weight c.loop-r.n
next c =
    let p = c.requires in
    let at-loop = c.loop-r in
    spot_next _ _ _ _ _ _ _ _ _ _ _ _ _ at-loop.invariant.0 p.room_for (link_span p.asks_link).few
    (omega (arith, c.loop-r-test.true, at-loop.invariant.1))

far
    : (c : After-distance)
    → c.distance.result ≤ c.args.link.gap
far c =
    subst (λ x. x ≤ c.args.link.gap) (sym c.distance.ensures) (distance_by_within _ _ _)

pub on-requires : goal.on-requires
on-requires c =
    let w = (goal.at.on-requires c).After-at-e in
    let j = (formed_by c.args.self.now.sheet).formed.job _ (inside w) in
    (omega arith, omega (arith, j, c.job-j.ensures.0, c.requires.asks_link.jobs.long))

pub overflow_add-far : goal.overflow_add-far
overflow_add-far c =
    omega (arith, c.requires.asks_link.small, far (goal.at.overflow_add-far c).After-distance)

pub bounds-to-n : goal.bounds-to-n
bounds-to-n c =
    (next (goal.at.bounds-to-n c).After-at-e).target

pub overflow_cast-weight : goal.overflow_cast-weight
overflow_cast-weight c =
    omega (arith, c.requires.asks_link.small, far (goal.at.overflow_cast-weight c).After-distance)

pub bounds-weight-n : goal.bounds-weight-n
bounds-weight-n c =
    (next (goal.at.bounds-weight-n c).After-at-e).weight

pub loop-r-preserved : goal.loop-r-preserved
loop-r-preserved c =
    let p = c.requires in
    let inv = c.loop-r.invariant in (
      elim c.if-on.branch [
        | then-on w ↦
            rw (w.to-is, w.weight-is, w.n-is)
            (spot_stored _ _ _ _ _ _ _ _ _ _ _ _ _ inv.0 _ _ _ _ _ p.room_for (link_span p.asks_link).few
            (omega (arith, c.loop-r-test.true, inv.1)) c.at-e.ensures.0 c.job-j.ensures.0 (sym c.on.ensures ∙ w.if-on.true)
            w.distance.ensures refl refl)
        | else-on w ↦
            rw (w.to-is, w.weight-is, w.n-is)
            (spot_skip _ _ _ _ _ _ _ _ _ _ _ _ _ inv.0 _ _ (omega (arith, c.loop-r-test.true, inv.1)) c.at-e.ensures.0
            c.job-j.ensures.0 (λ q. clash q (sym c.on.ensures ∙ w.if-on.false)))
      ],
      inv.1,
      inv.2,
    )

pub returns : goal.returns
returns c =
    let p = c.requires in
    group_end _ _ _ _ _ _ _ _ _ _ _ c.loop-r.invariant.2 c.loop-r.invariant.0 (omega
    (arith, c.loop-r-test.false, c.loop-r.invariant.1)) (link_span p.asks_link).few
