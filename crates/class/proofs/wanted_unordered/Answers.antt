use mathlib.Core.Path.{sym, ◌∙◌}
use mathlib.Core.Logic.{inl}
use Rattle.marks.specs.Laws.{unmarked}
use Rattle.class.proofs.Laws.{unordered, wanted_last, wanted_says}
use Rattle.class.proofs.wanted_unordered.Goals as goal

pub returns-then-on : goal.returns-then-on
returns-then-on c =
    let p = c.requires in
    wanted_last (p.asks.marks.last.means _ p.exists (sym c.on-2.ensures ∙ c.if-on.true))

pub returns-then-not-on-2 : goal.returns-then-not-on-2
returns-then-not-on-2 c =
    let p = c.requires in
    let m = p.asks.marks in
    record {
      is_wanted = m.facts.means _ p.exists (sym c.on.ensures ∙ c.if-not-on.false);
      unshown =
          inl
          (unordered
          (unmarked m.last _ p.exists (sym c.on-2.ensures ∙ c.if-on.false))
          (unmarked m.first _ p.exists (sym c.on-3.ensures ∙ c.if-not-on-2.true)));
    }

pub returns : goal.returns
returns c =
    let p = c.requires in
    let m = p.asks.marks in
    wanted_says
    (m.facts.means _ p.exists (sym c.on.ensures ∙ c.if-not-on.false))
    (unmarked m.last _ p.exists (sym c.on-2.ensures ∙ c.if-on.false))
    (m.first.means _ p.exists (sym c.on-3.ensures ∙ c.if-not-on-2.false))
    c.initial.result
    c.initial.ensures
