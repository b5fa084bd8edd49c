use mathlib.Core.Path.{sym, ◌∙◌}
use Rattle.laws.specs.Test.{said}
use Rattle.marks.specs.Laws.{unmarked}
use Rattle.class.proofs.Laws.{unordered, unwanted_last, unwanted_first, unwanted_says}
use Rattle.class.proofs.unwanted_unordered.Goals as goal

pub returns-then-on-2 : goal.returns-then-on-2
returns-then-on-2 c t =
    let p = c.requires in
    unwanted_last (p.asks.marks.last.means _ p.exists (sym c.on-2.ensures ∙ c.if-on-2.true)) t

pub returns-then-on-3 : goal.returns-then-on-3
returns-then-on-3 c t =
    let p = c.requires in
    unwanted_first (p.asks.marks.first.means _ p.exists (sym c.on-3.ensures ∙ c.if-on-3.true)) t

pub returns : goal.returns
returns c =
    let p = c.requires in
    let m = p.asks.marks in
    unwanted_says
    (unmarked m.facts _ p.exists (sym c.on.ensures ∙ c.if-on.false))
    (said c.by_wanted.result c.by_wanted.ensures c.if-not-by_wanted.false)
    (unordered
    (unmarked m.last _ p.exists (sym c.on-2.ensures ∙ c.if-on-2.false))
    (unmarked m.first _ p.exists (sym c.on-3.ensures ∙ c.if-on-3.false)))
    c.by_wanted-2.result
    c.by_wanted-2.ensures
