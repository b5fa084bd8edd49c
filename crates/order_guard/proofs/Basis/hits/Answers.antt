use native.Mathlib.Omega.{arith}
use Rattle.sheet.specs.WellFormed.{formed_by}
use Rattle.order_guard.specs.Pair.{mark_of}
use Rattle.order_guard.proofs.Laws.{cleared, cleared_in, hit_other, hit_not, hit_unneeded, hit_says}
use Rattle.order_guard.proofs.Basis.hits.Goals as goal

pub returns-in_default-clause-says : goal.returns-in_default-clause-says
returns-in_default-clause-says c =
    hit_other (formed_by c.args.self.now.sheet).formed c.requires.asks_hit c.event.ensures.event _ _ c.in_default.not-Clears

pub bounds-last-p : goal.bounds-last-p
bounds-last-p c =
    let w = formed_by c.args.self.now.sheet in
    omega (arith, cleared_in w.formed c.requires.asks_hit c.event.ensures.event c.in-Clears.is, w.few.facts, c.requires.marks)

pub returns-then-not-last-p-clause-says : goal.returns-then-not-last-p-clause-says
unfolding mark_of
returns-then-not-last-p-clause-says c =
    let is = cleared (formed_by c.args.self.now.sheet).formed c.requires.asks_hit c.event.ensures.event c.in-Clears.is in
    hit_not _ _ _ _ _ _ is.of_kind is.of_fact c.if-not-last-p.true

pub places-from-requires : goal.places-from-requires
places-from-requires c =
    (omega arith, cleared_in (formed_by c.args.self.now.sheet).formed c.requires.asks_hit c.event.ensures.event c.in-Clears.is)

pub returns-then-end-from-clause-says : goal.returns-then-end-from-clause-says
returns-then-end-from-clause-says c =
    let ground = c.event.ensures.ground in
    let ok = (formed_by c.args.self.now.sheet).formed in
    let is = cleared ok c.requires.asks_hit c.event.ensures.event c.in-Clears.is in
    hit_unneeded _ _ _ _ _ _ is.of_kind is.of_fact ok ground.index.begins c.requires.pair.row_of.alone
    (cleared_in ok c.requires.asks_hit c.event.ensures.event c.in-Clears.is)
    (omega (arith, c.places-from.ensures.from, c.places-from.ensures.end, c.if-end-from.true))

pub meets-requires-clause-clear : goal.meets-requires-clause-clear
meets-requires-clause-clear c =
    cleared (formed_by c.args.self.now.sheet).formed c.requires.asks_hit c.event.ensures.event c.in-Clears.is

pub returns-clause-says : goal.returns-clause-says
unfolding mark_of
returns-clause-says c =
    let is = cleared (formed_by c.args.self.now.sheet).formed c.requires.asks_hit c.event.ensures.event c.in-Clears.is in
    hit_says _ _ _ _ _ _ is.of_kind is.of_fact c.if-not-last-p.false c.meets.result c.meets.ensures.says
