use native.Mathlib.Omega.{arith}
use Rattle.sheet.specs.WellFormed.{formed_by}
use Rattle.order_shown.specs.declared.Order.TheVariants.{Last}
use Rattle.order_shown.proofs.GridLaws.{sides_are, settle_watch, settle_mark}
use Rattle.order_shown.proofs.Search.settle.Goals as goal

pub offset_bounds-marking-f : goal.offset_bounds-marking-f
offset_bounds-marking-f c = omega (arith, c.requires.asks_settle.exists, (formed_by c.args.self.now.basis.sheet).few.facts)

pub bounds-marking-f : goal.bounds-marking-f
bounds-marking-f c = omega (arith, c.requires.asks_settle.exists, (formed_by c.args.self.now.basis.sheet).few.facts)

pub bounds-marking-f-in-None : goal.bounds-marking-f-in-None
bounds-marking-f-in-None c = omega (arith, c.requires.asks_settle.exists, (formed_by c.args.self.now.basis.sheet).few.facts)

pub returns-in-Some-clause-moved : goal.returns-in-Some-clause-moved
returns-in-Some-clause-moved c =
    let ground = c.seek.ensures.ground in
    settle_watch (formed_by c.args.self.now.basis.sheet).formed (sides_are ground c.args.self.now.wanted Last) c.requires.asks_settle
    c.in-Some.spot c.in-Some.ensures.seeks

pub returns-in-None-clause-moved : goal.returns-in-None-clause-moved
returns-in-None-clause-moved c =
    let ground = c.seek.ensures.ground in
    settle_mark (formed_by c.args.self.now.basis.sheet).formed (sides_are ground c.args.self.now.wanted Last) c.requires.asks_settle
    c.in-None.ensures.seeks
