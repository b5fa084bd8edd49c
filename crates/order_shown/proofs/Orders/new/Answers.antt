use Rattle.sheet.specs.WellFormed.{formed_by}
use Rattle.order_shown.proofs.GridLaws.{orders_of}
use Rattle.order_shown.proofs.Orders.new.Goals as goal

pub returns : goal.returns
returns c =
    let first = c.shown_first-first.ensures in
    orders_of (formed_by c.args.basis.sheet).formed c.shown_last-last.ensures.last_of first.first_of
