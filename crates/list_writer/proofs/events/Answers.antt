use native.Mathlib.Omega.{arith}
use Rattle.sheet.specs.WellFormed.{formed_by}
use Rattle.index.specs.Laws.{span_events}
use Rattle.list_writer.proofs.Laws.{span_small}
use Rattle.list_writer.proofs.events.Goals as goal

pub returns : goal.returns
returns c =
    let p = c.requires in
    let spans = p.0.spans in
    let n = span_events spans c.args.j p.1 in
    let few = span_small _ _ spans c.args.j p.1 (formed_by c.args.sheet.now).formed.events in
    (omega (arith, c.at.ensures.0, c.at-2.ensures.0), omega (arith, c.at.ensures.0, c.at-2.ensures.0))
