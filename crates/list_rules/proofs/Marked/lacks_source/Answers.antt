use native.Mathlib.Omega.{arith}
use Rattle.list_rules.proofs.Reasons.{set_there, source_lacks}
use Rattle.list_rules.proofs.Marked.lacks_source.Goals as goal

pub returns-then-at : goal.returns-then-at
returns-then-at c =
    let p = c.requires in
    let at_at = c.at in
    set_there p.0.index p.1 (omega (arith, at_at.ensures.0, c.at-2.ensures.0, c.if-at.true))

pub returns : goal.returns
returns c =
    let p = c.requires in
    let at_at = c.at in
    let at-at2 = c.at-2 in
    source_lacks p.0.index p.1 c.is_source.result (omega (arith, at_at.ensures.0, at-at2.ensures.0, c.if-at.false))
    c.is_source.ensures
