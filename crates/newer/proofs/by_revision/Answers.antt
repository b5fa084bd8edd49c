use Rattle.newer.proofs.Laws.{both_formed, first_higher_lem, second_higher_lem, same_revision}
use Rattle.newer.proofs.by_revision.Goals as goal

pub returns-then-other-one : goal.returns-then-other-one
returns-then-other-one c =
    let pre = c.requires in
    first_higher_lem pre.0 pre.1 c.revision-one.ensures.0 c.revision-other.ensures.0 c.if-other-one.true

pub returns-then-one-other : goal.returns-then-one-other
returns-then-one-other c =
    let pre = c.requires in
    second_higher_lem pre.0 pre.1 c.revision-one.ensures.0 c.revision-other.ensures.0 c.if-one-other.true

pub by_bytes-requires : goal.by_bytes-requires
by_bytes-requires c =
    let pre = c.requires in
    let one = c.revision-one.ensures.0 in
    let other = c.revision-other.ensures.0 in
    (both_formed pre.0 pre.1, same_revision pre.0 pre.1 one other c.if-other-one.false c.if-one-other.false)
