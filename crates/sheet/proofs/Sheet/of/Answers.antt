use native.Mathlib.Omega.{arith}
use Rattle.sheet.proofs.Laws.{facts_early, jobs_length, events_length, of_is}
use Rattle.sheet.proofs.Sheet.of.Goals as goal

pub overflow_add-at : goal.overflow_add-at
overflow_add-at c =
    let e = facts_early _ _ c.requires in record { fits = omega (arith, e) }

pub overflow_sub-result : goal.overflow_sub-result
overflow_sub-result c =
    let e = jobs_length _ _ c.requires in omega (arith, e)

pub overflow_sub-result-2 : goal.overflow_sub-result-2
overflow_sub-result-2 c =
    let e = events_length _ _ c.requires in omega (arith, e)

pub overflow_add-result : goal.overflow_add-result
overflow_add-result c =
    let e = facts_early _ _ c.requires in
    record { fits = omega (arith, e, c.facts_head.ensures.1) }

pub returns : goal.returns
returns c =
    of_is
    _
    _
    c.requires
    _
    _
    _
    _
    _
    _
    c.byte_at-edition.ensures.0
    c.byte_at.ensures.0
    c.two_at.ensures.0
    c.gap_byte.ensures.0
    c.ticks.ensures
    c.length_of.ensures.0
    c.facts_head.ensures
    c.job_row-row.ensures
