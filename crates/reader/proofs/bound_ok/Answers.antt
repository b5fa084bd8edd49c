use Rattle.reader.proofs.Laws.{later_over, earlier_over, same_event, other_job, bound_is}
use native.Mathlib.Omega.{arith}
use Rattle.reader.proofs.bound_ok.Goals as goal

pub returns-then-v-c : goal.returns-then-v-c
returns-then-v-c c =
    later_over _ c.bound-c.ensures c.requires.sheet.events c.if-v-c.true

pub returns-then-v-c-2 : goal.returns-then-v-c-2
returns-then-v-c-2 c =
    earlier_over _ c.bound-c.ensures c.requires.sheet.events c.if-v-c.false c.if-v-c-2.true

pub returns-then-c : goal.returns-then-c
returns-then-c c =
    same_event _ c.bound-c.ensures c.requires.sheet.events c.if-v-c.false c.if-v-c-2.false
    (omega (arith, c.if-c.true))

pub returns-then-job : goal.returns-then-job
returns-then-job c =
    other_job _ c.bound-c.ensures c.requires.sheet.events c.if-v-c.false c.if-v-c-2.false
    c.job.ensures.0 c.job-2.ensures.0
    (λ q. omega (arith, q, c.if-c.false)) (λ q. omega (arith, q, c.if-job.true))

pub returns : goal.returns
returns c =
    bound_is _ c.bound-c.ensures c.requires.sheet.events c.if-v-c.false c.if-v-c-2.false
    c.job.ensures.0 c.job-2.ensures.0
    (λ q. omega (arith, q, c.if-c.false)) (omega (arith, c.if-job.false))
    c.sides_ok.ensures
