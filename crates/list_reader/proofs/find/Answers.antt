use native.Mathlib.Omega.{arith}
use mathlib.Core.Path.{sym, ◌∙◌}
use Rattle.sheet.specs.WellFormed.{formed_by}
use Rattle.list_reader.proofs.Laws.{finding_up, finding_down, finding_found, finding_other, finding_none}
use Rattle.list_reader.proofs.find.Goals as goal
use Rattle.list_reader.proofs.find.Goals.{else-low-jobs-via-then-low-jobs+else-code-2, else-low-jobs-via-else-low-jobs}

pub returns-then-code-2 : goal.returns-then-code-2
returns-then-code-2 c =
    let is_code = sym c.code-then-low-jobs.ensures.0 ∙ c.if-code-2.true in
    finding_found c.loop-low.invariant (formed_by c.args.sheet.now).formed.codes
    (omega (arith, c.loop-low-test.false))
    (omega (arith, c.if-low-jobs.true, c.args.sheet.now.counted.jobs)) is_code

pub returns-else-low-jobs : goal.returns-else-low-jobs
returns-else-low-jobs c =
    elim c.else-low-jobs.branch [
      | else-low-jobs-via-then-low-jobs+else-code-2 w ↦
          finding_other c.loop-low.invariant (formed_by c.args.sheet.now).formed.codes
          (omega (arith, c.loop-low-test.false)) (λ e. w.if-code-2.false (w.code-then-low-jobs.ensures.0 ∙ e))
      | else-low-jobs-via-else-low-jobs w ↦
          finding_none c.loop-low.invariant (formed_by c.args.sheet.now).formed.codes
          (omega (arith, c.loop-low-test.false)) (omega (arith, w.if-low-jobs.false, c.args.sheet.now.counted.jobs))
    ]

pub loop-low-preserved-then-code : goal.loop-low-preserved-then-code
loop-low-preserved-then-code c =
    let up = (formed_by c.args.sheet.now).formed.codes in
    finding_up c.loop-low.invariant up (omega arith) (omega arith) (omega (arith, c.code.ensures.0, c.if-code.true))

pub loop-low-preserved : goal.loop-low-preserved
loop-low-preserved c =
    let up = (formed_by c.args.sheet.now).formed.codes in
    finding_down c.loop-low.invariant up (omega arith) (omega arith) (omega (arith, c.code.ensures.0, c.if-code.false))
