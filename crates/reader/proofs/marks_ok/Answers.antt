use Prim.Native.Nat.{ℕ}
use mathlib.Core.Path.{◌∙◌, sym, ap}
use lib.Dec.{leb}
use borrow.Author.Tests.{le-leb, lt-leb}
use Rattle.rules.specs.Sheet.{max_facts}
use Rattle.sheet.specs.View.{meaning}
use Rattle.reader.specs.Adjacent.{marks_ok}
use Rattle.reader.specs.Loop.{passed_start, passed_step, passed_end, broken_at}
use Rattle.std.proofs.Common.{rules}
use Rattle.reader.proofs.marks_ok.Goals as goal

pub loop-f-init : goal.loop-f-init
loop-f-init c =
    passed_start _ _

pub overflow_add-at : goal.overflow_add-at
unfolding max_facts
overflow_add-at c =
    search rules

pub returns-then-byte_at-gt-BOTH : goal.returns-then-byte_at-gt-BOTH
unfolding marks_ok meaning
returns-then-byte_at-gt-BOTH c =
    broken_at _ _ _ c.loop-f-test.true
    (ap (λ (x : ℕ). leb x 3) (sym c.byte_at.ensures.0) ∙ lt-leb _ 3 c.if-byte_at-gt-BOTH.true)

pub loop-f-preserved : goal.loop-f-preserved
loop-f-preserved c =
    passed_step _ _ _ c.loop-f.invariant c.loop-f-test.true
    (ap (λ (x : ℕ). leb x 3) (sym c.byte_at.ensures.0) ∙ le-leb _ 3 c.if-byte_at-gt-BOTH.false)

pub returns : goal.returns
unfolding marks_ok meaning
returns c =
    passed_end _ _ _ c.loop-f.invariant c.loop-f-test.false
