use Prim.Native.Nat.{ℕ}
use mathlib.Core.Path.{◌∙◌, sym, ap}
use lib.Dec.{eqb}
use borrow.Author.Tests.{eq-eqb, ne_eqb}
use Rattle.reader.specs.Loop.{passed_start, passed_step, passed_end, broken_at}
use Rattle.rewrite.specs.View.{no_releases}
use Rattle.std.proofs.Common.{rules}
use Rattle.rewrite.proofs.no_releases.Goals as goal

pub loop-j-init : goal.loop-j-init
loop-j-init c =
    passed_start _ _

pub returns-then-release-ne-NONE : goal.returns-then-release-ne-NONE
unfolding no_releases
returns-then-release-ne-NONE c =
    broken_at _ _ _ (search rules) (ap (λ (x : ℕ). eqb x 0) (sym c.release.ensures.0) ∙ ne_eqb _ 0 c.if-release-ne-NONE.true)

pub loop-j-preserved : goal.loop-j-preserved
loop-j-preserved c =
    passed_step _ _ _ c.loop-j.invariant (search rules)
    (ap (λ (x : ℕ). eqb x 0) (sym c.release.ensures.0) ∙ eq-eqb _ 0 c.if-release-ne-NONE.false)

pub returns : goal.returns
unfolding no_releases
returns c =
    passed_end _ _ _ c.loop-j.invariant (search rules)
