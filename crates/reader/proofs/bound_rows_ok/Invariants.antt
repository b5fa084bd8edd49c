use Rattle.sheet.specs.View.{meaning}
use Rattle.rules.specs.Sheet.{bound_ok}
use Rattle.reader.specs.Loop.{before}
use Rattle.reader.specs.Loop.{Rising}
use Rattle.laws.specs.Pairs.{pair_key}
use Rattle.reader.proofs.bound_rows_ok.Given as goal

abbrev pub invariant-loop-i : goal.invariant-loop-i
invariant-loop-i l =
    Rising (pair_key (meaning l.v l.b)) (before (pair_key (meaning l.v l.b))) (λ k. bound_ok (meaning l.v l.b) ((meaning l.v l.b).bound k)) l.v.bounds l.last l.i
