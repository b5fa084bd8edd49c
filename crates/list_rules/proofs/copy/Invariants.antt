use Prim.Native.Nat.{◌+◌}
use mathlib.Core.Path.{◌≡◌}
use mathlib.Core.List.{map}
use lib.ListN.{get_or}
use Rattle.list_rules.specs.View.{starts, targets, weights}
use Rattle.list_rules.proofs.Laws.{CopyTurn}
use Rattle.list_rules.proofs.copy.Given as goal

abbrev pub invariant-loop-r : goal.invariant-loop-r
invariant-loop-r l =
    let o = map (λ x. x.now) l.own in
    let lo = get_or (starts o) l.a 0 in
    let hi = get_or (starts o) (l.a + 1) 0 in
    CopyTurn (targets o) (weights o) l.initial.to l.initial.weight lo hi l.start l.r l.to l.weight l.n × (l.end ≡ hi)
