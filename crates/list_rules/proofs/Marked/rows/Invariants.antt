use mathlib.Core.List.{map}
use Rattle.list_rules.specs.View.{sheet_of}
use Rattle.list_rules.proofs.Fill.{Turn}
use Rattle.list_rules.proofs.Marked.rows.Given as goal

abbrev pub invariant-loop-e : goal.invariant-loop-e
invariant-loop-e l =
    Turn (sheet_of l.self) (map (λ x. x.now) l.own) l.fn.first_all l.initial.to_all l.initial.weight_all l.e l.first_all l.to_all l.weight_all l.n
