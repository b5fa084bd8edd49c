-- The class test's answer: each rule's number and what it forbids, and which answer a sheet gets.
use Rattle.std.specs.Prelude.{ℕ, ◌<◌, Result, Ok, Err}
use Rattle.rules.specs.Count.{None, Lowest}
use Rattle.rules.specs.Sheet.{Sheet}
use Rattle.rules.specs.Class.{TwoSetters, WantedUnordered, UnwantedUnordered}
use Rattle.rules.specs.Class as rules
use Rattle.class.specs.declared.Rule.{Rule}
use Rattle.class.specs.declared.Rule.TheVariants.{Setters, Wanted, Unwanted}
use Rattle.class.specs.declared.Outside.{Outside}

-- the number of a broken rule
abbrev pub number_of : Rule → ℕ
number_of Setters = 20
number_of Wanted = 21
number_of Unwanted = 22

-- fact f breaks it
abbrev pub Breaks : Rule → Sheet → ℕ → Type 0
Breaks Setters s f = TwoSetters s f
Breaks Wanted s f = WantedUnordered s f
Breaks Unwanted s f = UnwantedUnordered s f

-- no fact breaks it
abbrev pub Kept : Rule → Sheet → Type 0
Kept rule s = None (Breaks rule s) s.facts

-- outside the class: the first rule that is broken, and the lowest fact that breaks it
pub record FirstBroken (s : Sheet) (rule : Rule) (f : ℕ) : Type 0 where
  pub earlier : (q : Rule) → number_of q < number_of rule → Kept q s
  pub lowest : Lowest (Breaks rule s) s.facts f

-- the answer that sheet s gets
abbrev pub ClassOf : Sheet → Result Unit Outside → Type 0
ClassOf s (Ok _) = rules.Inside s
ClassOf s (Err o) = FirstBroken s o.rule o.fact
