-- What the class test asks: the sheet, its index, and marks of what is wanted and of what is shown; and what its parts say.
use Rattle.std.specs.Prelude.{ℕ, ◌<◌, ◌≢◌, Bool, List, Option, MatchOption}
use Rattle.rules.specs.Count.{None, Lowest}
use Rattle.rules.specs.Sheet as rules
use Rattle.rules.specs.Sheet.{sets}
use Rattle.rules.specs.Wanted.{OfPresent}
use Rattle.sheet.specs.WellFormed.{said_by}
use Rattle.sheet.specs.declared.formed.WellFormed.{WellFormed}
use Rattle.index.specs.View.{IndexOf}
use Rattle.marks.specs.View.{fact_marks, WantedFacts, MarksAre}
use Rattle.class.specs.declared.Rule.{Rule}
use Rattle.class.specs.declared.Rule.TheVariants.{Setters, Wanted, Unwanted}

-- two present jobs set fact f
abbrev pub Several : rules.Sheet → ℕ → Type 0
Several s f = (e : ℕ) × (i : ℕ) × (d : ℕ) × (j : ℕ) × OfPresent s e i sets f × OfPresent s d j sets f × (i ≢ j)

-- the marks that a rule looks at
abbrev pub MarksFor : Rule → rules.Sheet → List (List Bool) → Type 0
MarksFor Setters s m = WantedFacts s (fact_marks m)
MarksFor Wanted s m = MarksAre s m
MarksFor Unwanted s m = MarksAre s m

-- what the test of a rule asks
pub record AsksRule (rule : Rule) (sheet : WellFormed) (c : List (List ℕ)) (m : List (List Bool)) : Type 0 where
  pub index : IndexOf (said_by sheet) c
  pub marks : MarksFor rule (said_by sheet) m

-- and a fact of the sheet
pub record AsksBreaks (rule : Rule) (sheet : WellFormed) (c : List (List ℕ)) (m : List (List Bool)) (f : ℕ) : Type 0 where
  pub asks : AsksRule rule sheet c m
  pub exists : f < (said_by sheet).facts

-- the lowest place below n that has P, if there is one
abbrev pub Found : (ℕ → Type 0) → ℕ → Option ℕ → Type 0
Found P n r = MatchOption r (None P n) (Lowest P n)
