-- What a basis reads, and what holds of it.
use Rattle.std.specs.Prelude.{ℕ, List}
use Rattle.rules.specs.Sheet as rules
use Rattle.sheet.specs.WellFormed.{said_by}
use Rattle.sheet.specs.declared.formed.WellFormed.{WellFormed}
use Rattle.own_times.specs.Wide.{Filled}
use Rattle.order_guard.specs.Pair.{Ground}

pub record Read : Type 0 where
  pub sheet : WellFormed
  pub columns : List (List ℕ)
  pub own : List (List ℕ)
  pub stride : ℕ

-- what stands there is the ground of every question
abbrev pub Grounded : Read → Type 0
Grounded k = Ground k.sheet k.columns k.own k.stride

-- the sheet that is meant
abbrev pub sheet_of : Read → rules.Sheet
sheet_of k = said_by k.sheet

-- every marked event of the table has its row
abbrev pub HasRows : Read → List ℕ → Type 0
HasRows k table = Filled (sheet_of k) k.sheet.view.events k.stride table
