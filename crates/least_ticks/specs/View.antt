-- What finding the least ticks asks of a sheet, and what it promises.
use Rattle.std.specs.Prelude.{ℕ, ◌≤◌, ◌<◌, ◌≡◌, Bool, List, length, get_or, Option, Some, None, Ok, Err}
use Rattle.rules.specs.Sheet as rules
use Rattle.rules.specs.RunList.{Plan}
use Rattle.rules.specs.Plan.{IsPlan}
use Rattle.rules.specs.Class.{Inside, ListRules, NoSource, ClearedGoal}
use Rattle.laws.specs.Columns.{col}
use Rattle.theory.specs.Statements.{LeastSolution}
use Rattle.sheet.specs.WellFormed.{said_by}
use Rattle.sheet.specs.declared.formed.WellFormed.{WellFormed}
use Rattle.index.specs.View.{IndexOf}
use Rattle.marks.specs.View.{MarksAre}
use Rattle.kernel_least.specs.Rows.{rows_of, Outcome, OutcomeIs, at}
use Rattle.own_times.specs.View.{OwnRowsOf, LeastOwns}
use Rattle.list_rules.specs.View as constraints
use Rattle.list_rules.specs.View.{ListRows}
use Rattle.laws.specs.Limits.{most_events}

-- a reason for no plan besides the list rules
pub data Bar (s : rules.Sheet) : Type 0 where
  lacking : (f : ℕ) → NoSource s f → Bar s
  spoilt : (f : ℕ) → ClearedGoal s f → Bar s

-- ---- from step to step

-- the rows of own rules, and the least own times of the present jobs, in the columns o
pub record Owned (sheet : WellFormed) (o : List (List ℕ)) : Type 0 where
  pub rows : OwnRowsOf (said_by sheet) (col o 0) (col o 1) (col o 2)
  pub least : LeastOwns (said_by sheet) (col o 3)
  pub long : most_events ≤ length (col o 3)

-- and its index c
pub record Indexed (sheet : WellFormed) (c o : List (List ℕ)) : Type 0 where
  pub owned : Owned sheet o
  pub index : IndexOf (said_by sheet) c

-- and the marks m of what is wanted and shown
pub record OrderedSheet (sheet : WellFormed) (c o : List (List ℕ)) (m : List (List Bool)) : Type 0 where
  pub indexed : Indexed sheet c o
  pub marks : MarksAre (said_by sheet) m

-- and it is inside the class
pub record Able (sheet : WellFormed) (c o : List (List ℕ)) (m : List (List Bool)) : Type 0 where
  pub ordered : OrderedSheet sheet c o m
  pub inside : Inside (said_by sheet)

-- ---- the least ticks

-- the first n ticks of x are those of l
pub record LeastCopied (l : List ℕ) (n : ℕ) (x : List ℕ) : Type 0 where
  pub long : length x ≡ most_events
  pub same : (e : ℕ) → e < n → get_or x e 0 ≡ get_or l e 0

-- the rows r of own rules, and the least own times
pub record AsksTicks (s : rules.Sheet) (r : List (List ℕ)) (x : List ℕ) : Type 0 where
  pub rows : constraints.OwnRows s r
  pub least : LeastOwns s x
  pub long : most_events ≤ length x

-- what raising asks: the rows of the list rules, and the least own times
pub record AsksRaise (sheet : WellFormed) (first to weight x : List ℕ) : Type 0 where
  pub rows : ListRows (said_by sheet) first to weight
  pub least : LeastOwns (said_by sheet) x
  pub long : most_events ≤ length x

abbrev pub RaisedTo : rules.Sheet → (first to weight x₀ x : List ℕ) → Outcome → Type 0
RaisedTo s first to weight x₀ x o = OutcomeIs (rows_of first to weight 0 s.events s.horizon) (at x₀) (at x) o

-- x holds the least solution of the list rules, unless another reason bars it; or they have none
abbrev pub TicksAre : rules.Sheet → List ℕ → Outcome → Type 0
TicksAre s x (Ok _) = (Bar s → ⊥) → LeastSolution s (at x)
TicksAre s x (Err _) = (u : ℕ → ℕ) → ListRules s u → ⊥

-- columns that hold the rows of every sheet
abbrev pub rows_most : ℕ
rows_most = constraints.rows_most

-- the same, unless the columns, as long as these, were too short; x is as it was then
abbrev pub TriedIs : rules.Sheet → (targets weights : ℕ) (x₀ x : List ℕ) → Option Outcome → Type 0
TriedIs s targets weights x₀ x None = (x ≡ x₀) × (rows_most ≤ targets → rows_most ≤ weights → ⊥)
TriedIs s targets weights x₀ x (Some o) = TicksAre s x o

-- there is no plan, of any length
abbrev pub NoPlan : rules.Sheet → Type 0
NoPlan s = (p : Plan) → IsPlan s p → ⊥

-- x holds the least solution; or there is no plan
abbrev pub SolvedIs : rules.Sheet → List ℕ → Outcome → Type 0
SolvedIs s x (Ok _) = LeastSolution s (at x)
SolvedIs s x (Err _) = NoPlan s
