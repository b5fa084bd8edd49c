-- What the bundle of marks means, and what is asked where marks and the index go together.
use Rattle.std.specs.Prelude.{ℕ, zero, suc, ◌≤◌, ◌<◌, ◌≡◌, Bool, true, false, List, length, get_or}
use Rattle.rules.specs.Sheet as rules
use Rattle.rules.specs.Sheet.{begins, sets, clears}
use Rattle.rules.specs.Wanted.{WantedFact, WantedJob}
use Rattle.rules.specs.Order.{ClearedLast, ClearedFirst}
use Rattle.laws.specs.Columns.{marks_col}
use Rattle.sheet.specs.WellFormed.{said_by}
use Rattle.sheet.specs.declared.formed.WellFormed.{WellFormed}
use Rattle.index.specs.View.{IndexOf}

-- ---- the columns

-- how many there are
abbrev pub mark_columns : ℕ
mark_columns = 4

-- wanted facts, wanted jobs, facts shown cleared last, facts shown cleared first
abbrev pub fact_marks : List (List Bool) → List Bool
fact_marks m = marks_col m 0

abbrev pub job_marks : List (List Bool) → List Bool
job_marks m = marks_col m 1

abbrev pub last_marks : List (List Bool) → List Bool
last_marks m = marks_col m 2

abbrev pub first_marks : List (List Bool) → List Bool
first_marks m = marks_col m 3

-- ---- what they mean

-- there are n marks at least, and the first n stand exactly for P
pub record MarksOf (P : ℕ → Type 0) (n : ℕ) (marks : List Bool) : Type 0 where
  pub long : n ≤ length marks
  pub means : (i : ℕ) → i < n → get_or marks i false ≡ true → P i
  pub marked : (i : ℕ) → i < n → P i → get_or marks i false ≡ true

abbrev pub WantedFacts : rules.Sheet → List Bool → Type 0
WantedFacts s m = MarksOf (WantedFact s) s.facts m

abbrev pub WantedJobs : rules.Sheet → List Bool → Type 0
WantedJobs s m = MarksOf (WantedJob s) s.jobs m

abbrev pub ShownLast : rules.Sheet → List Bool → Type 0
ShownLast s m = MarksOf (ClearedLast s) s.facts m

abbrev pub ShownFirst : rules.Sheet → List Bool → Type 0
ShownFirst s m = MarksOf (ClearedFirst s) s.facts m

-- the bundle's marks are those of sheet s
pub record MarksAre (s : rules.Sheet) (m : List (List Bool)) : Type 0 where
  pub facts : WantedFacts s (fact_marks m)
  pub jobs : WantedJobs s (job_marks m)
  pub last : ShownLast s (last_marks m)
  pub first : ShownFirst s (first_marks m)

-- ---- marks and the index

-- the columns of the index that hold starts, and the type of the events in each
abbrev pub begin_column : ℕ
begin_column = 0

abbrev pub set_column : ℕ
set_column = 1

abbrev pub clear_column : ℕ
clear_column = 2

abbrev pub type_of_column : ℕ → ℕ
type_of_column zero = begins
type_of_column (suc zero) = sets
type_of_column (suc (suc k)) = clears

-- the last of them
abbrev pub last_starts : ℕ
last_starts = clear_column

-- what the question asks whether a wanted job has an event of fact f
pub record AsksWanted (sheet : WellFormed) (c : List (List ℕ)) (m : List (List Bool)) (k f : ℕ) : Type 0 where
  pub index : IndexOf (said_by sheet) c
  pub jobs : WantedJobs (said_by sheet) (job_marks m)
  pub starts : k ≤ last_starts
  pub exists : f < (said_by sheet).facts

-- the sheet, its index and its marks: what every routine asks that needs them all
pub record MarkedSheet (sheet : WellFormed) (c : List (List ℕ)) (m : List (List Bool)) : Type 0 where
  pub index : IndexOf (said_by sheet) c
  pub marks : MarksAre (said_by sheet) m
