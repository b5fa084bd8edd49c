-- One pair of events of a fact, a row and a column: is it guarded?
-- Cleared last has sets in rows and clears in columns, cleared first the other way round.
use Rattle.std.specs.Prelude.{ℕ, zero, suc, ◌+◌, ◌*◌, ◌≤◌, ◌<◌, ◌≡◌, Bool, true, false, List, Option, MatchOption, length, get_or, leb}
use Rattle.rules.specs.Sheet as rules
use Rattle.rules.specs.Sheet.{begins, ends, sets, clears}
use Rattle.rules.specs.Plan.{Is}
use Rattle.rules.specs.Wanted.{RunsAlone}
use Rattle.rules.specs.Order.{AtMost}
use Rattle.theory.specs.Computed.Mark.{MarkedGuard}
use Rattle.sheet.specs.WellFormed.{said_by}
use Rattle.sheet.specs.declared.formed.WellFormed.{WellFormed}
use Rattle.index.specs.View.{PresentEvent, IndexOf}
use Rattle.laws.specs.Limits.{most_events}
use Rattle.own_times.specs.View.{TableAsks}

-- the number at place k, and that place k is marked
abbrev pub cell_of : List ℕ → ℕ → ℕ
cell_of l k = get_or l k 0

unfoldable pub mark_of : List Bool → ℕ → Bool
mark_of m k = get_or m k false

abbrev pub In : List Bool → ℕ → Type 0
In m k = mark_of m k ≡ true

-- ---- the sheet's events of a type by job and fact

-- r is the event of job j, fact f and this type, if there is one
abbrev pub FindsEvent : rules.Sheet → (j f kind : ℕ) → Option ℕ → Type 0
FindsEvent s j f kind r = MatchOption r ((e : ℕ) → Is s e j kind f → ⊥) (λ e. Is s e j kind f)

-- the type whose events start in column k of the index
abbrev pub column_type : ℕ → ℕ
column_type zero = begins
column_type (suc zero) = sets
column_type (suc (suc k)) = clears

-- the job is present, so the index has its events
pub record AsksFind (s : rules.Sheet) (k f j : ℕ) : Type 0 where
  pub column : k ≤ 2
  pub fact : f < s.facts
  pub alone : RunsAlone s j

-- ---- the comparison

-- greatest x − y ≤ least u − v, by the table of widest own times with n marks and stride m
unfoldable pub at_most : (n m : ℕ) → List ℕ → (x y u v : ℕ) → Bool
at_most n m table x y u v =
    leb (get_or table (n + m * x + x) 0 + get_or table (n + m * v + v) 0) (get_or table (n + m * v + u) 0 + get_or table (n + m * x + y) 0)

pub record AsksAtMost (n m : ℕ) (table : List ℕ) (x y u v : ℕ) : Type 0 where
  pub few : n ≤ most_events
  pub stride : m ≤ most_events
  pub room : n + m * n + n ≤ length table
  pub x_in : x < n
  pub y_in : y < n
  pub u_in : u < n
  pub v_in : v < n

-- ---- guards

-- what every question on a pair asks of the index c, the rows of own rules and least own times o, and the stride m
pub record Ground (sheet : WellFormed) (c o : List (List ℕ)) (m : ℕ) : Type 0 where
  pub table : TableAsks sheet c o m
  pub index : IndexOf (said_by sheet) c
  pub few : m ≤ most_events

-- fact p guards the pair, whether it is marked or not
pub record GuardBy (s : rules.Sheet) (p row col : ℕ) : Type 0 where
  pub until : ℕ
  pub at : ℕ
  pub needs : Is s until (s.event row).job ends p
  pub clear : Is s at (s.event col).job clears p
  pub wide : AtMost s (s.event col).job at col (s.event row).job until row

-- a marked fact guards the pair
abbrev pub Guarded : rules.Sheet → List Bool → (row col : ℕ) → Type 0
Guarded s m row col = MarkedGuard s (λ p. In m p) (s.event row).job row (s.event col).job col

-- event x clears a marked fact that guards the pair
pub record Hit (s : rules.Sheet) (m : List Bool) (row col x : ℕ) : Type 0 where
  pub clear : (s.event x).kind ≡ clears
  pub marked : In m (s.event x).fact
  pub guards : GuardBy s (s.event x).fact row col

-- the pair's two events, of present jobs
pub record Two (s : rules.Sheet) (row col : ℕ) : Type 0 where
  pub row_of : PresentEvent s row
  pub col_of : PresentEvent s col

-- event x is one of the column's job
pub record AsksHit (s : rules.Sheet) (col x : ℕ) : Type 0 where
  pub in_sheet : x < s.events
  pub same_job : (s.event x).job ≡ (s.event col).job
