-- Rules in compressed rows: those of variable a stand in the columns from first a up to first (a + 1). What the routines
-- over rows ask of what is lent to them, and what they promise.
use Rattle.std.specs.Prelude.{ℕ, ◌+◌, ◌≤◌, ◌<◌, ◌≡◌, ◌≢◌, List, [], length, get_or, Result, Ok, Err}
use Rattle.kernel_advice.specs.Readable.{variables}
use Rattle.kernel_least.specs.System.{System, Between, Least, Unsolvable, origin}
use Rattle.kernel_least.specs.declared.Range.{Range}
use Rattle.kernel_least.specs.declared.Impossible.{Impossible}

abbrev pub at : List ℕ → ℕ → ℕ
at l i = get_or l i 0

-- the rule at a place of the row of a
pub record InRow (first : List ℕ) (lo hi a r : ℕ) : Type 0 where
  pub of : Between lo hi a
  pub from : get_or first a 0 ≤ r
  pub below : r < get_or first (a + 1) 0

-- the rows have a rule from a to b of weight w
pub record Row (first to weight : List ℕ) (lo hi a b w : ℕ) : Type 0 where
  pub place : ℕ
  pub stands : InRow first lo hi a place
  pub target : get_or to place 0 ≡ b
  pub weighs : get_or weight place 0 ≡ w

abbrev pub rows_of : List ℕ → List ℕ → List ℕ → ℕ → ℕ → ℕ → System
rows_of first to weight lo hi ceiling =
    record { lo = lo; hi = hi; ceiling = ceiling; rule = Row first to weight lo hi }

-- the rows of lo up to hi are there, and lead to variables of the same range
pub record Shaped (first to weight : List ℕ) (lo hi : ℕ) : Type 0 where
  pub order : lo ≤ hi
  pub small : hi ≤ variables
  pub rows : hi < length first
  pub targets : (a : ℕ) → Between lo hi a → get_or first (a + 1) 0 ≤ length to
  pub weights : (a : ℕ) → Between lo hi a → get_or first (a + 1) 0 ≤ length weight
  pub inside : (a r : ℕ) → InRow first lo hi a r → Between lo hi (get_or to r 0)

-- ---- the three columns in one bundle, and a range of variables

abbrev pub columns : ℕ
columns = 3

abbrev pub col : List (List ℕ) → ℕ → List ℕ
col rules k = get_or rules k []

abbrev pub system_of : List (List ℕ) → Range → System
system_of rules range =
    rows_of (col rules 0) (col rules 1) (col rules 2) range.lo range.hi range.ceiling

abbrev pub RowsFormed : List (List ℕ) → Range → Type 0
RowsFormed rules range = Shaped (col rules 0) (col rules 1) (col rules 2) range.lo range.hi

-- what is lent: ticks for the variables below hi
pub record Lent (hi ceiling : ℕ) (x : List ℕ) : Type 0 where
  pub low : ceiling < origin
  pub ticks : hi ≤ length x

abbrev pub Under : ℕ → ℕ → ℕ → List ℕ → Type 0
Under lo hi ceiling x = (v : ℕ) → Between lo hi v → get_or x v 0 ≤ ceiling

-- the same outside lo up to hi
abbrev pub Same : ℕ → ℕ → List ℕ → List ℕ → Type 0
Same lo hi old new = (v : ℕ) → (Between lo hi v → ⊥) → get_or new v 0 ≡ get_or old v 0

-- ---- a routine that raises

-- the answer of one that only says whether it could
abbrev pub Outcome : Type 0
Outcome = Result (Unit {0}) Impossible

abbrev pub OutcomeIs : System → (ℕ → ℕ) → (ℕ → ℕ) → Outcome → Type 0
OutcomeIs s floor x (Ok _) = Least s floor x
OutcomeIs s floor x (Err _) = Unsolvable s floor

-- every rule but those of v is kept
abbrev pub KeptBut : System → ℕ → List ℕ → Type 0
KeptBut s v x = (a b w : ℕ) → s.rule a b w → a ≢ v → get_or x a 0 + w ≤ get_or x b 0 + origin

-- x₀ was the floor
pub record Raised (s : System) (x₀ x : List ℕ) (o : Outcome) : Type 0 where
  pub answer : OutcomeIs s (at x₀) (at x) o
  pub ticks : Same s.lo s.hi x₀ x
