-- All pairs of a fact: how far they are guarded, what is watched of a fact that is not shown, and the marking that goes on until nothing is added.
use Rattle.std.specs.Prelude.{ℕ, ◌+◌, ◌≤◌, ◌<◌, ◌≡◌, ◌⊎◌, Bool, true, false, List, [], Option, MatchOption, length, get_or, set, take}
use Rattle.rules.specs.Sheet as rules
use Rattle.theory.specs.Computed.Mark.{LastSound, LastClosed, AllGuardedFirst}
use Rattle.index.specs.View.{events_in}
use Rattle.laws.specs.Columns.{col}
use Rattle.laws.specs.Test.{Says}
use Rattle.laws.specs.Throughout.{Throughout}
use Rattle.laws.specs.Limits.{most_facts}
use Rattle.order_guard.specs.Pair.{In, cell_of, mark_of, Two, GuardBy, Guarded}
use Rattle.order_shown.specs.declared.Spot.{Spot}
use Rattle.order_shown.specs.declared.Order.{Order}
use Rattle.order_shown.specs.declared.Order.TheVariants.{Last, First}

-- ---- the two orders

-- the columns of the index whose events stand in a pair's row and in its column
abbrev pub row_column : Order → ℕ
row_column Last = 1
row_column First = 2

abbrev pub col_column : Order → ℕ
col_column Last = 2
col_column First = 1

-- the row's job must be wanted too
abbrev pub both_of : Order → Bool
both_of Last = false
both_of First = true

-- ---- facts with and without a pair, by the index of two types

pub record Paired (row_first col_first : List ℕ) (f : ℕ) : Type 0 where
  pub rows : cell_of row_first f < cell_of row_first (f + 1)
  pub cols : cell_of col_first f < cell_of col_first (f + 1)

abbrev pub Unpaired : (row_first col_first : List ℕ) (f : ℕ) → Type 0
Unpaired row_first col_first f = (cell_of row_first (f + 1) ≤ cell_of row_first f) ⊎ (cell_of col_first (f + 1) ≤ cell_of col_first f)

-- the facts below n that are marked have no pair
pub record Plain (row_first col_first : List ℕ) (n : ℕ) (m : List Bool) : Type 0 where
  pub long : length m ≡ most_facts
  pub plain : (f : ℕ) → In m f → (f < n) × Unpaired row_first col_first f

-- ---- pairs that count

-- the pair counts, and no marked fact guards it; with `both` the row's job must be wanted too
pub record Open (s : rules.Sheet) (m jobs : List Bool) (both : Bool) (row col : ℕ) : Type 0 where
  pub row_wanted : both ≡ true → In jobs (s.event row).job
  pub col_wanted : In jobs (s.event col).job
  pub unguarded : Guarded s m row col → ⊥

-- the pair does not count, or a marked fact guards it
pub record Fine (s : rules.Sheet) (m jobs : List Bool) (both : Bool) (row col : ℕ) : Type 0 where
  pub guarded : (both ≡ true → In jobs (s.event row).job) → In jobs (s.event col).job → Guarded s m row col

-- a row is fine over the columns from a up to n
abbrev pub RowFine : rules.Sheet → (m jobs : List Bool) → (both : Bool) → List ℕ → (a n : ℕ) → ℕ → Type 0
RowFine s m jobs both cols a n row = Throughout (λ l. Fine s m jobs both row (cell_of cols l)) a n

-- ---- the pairs of a fact

-- the lists that say which pairs a fact has, and the jobs whose pairs count
pub record Sides : Type 0 where
  pub jobs : List Bool
  pub row_first : List ℕ
  pub rows : List ℕ
  pub col_first : List ℕ
  pub cols : List ℕ

-- those of an order, by the index c
abbrev pub sides_of : Order → List Bool → List (List ℕ) → Sides
sides_of o jobs c =
    record { jobs = jobs; row_first = col c (row_column o); rows = events_in c; col_first = col c (col_column o); cols = events_in c }

abbrev pub last_sides : List Bool → List (List ℕ) → Sides
last_sides = sides_of Last

-- the rows of fact f from a up to n are fine, each over all its columns
abbrev pub RowsFine : rules.Sheet → Sides → (m : List Bool) → (both : Bool) → (f a n : ℕ) → Type 0
RowsFine s g m both f a n =
    Throughout (λ k. RowFine s m g.jobs both g.cols (cell_of g.col_first f) (cell_of g.col_first (f + 1)) (cell_of g.rows k)) a n

-- ---- the look through a grid of pairs

-- the columns from a place to another make pairs with the row
pub record AsksStop (s : rules.Sheet) (cols : List ℕ) (row from to : ℕ) : Type 0 where
  pub pairs : (k : ℕ) → from ≤ k → k < to → Two s row (cell_of cols k)
  pub long : to ≤ length cols

-- k is the first open column of the row
pub record OpenColumn (s : rules.Sheet) (m jobs : List Bool) (both : Bool) (cols : List ℕ) (row from to k : ℕ) : Type 0 where
  pub low : from ≤ k
  pub high : k < to
  pub fine : RowFine s m jobs both cols from k row
  pub opens : Open s m jobs both row (cell_of cols k)

-- the first open column of the row, if there is one
abbrev pub Stops
    : rules.Sheet → (m jobs : List Bool) → (both : Bool) → List ℕ → (row from to : ℕ) → Option ℕ → Type 0
Stops s m jobs both cols row from to r =
    MatchOption r (RowFine s m jobs both cols from to row) (λ k. OpenColumn s m jobs both cols row from to k)

-- a place to start at: the row's pairs before it are fine
pub record AsksSeek (s : rules.Sheet) (g : Sides) (m : List Bool) (both : Bool) (f : ℕ) (start : Spot) : Type 0 where
  pub marks : most_facts ≤ length m
  pub exists : f < s.facts
  pub row_low : cell_of g.row_first f ≤ start.row
  pub col_low : cell_of g.col_first f ≤ start.col
  pub begun : RowFine s m g.jobs both g.cols (cell_of g.col_first f) start.col (cell_of g.rows start.row)

-- the pair at the spot is the first open one from row a on
pub record Found (s : rules.Sheet) (g : Sides) (m : List Bool) (both : Bool) (f a : ℕ) (spot : Spot) : Type 0 where
  pub low : a ≤ spot.row
  pub high : spot.row < cell_of g.row_first (f + 1)
  pub rows_fine : RowsFine s g m both f a spot.row
  pub col_low : cell_of g.col_first f ≤ spot.col
  pub col_high : spot.col < cell_of g.col_first (f + 1)
  pub fine : RowFine s m g.jobs both g.cols (cell_of g.col_first f) spot.col (cell_of g.rows spot.row)
  pub opens : Open s m g.jobs both (cell_of g.rows spot.row) (cell_of g.cols spot.col)

-- the first open pair from row a on, if there is one
abbrev pub Seeks : rules.Sheet → Sides → (m : List Bool) → (both : Bool) → (f a : ℕ) → Option Spot → Type 0
Seeks s g m both f a r =
    MatchOption r (RowsFine s g m both f a (cell_of g.row_first (f + 1))) (λ spot. Found s g m both f a spot)

-- ---- cleared last: what is watched

-- the pairs of fact f before this one are fine
pub record PairsPassed (s : rules.Sheet) (g : Sides) (m : List Bool) (f : ℕ) (spot : Spot) : Type 0 where
  pub row_low : cell_of g.row_first f ≤ spot.row
  pub col_low : cell_of g.col_first f ≤ spot.col
  pub before : RowsFine s g m false f (cell_of g.row_first f) spot.row
  pub begun : RowFine s m g.jobs false g.cols (cell_of g.col_first f) spot.col (cell_of g.rows spot.row)

-- and the pair there counts and is not guarded by any fact marked in d: it is watched
pub record Watched (s : rules.Sheet) (g : Sides) (m d : List Bool) (f : ℕ) (spot : Spot) : Type 0 where
  pub passed : PairsPassed s g m f spot
  pub row_in : spot.row < cell_of g.row_first (f + 1)
  pub col_in : spot.col < cell_of g.col_first (f + 1)
  pub row_long : spot.row < length g.rows
  pub col_long : spot.col < length g.cols
  pub wanted : In g.jobs (s.event (cell_of g.cols spot.col)).job
  pub opens : (p : ℕ) → In d p → GuardBy s p (cell_of g.rows spot.row) (cell_of g.cols spot.col) → ⊥

-- the pair that is watched of fact f
abbrev pub no_spot : Spot
no_spot = record { row = 0; col = 0 }

abbrev pub spot_at : List Spot → ℕ → Spot
spot_at at f = get_or at f no_spot

-- fact f is marked, or a pair of it is watched
abbrev pub MarkedOrWatched : rules.Sheet → Sides → (m d : List Bool) → (at : List Spot) → ℕ → Type 0
MarkedOrWatched s g m d at f = In m f ⊎ Watched s g m d f (spot_at at f)

pub record Long (m : List Bool) (at : List Spot) : Type 0 where
  pub marks : length m ≡ most_facts
  pub places : length at ≡ most_facts

-- fact f was looked at: marked, or a pair of it watched against the facts of d; nothing else changed
pub record Moved
    (s : rules.Sheet)
    (g : Sides)
    (f : ℕ)
    (d m : List Bool)
    (at : List Spot)
    (m' : List Bool)
    (at' : List Spot)
    : Type 0 where
  pub long : Long m' at'
  pub sound : LastSound s (λ p. In m' p)
  pub grown : (k : ℕ) → In m k → In m' k
  pub spot : (k : ℕ) → (k ≡ f → ⊥) → spot_at at' k ≡ spot_at at k
  pub here : MarkedOrWatched s g m' d at' f

-- every mark is shown, every fact of d is marked, and every fact below n is marked or watched against d
pub record StateTo (s : rules.Sheet) (g : Sides) (n : ℕ) (d m : List Bool) (at : List Spot) : Type 0 where
  pub long : Long m at
  pub sound : LastSound s (λ p. In m p)
  pub tried : (p : ℕ) → In d p → In m p
  pub settled : Throughout (MarkedOrWatched s g m d at) 0 n

abbrev pub State : rules.Sheet → Sides → (d m : List Bool) → (at : List Spot) → Type 0
State s g d m at = StateTo s g s.facts d m at

pub record AsksSettle (s : rules.Sheet) (g : Sides) (m : List Bool) (at : List Spot) (f : ℕ) (start : Spot) : Type 0 where
  pub long : Long m at
  pub sound : LastSound s (λ p. In m p)
  pub exists : f < s.facts
  pub passed : PairsPassed s g m f start

-- a fact that is marked is tried on the pair that is watched of fact f
pub record AsksVisit (s : rules.Sheet) (g : Sides) (m : List Bool) (at : List Spot) (p f : ℕ) : Type 0 where
  pub long : Long m at
  pub sound : LastSound s (λ q. In m q)
  pub fact : p < s.facts
  pub marked : In m p
  pub few : s.facts ≤ most_facts
  pub exists : f < s.facts
  pub settled : MarkedOrWatched s g m [] at f

-- whatever facts d were tried before, f was looked at against those and p
pub record Visits (s : rules.Sheet) (g : Sides) (p f : ℕ) (m : List Bool) (at : List Spot) (m' : List Bool) (at' : List Spot) : Type 0 where
  pub moved
      : (d : List Bool)
      → ((q : ℕ) → In (set d p true) q → In m q)
      → MarkedOrWatched s g m d at f
      → Moved s g f (set d p true) m at m' at'

-- the facts that an array and a count hold: the first ones of the array, as many as the count
abbrev pub listed_in : List ℕ × ℕ → List ℕ
listed_in d = take d.1 d.0

-- fact f is in a list
pub record InRest (rest : List ℕ) (f : ℕ) : Type 0 where
  pub at : ℕ
  pub below : at < length rest
  pub is : cell_of rest at ≡ f

-- those of a list are facts, and every fact that is not marked is among them
pub record RestLists (m : List Bool) (facts : ℕ) (rest : List ℕ) : Type 0 where
  pub few : facts ≤ most_facts
  pub exist : (k : ℕ) → k < length rest → cell_of rest k < facts
  pub whole : (f : ℕ) → f < facts → In m f ⊎ InRest rest f

pub record AsksSpread (s : rules.Sheet) (g : Sides) (rest : List ℕ) (m : List Bool) (at : List Spot) (p : ℕ) : Type 0 where
  pub state : State s g [] m at
  pub listed : RestLists m s.facts rest
  pub exists : p < s.facts
  pub marked : In m p

-- the state after one more fact of d, from the marks m
pub record SpreadOf (s : rules.Sheet) (g : Sides) (d m m' : List Bool) (at' : List Spot) : Type 0 where
  pub state : State s g d m' at'
  pub grown : (k : ℕ) → In m k → In m' k

-- the same whatever facts d were tried before p
pub record Spreads (s : rules.Sheet) (g : Sides) (p : ℕ) (m : List Bool) (at : List Spot) (m' : List Bool) (at' : List Spot) : Type 0 where
  pub after : (d : List Bool) → State s g d m at → SpreadOf s g (set d p true) m m' at'

-- fact p is marked and not yet tried
pub record Untried (m d : List Bool) (facts p : ℕ) : Type 0 where
  pub exists : p < facts
  pub marked : In m p
  pub untried : In d p → ⊥

-- such a fact, or none of the facts from a on is such
abbrev pub NextFrom : (m d : List Bool) → (facts a : ℕ) → Option ℕ → Type 0
NextFrom m d facts a r = MatchOption r (Throughout (λ q. In m q → In d q) a facts) (λ p. Untried m d facts p)

-- or none at all
abbrev pub Next : (m d : List Bool) → (facts : ℕ) → Option ℕ → Type 0
Next m d facts r = NextFrom m d facts 0 r

-- ---- the marks

pub record LastOf (s : rules.Sheet) (m : List Bool) : Type 0 where
  pub long : length m ≡ most_facts
  pub sound : LastSound s (λ p. In m p)
  pub closed : LastClosed s (λ p. In m p)

pub record FirstOf (s : rules.Sheet) (m : List Bool) (n : ℕ) (r : List Bool) : Type 0 where
  pub long : length r ≡ most_facts
  pub says : Throughout (λ f. Says (AllGuardedFirst s (λ p. In m p) f) (mark_of r f)) 0 n
