-- Points 2, 3 and 4 of "What a plan is" over the rows of its events. No sheet and no plan is named.
use Rattle.std.specs.Prelude.{ℕ, ◌+◌, ◌-◌, ◌*◌, ◌/◌, ◌%◌, ◌≤◌, ◌<◌, ◌≡◌, Bool, true, cond, List, get_or, Option, Some, None, IsSomeAnd}
use Rattle.rules.specs.Sheet.{sets, clears, max_facts}
use Rattle.rules.specs.Plan.{distance_by}
use Rattle.laws.specs.Limits.{most_facts}
use Rattle.sorting.specs.Counting.{group_count, group_unit, group_in}
use Rattle.plan_points.specs.declared.Need.{Need}
use Rattle.plan_points.specs.declared.Span.{Span}

-- the number at place k of a column
unfoldable pub cell : List ℕ → ℕ → ℕ
cell column k = get_or column k 0

-- P holds of every place below n
unfoldable pub Every : (ℕ → Type 0) → ℕ → Type 0
Every P n = (r : ℕ) → r < n → P r

-- ---- rows: how many groups, ticks and entries there can be, and the digits of a row

abbrev pub groups : ℕ
groups = group_count

abbrev pub ticks : ℕ
ticks = 65536

abbrev pub entries : ℕ
entries = 256

-- the number of a group: the events of one type and one fact
unfoldable pub group_of : (kind fact : ℕ) → ℕ
group_of kind fact = max_facts * kind + fact

abbrev pub packed : (group tick entry : ℕ) → ℕ
packed group tick entry = group_unit * group + entries * tick + entry

abbrev pub tick_in : ℕ → ℕ
tick_in x = x / entries % ticks

abbrev pub entry_in : ℕ → ℕ
entry_in x = x % entries

-- the type and the fact of a row's group
abbrev pub type_in : ℕ → ℕ
type_in x = group_in x / most_facts

abbrev pub fact_in : ℕ → ℕ
fact_in x = group_in x % most_facts

-- tick and entry of row r
abbrev pub tick_at : List ℕ → ℕ → ℕ
tick_at rows r = tick_in (cell rows r)

abbrev pub entry_at : List ℕ → ℕ → ℕ
entry_at rows r = entry_in (cell rows r)

-- the rows of group g stand from first g up to first (g + 1)
pub record SpanOf (first : List ℕ) (g : ℕ) (s : Span) : Type 0 where
  pub lo : s.lo ≡ cell first g
  pub hi : s.hi ≡ cell first (g + 1)

-- P holds of every place from lo up to hi
unfoldable pub EveryIn : (ℕ → Type 0) → (lo hi : ℕ) → Type 0
EveryIn P lo hi = (r : ℕ) → lo ≤ r → r < hi → P r

-- ---- points 3 and 4

-- a set of its fact may be the source of the need n
abbrev pub Serve : Need → (entry tick : ℕ) → Type 0
Serve n entry tick = tick + distance_by n.gap entry n.entry ≤ n.from

-- a clear of its fact harms the need n, if the first tick after its source is `after`
pub record Harm (n : Need) (after entry tick : ℕ) : Type 0 where
  pub late : after ≤ tick
  pub early : tick < n.to + distance_by n.gap n.entry entry

-- a source of the need n among the rows from lo up to hi, by the first tick after it: the initial state precedes tick 0
pub data Source (rows : List ℕ) (lo hi : ℕ) (n : Need) (initial : Bool) : ℕ → Type 0 where
  first : initial ≡ true → Source rows lo hi n initial 0
  set
      : (r : ℕ)
      → lo ≤ r
      → r < hi
      → Serve n (entry_at rows r) (tick_at rows r)
      → Source rows lo hi n initial (tick_at rows r + 1)

-- no clear among the rows from lo up to hi harms the need n after its source
unfoldable pub Unharmed : List ℕ → (lo hi : ℕ) → Need → ℕ → Type 0
Unharmed rows lo hi n after = EveryIn (λ r. Harm n after (entry_at rows r) (tick_at rows r) → ⊥) lo hi

-- point 3 for the need n
pub record ServedBy (firsts rows : List ℕ) (n : Need) (initial : Bool) : Type 0 where
  pub after : ℕ
  pub source
      : Source rows (cell firsts (group_of sets n.fact)) (cell firsts (group_of sets n.fact + 1)) n initial after
  pub unharmed
      : Unharmed rows (cell firsts (group_of clears n.fact)) (cell firsts (group_of clears n.fact + 1)) n after

-- past every tick
abbrev pub past : ℕ
past = 131072

-- the tick of a fault that there is not
abbrev pub never : ℕ
never = 262144

-- the tick of the first row from lo up to hi that harms the need n after its source, never if there is none
pub data FirstHarm (rows : List ℕ) (lo hi : ℕ) (n : Need) (after : ℕ) : ℕ → Type 0 where
  none : Unharmed rows lo hi n after → FirstHarm rows lo hi n after never
  harm
      : (q : ℕ)
      → lo ≤ q
      → q < hi
      → Harm n after (entry_at rows q) (tick_at rows q)
      → EveryIn (λ r. Harm n after (entry_at rows r) (tick_at rows r) → tick_at rows q ≤ tick_at rows r) lo hi
      → FirstHarm rows lo hi n after (tick_at rows q)

-- the sources of a need among the sets of its fact, and its clears that harm after a source
abbrev pub SourceOf : (firsts rows : List ℕ) → Need → (initial : Bool) → ℕ → Type 0
SourceOf firsts rows n initial = Source rows (cell firsts (group_of sets n.fact)) (cell firsts (group_of sets n.fact + 1)) n initial

abbrev pub FirstHarmOf : (firsts rows : List ℕ) → Need → (after : ℕ) → ℕ → Type 0
FirstHarmOf firsts rows n after = FirstHarm rows (cell firsts (group_of clears n.fact)) (cell firsts (group_of clears n.fact + 1)) n after

-- where a need goes wrong: at its begin if it has no source, else at the first clear that harms after its latest source, but not before its begin
pub data FaultOf (firsts rows : List ℕ) (n : Need) (initial : Bool) : ℕ → Type 0 where
  unsourced : ((after : ℕ) → SourceOf firsts rows n initial after → ⊥) → FaultOf firsts rows n initial n.from
  early
      : (after t : ℕ)
      → SourceOf firsts rows n initial after
      → ((a : ℕ) → SourceOf firsts rows n initial a → a ≤ after)
      → FirstHarmOf firsts rows n after t
      → t < n.from
      → FaultOf firsts rows n initial n.from
  late
      : (after t : ℕ)
      → SourceOf firsts rows n initial after
      → ((a : ℕ) → SourceOf firsts rows n initial a → a ≤ after)
      → FirstHarmOf firsts rows n after t
      → n.from ≤ t
      → FaultOf firsts rows n initial t

-- point 4 for a goal: a need that begins and ends past every tick
unfoldable pub goal_need : (fact gap : ℕ) → Need
goal_need fact gap = record { entry = 0; fact = fact; from = past; to = past; gap = gap }

-- ---- how they are tested: the latest source decides

-- there is a source, and it is no earlier than one after which this tick is the first
abbrev pub Reaches : Option ℕ → ℕ → Type 0
Reaches best after = IsSomeAnd best (λ b. after ≤ b)

-- best is the first tick after the latest source, none if there is no source
pub record Latest (rows : List ℕ) (lo hi : ℕ) (n : Need) (initial : Bool) (best : Option ℕ) : Type 0 where
  pub sound : (after : ℕ) → best ≡ Some after → Source rows lo hi n initial after
  pub latest : (after : ℕ) → Source rows lo hi n initial after → Reaches best after

-- best is the first tick after the row before place r, or after the initial state where there is none
pub record LastBelow (rows : List ℕ) (lo r : ℕ) (initial : Bool) (best : Option ℕ) : Type 0 where
  pub row : lo < r → best ≡ Some (tick_at rows (r - 1) + 1)
  pub none : r ≤ lo → best ≡ cond initial (Some 0) None

-- best after one more set is r: the first tick after it, if it serves and is later
pub data Later (n : Need) (entry tick : ℕ) (best : Option ℕ) : Option ℕ → Type 0 where
  kept : (Serve n entry tick → Reaches best (tick + 1)) → Later n entry tick best best
  more : Serve n entry tick → (Reaches best (tick + 1) → ⊥) → Later n entry tick best (Some (tick + 1))

-- what the row own is to the need n: if it is a set of its fact, one of the rows from lo up to hi; and of these it is the only one of
-- the need's instance that does not lie a gap before its begin
pub record OwnSet (rows : List ℕ) (lo hi : ℕ) (n : Need) (own : ℕ) : Type 0 where
  pub stands : group_in own ≡ group_of sets n.fact → (r : ℕ) × (lo ≤ r) × (r < hi) × (cell rows r ≡ own)
  pub only
      : (r : ℕ)
      → lo ≤ r
      → r < hi
      → entry_at rows r ≡ n.entry
      → n.from < tick_at rows r + n.gap
      → (group_in own ≡ group_of sets n.fact) × (cell rows r ≡ own)

abbrev pub OwnSetOf : (firsts rows : List ℕ) → Need → (own : ℕ) → Type 0
OwnSetOf firsts rows n own = OwnSet rows (cell firsts (group_of sets n.fact)) (cell firsts (group_of sets n.fact + 1)) n own

-- best after the row own is r
pub data WithOwn (n : Need) (own : ℕ) (best : Option ℕ) : Option ℕ → Type 0 where
  ours
      : {r : Option ℕ}
      → group_in own ≡ group_of sets n.fact
      → entry_in own ≡ n.entry
      → Later n n.entry (tick_in own) best r
      → WithOwn n own best r
  other : (group_in own ≡ group_of sets n.fact → entry_in own ≡ n.entry → ⊥) → WithOwn n own best best

-- ---- point 2

-- no clear of fact f has tick t
unfoldable pub Free : (firsts rows : List ℕ) → (fact tick : ℕ) → Type 0
Free firsts rows fact tick =
    EveryIn (λ r. tick_at rows r ≡ tick → ⊥) (cell firsts (group_of clears fact)) (cell firsts (group_of clears fact + 1))
