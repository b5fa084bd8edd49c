-- What the rows hold: each event of each instance of a plan, and nothing else.
use Rattle.std.specs.Prelude.{ℕ, ◌+◌, ◌-◌, ◌*◌, ◌≤◌, ◌<◌, ◌≡◌, List, length}
use Rattle.rules.specs.Count.{two}
use Rattle.rules.specs.Sheet as rules
use Rattle.rules.specs.RunList.{Plan, max_times}
use Rattle.laws.specs.Columns.{col}
use Rattle.laws.specs.Limits.{far_list}
use Rattle.sheet.specs.WellFormed.{said_by}
use Rattle.sheet.specs.declared.formed.WellFormed.{WellFormed}
use Rattle.index.specs.View.{ByJobOf}
use Rattle.list_reader.specs.View.{ListIs}
use Rattle.sorting.specs.Counting.{group_in}
use Rattle.plan_points.specs.Flat.{cell, groups, entries, group_of, packed, tick_in, entry_in}
use Rattle.instances.specs.declared.Body.{Body}
use Rattle.numbers.specs.Size.{word}

-- a formed sheet, the spans of its jobs' events, and a well-formed list's entries
pub record InstancesOf (sheet : WellFormed) (first jobs places : List ℕ) (count : ℕ) (l : List ℕ) : Type 0 where
  pub spans : ByJobOf (said_by sheet) first
  pub list : ListIs (said_by sheet) l (record { instances = count }) jobs places

-- the three columns in one bundle
abbrev pub entry_jobs : List (List ℕ) → List ℕ
entry_jobs c = col c 1

abbrev pub Lists : WellFormed → List (List ℕ) → ℕ → List ℕ → Type 0
Lists sheet c count l = InstancesOf sheet (col c 0) (entry_jobs c) (col c 2) count l

-- the group of an event: its type and fact, which is its key
abbrev pub group_at : rules.Sheet → ℕ → ℕ
group_at s e = group_of (s.event e).kind (s.event e).fact

-- the tick of event e in a body that begins at place with event first
unfoldable pub time_at : List ℕ → (place first e : ℕ) → ℕ
time_at l place first e = two l (place + 2 * (e - first))

-- ---- one instance

pub record BodyFits (group : List ℕ) (at : Body) (l rows : List ℕ) (n : ℕ) : Type 0 where
  pub entry : at.entry < entries
  pub rises : at.first ≤ at.end
  pub in_group : at.end ≤ length group
  pub keys : (e : ℕ) → at.first ≤ e → e < at.end → cell group e < groups
  pub few_events : at.end < word
  pub in_list : at.place + 2 * (at.end - at.first) ≤ length l
  pub short : length l < far_list
  pub room : n + (at.end - at.first) ≤ length rows
  pub few : length rows < word

pub record BodyFilled (group : List ℕ) (at : Body) (l : List ℕ) (n : ℕ) (old new : List ℕ) (r : ℕ) : Type 0 where
  pub count : r ≡ n + (at.end - at.first)
  pub long : length new ≡ length old
  pub before : (k : ℕ) → k < n → cell new k ≡ cell old k
  pub here
      : (e : ℕ)
      → at.first ≤ e
      → e < at.end
      → cell new (n + (e - at.first)) ≡ packed (cell group e) (time_at l at.place at.first e) at.entry
  pub ticks : (e : ℕ) → at.first ≤ e → e < at.end → time_at l at.place at.first e < word

-- ---- all instances

-- there is room for every time of a list
pub record RowRoom (rows : List ℕ) : Type 0 where
  pub room : max_times ≤ length rows
  pub few : length rows < word

-- x is the row of event e of instance i
pub record RowHas (s : rules.Sheet) (p : Plan) (x i e : ℕ) : Type 0 where
  pub in_plan : i < p.count
  pub in_sheet : e < s.events
  pub of_job : (s.event e).job ≡ p.job i
  pub group : group_in x ≡ group_at s e
  pub tick : tick_in x ≡ p.time i e
  pub entry : entry_in x ≡ i

-- row k is that of event e of instance i, and the rows after it those of the events after it that are of the same job
pub record EventRow (s : rules.Sheet) (p : Plan) (rows : List ℕ) (n k i e : ℕ) : Type 0 where
  pub has : RowHas s p (cell rows k) i e
  pub ahead
      : (m : ℕ) → e + m < s.events → (s.event (e + m)).job ≡ p.job i → (k + m < n) × RowHas s p (cell rows (k + m)) i (e + m)

-- the first n rows are the events of the plan's instances, each and no other
pub record EventRows (s : rules.Sheet) (p : Plan) (rows : List ℕ) (n : ℕ) : Type 0 where
  pub few : n ≤ max_times
  pub room : n ≤ length rows
  pub sound : (k : ℕ) → k < n → (i : ℕ) × (e : ℕ) × EventRow s p rows n k i e
  pub whole
      : (i e : ℕ) → i < p.count → e < s.events → (s.event e).job ≡ p.job i → (k : ℕ) × (k < n) × EventRow s p rows n k i e
