-- What the routines of this crate ask and promise: rows of own rules, each job's least ticks, and a row of the table.
use Rattle.std.specs.Prelude.{ℕ, ◌+◌, ◌*◌, ◌≤◌, ◌<◌, ◌≡◌, Bool, true, false, is_ok, List, length, get_or}
use Rattle.rules.specs.Sheet as rules
use Rattle.rules.specs.Plan.{OwnTimes}
use Rattle.rules.specs.Wanted.{RunsAlone, Absent}
use Rattle.sheet.specs.WellFormed.{said_by, formed_by}
use Rattle.sheet.specs.declared.formed.WellFormed.{WellFormed}
use Rattle.laws.specs.Columns.{col}
use Rattle.laws.specs.Limits.{most_events}
use Rattle.index.specs.View.{PresentEvent, PresentMarked, KeptFrom, ByJobOf, JobsOf, spans_in, jobs_in}
use Rattle.kernel_least.specs.System.{System, Between, Least, Unsolvable}
use Rattle.kernel_least.specs.Rows.{Row, rows_of, Same, Outcome, OutcomeIs, at}
use Rattle.own_times.specs.Rules.{most_rules, Rules, OwnRule, Has, Collected}
use Rattle.own_times.specs.Wide.{WideRow}

-- the rows of the sheet's events hold the rules P, but may lack those that always hold within 0 to H
pub record RowsAre (s : rules.Sheet) (P : Rules) (first to weight : List ℕ) : Type 0 where
  pub has : Has s.horizon P (Row first to weight 0 s.events)
  pub rows : s.events < length first
  pub targets : (a : ℕ) → a ≤ s.events → get_or first a 0 ≤ length to
  pub weights : (a : ℕ) → a ≤ s.events → get_or first a 0 ≤ length weight

-- room for them
pub record OwnRowRoom (first to weight : List ℕ) : Type 0 where
  pub rows : most_events < length first
  pub targets : most_rules ≤ length to
  pub weights : most_rules ≤ length weight

-- the rows of own rules, one after the other
pub record OwnRowsOf (s : rules.Sheet) (first to weight : List ℕ) : Type 0 where
  pub rows : RowsAre s (OwnRule s) first to weight
  pub rises : (a : ℕ) → a < s.events → get_or first a 0 ≤ get_or first (a + 1) 0
  pub few : get_or first s.events 0 ≤ most_rules

-- ---- each job's least ticks

-- the ticks from lo up to hi are at the floor, the others as they were
pub record FilledWith (lo hi floor : ℕ) (x₀ x : List ℕ) : Type 0 where
  pub inside : (e : ℕ) → Between lo hi e → get_or x e 0 ≡ floor
  pub outside : Same lo hi x₀ x

-- one job was raised from its floor; where it was not, no solution exists
pub record JobDone (s : System) (floor : ℕ) (x₀ x : List ℕ) (r : Outcome) : Type 0 where
  pub ticks : Same s.lo s.hi x₀ x
  pub answer : OutcomeIs s (λ v. floor) (at x) r

-- x holds the least ticks of one job above its floor; or there are none, and its ticks are 0
pub record JobLeast (s : System) (floor : ℕ) (x : List ℕ) (r : Bool) : Type 0 where
  pub least : r ≡ true → Least s (λ v. floor) (at x)
  pub none : r ≡ false → Unsolvable s (λ v. floor)
  pub cleared : r ≡ false → (e : ℕ) → Between s.lo s.hi e → get_or x e 0 ≡ 0

-- and no other ticks were touched
pub record JobFound (s : System) (floor : ℕ) (x₀ x : List ℕ) (r : Outcome) : Type 0 where
  pub ticks : Same s.lo s.hi x₀ x
  pub here : JobLeast s floor x (is_ok r)

-- job j's rows, of the rules r, by the jobs' spans
abbrev pub job_rows : rules.Sheet → List ℕ → List (List ℕ) → (j : ℕ) → System
job_rows s span r j = rows_of (col r 0) (col r 1) (col r 2) (get_or span j 0) (get_or span (j + 1) 0) s.horizon

-- t are the least own times of job j
pub record LeastOwn (s : rules.Sheet) (j : ℕ) (t : ℕ → ℕ) : Type 0 where
  pub own : OwnTimes s j t
  pub least : (y : ℕ → ℕ) → OwnTimes s j y → (e : ℕ) → e < s.events → (s.event e).job ≡ j → t e ≤ y e

-- x holds the least own times of every present job, and 0 for the events of absent ones
pub record LeastOwns (s : rules.Sheet) (x : List ℕ) : Type 0 where
  pub own : (j : ℕ) → j < s.jobs → RunsAlone s j → LeastOwn s j (at x)
  pub cleared : (e : ℕ) → e < s.events → Absent s (s.event e).job → get_or x e 0 ≡ 0

-- the present jobs are marked, and no place behind the last job is; x holds their least own times, and x₀ behind the last event
pub record AloneAre (s : rules.Sheet) (x₀ x : List ℕ) (marks : List Bool) : Type 0 where
  pub present : PresentMarked s marks
  pub unmarked : (j : ℕ) → s.jobs ≤ j → get_or marks j false ≡ false
  pub least : LeastOwns s x
  pub rest : KeptFrom s.events x₀ x

-- ---- a row of the table

-- what is asked of a sheet, its jobs' spans and the rows of its own rules
pub record RowsAsk (sheet : WellFormed) (jobs first to weight : List ℕ) : Type 0 where
  pub by_job : ByJobOf (said_by sheet) jobs
  pub rows : RowsAre (said_by sheet) (OwnRule (said_by sheet)) first to weight

-- the same of the rules r
abbrev pub RulesAsk : WellFormed → (span : List ℕ) (r : List (List ℕ)) → Type 0
RulesAsk sheet span r = RowsAsk sheet span (col r 0) (col r 1) (col r 2)

-- and of the index c
abbrev pub OwnAsks : WellFormed → (c r : List (List ℕ)) → Type 0
OwnAsks sheet c r = RowsAsk sheet (spans_in c) (col r 0) (col r 1) (col r 2)

-- r has the first three columns of o
pub record RulesIn (o r : List (List ℕ)) : Type 0 where
  pub first : col r 0 ≡ col o 0
  pub to : col r 1 ≡ col o 1
  pub weight : col r 2 ≡ col o 2

-- no span of the first n jobs is greater than m
abbrev pub SpansIn : (n : ℕ) (jobs : List ℕ) (m : ℕ) → Type 0
SpansIn n jobs m = (j : ℕ) → j < n → get_or jobs (j + 1) 0 ≤ get_or jobs j 0 + m

-- m is the greatest of them, 0 if there is none
pub record StrideIs (n : ℕ) (jobs : List ℕ) (m : ℕ) : Type 0 where
  pub spans : SpansIn n jobs m
  pub least : (k : ℕ) → SpansIn n jobs k → m ≤ k

-- what every row asks besides the rows of rules: the least own times, and a stride of at least every span
pub record TimesAsk (s : rules.Sheet) (m : ℕ) (jobs x : List ℕ) : Type 0 where
  pub least : LeastOwns s x
  pub long : s.events ≤ length x
  pub spans : SpansIn s.jobs jobs m

-- what every row asks, of the index c and the columns o: the rows of own rules, the least own times, and the stride m
pub record TableAsks (sheet : WellFormed) (c o : List (List ℕ)) (m : ℕ) : Type 0 where
  pub rules : OwnAsks sheet c o
  pub times : TimesAsk (said_by sheet) m (spans_in c) (col o 3)
  pub jobs : JobsOf (said_by sheet) (jobs_in c)

-- what the row of event e asks besides: its job is present
pub record RowAsks (s : rules.Sheet) (n m e : ℕ) (table : List ℕ) : Type 0 where
  pub event : PresentEvent s e
  pub room : n + m * s.events + s.events ≤ length table

-- event e has its row; what stands elsewhere stays
pub record TableRow (s : rules.Sheet) (n m : ℕ) (jobs : List ℕ) (e : ℕ) (table₀ table : List ℕ) : Type 0 where
  pub row : WideRow s e (λ y. get_or table (n + m * e + y) 0)
  pub others
      : (i : ℕ)
      → (Between (n + m * e + get_or jobs (s.event e).job 0) (n + m * e + get_or jobs ((s.event e).job + 1) 0) i → ⊥)
      → get_or table i 0 ≡ get_or table₀ i 0

-- event e is marked, and so is every other of k that was
pub record Grown (k e : ℕ) (table₀ table : List ℕ) : Type 0 where
  pub here : 0 < get_or table e 0
  pub still : (x : ℕ) → x < k → 0 < get_or table₀ x 0 → 0 < get_or table x 0

-- ---- from the list of rules

-- the rules of all jobs' own times in a list
abbrev pub OwnList : rules.Sheet → (from to weight : List ℕ) (n : ℕ) → Type 0
OwnList s = Collected s s.bounds s.events most_rules
