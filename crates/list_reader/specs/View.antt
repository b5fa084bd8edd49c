-- What the code's Entries and its list hold, in the terms of the definitions.
use Rattle.std.specs.Prelude.{ℕ, zero, suc, ◌+◌, ◌-◌, ◌*◌, ◌≤◌, ◌<◌, ◌≡◌, Bool, true, false, cond, ◌&&◌, List, length, get_or, eqb, leb, Option, Some, None, MatchOption}
use Rattle.rules.specs.Count.{every, first, byte}
use Rattle.rules.specs.Sheet as rules
use Rattle.rules.specs.RunList.{max_instances, instances, events_of, job_of, body_of, entry_fits, list_ok}
use Rattle.laws.specs.Limits.{most_entries, most_body, far_list}
use Rattle.sheet.specs.declared.formed.WellFormed.{WellFormed}
use Rattle.sheet.specs.WellFormed.{said_by}
use Rattle.index.specs.View.{ByJobOf}
use Rattle.list_reader.specs.declared.RunList.{RunList}
use Rattle.list_reader.specs.declared.Entries.{Entries}
use Rattle.list_reader.specs.declared.Entry.{Entry}
use Rattle.numbers.specs.Size.{word}

-- what the list's readers ask of the sheet and its spans
pub record WithSpans (sheet : WellFormed) (r : List ℕ) : Type 0 where
  pub spans : ByJobOf (said_by sheet) r

-- ---- entries

-- body k starts no later: 64 entries, and 256 events in each job
abbrev pub near_body : ℕ → ℕ
near_body k = most_entries + most_body * k

-- the number of the job with a code, the count of jobs if there is none
unfoldable pub job_with : rules.Sheet → ℕ → ℕ
job_with s code = first (λ j. eqb (s.code j) code) s.jobs

-- r is that number, none if there is none
abbrev pub Finds : rules.Sheet → ℕ → Option ℕ → Type 0
Finds s code r = MatchOption r (job_with s code ≡ s.jobs) (λ j. (j ≡ job_with s code) × (j < s.jobs))

-- how many times the first k entries have
unfoldable pub times_of : rules.Sheet → List ℕ → ℕ → ℕ
times_of s l zero = 0
times_of s l (suc k) = times_of s l k + events_of s (job_of s l k)

-- what reading entry k asks: at is where its body starts
pub record AtEntry (sheet : WellFormed) (spans : List ℕ) (l : List ℕ) (k at : ℕ) : Type 0 where
  pub spanned : WithSpans sheet spans
  pub few : k < max_instances
  pub body : at ≡ body_of (said_by sheet) l k
  pub near : at ≤ near_body k

-- an entry k that fits
pub record EntryIs (s : rules.Sheet) (l : List ℕ) (k : ℕ) (r : Entry) : Type 0 where
  pub fits : entry_fits s l k ≡ true
  pub job : r.job ≡ job_of s l k
  pub within : r.job < s.jobs
  pub next : r.next ≡ body_of s l (k + 1)
  pub near : r.next ≤ near_body (k + 1)

-- what reading entry k finds
abbrev pub EntryOf : rules.Sheet → List ℕ → ℕ → Option Entry → Type 0
EntryOf s l k r = MatchOption r (entry_fits s l k ≡ false) (EntryIs s l k)

-- what reading all entries asks: there are no more than a list can hold
pub record FewEntries (sheet : WellFormed) (spans : List ℕ) (l : List ℕ) : Type 0 where
  pub spanned : WithSpans sheet spans
  pub few : instances l ≤ max_instances

-- the columns have room for all entries
pub record Columns (jobs places : List ℕ) : Type 0 where
  pub job_room : length jobs ≡ max_instances
  pub place_room : length places ≡ max_instances

-- the entries of list l, which all fit: job i and place i of entry i, and where the last body ends
pub record EntriesAre (s : rules.Sheet) (l : List ℕ) (jobs places : List ℕ) (r : Entries) : Type 0 where
  pub count : r.count ≡ instances l
  pub few : r.count ≤ max_instances
  pub room : Columns jobs places
  pub job : (i : ℕ) → i < r.count → get_or jobs i 0 ≡ job_of s l i
  pub place : (i : ℕ) → i < r.count → get_or places i 0 ≡ body_of s l i
  pub fits : every (entry_fits s l) (instances l) ≡ true
  pub end : r.end ≡ body_of s l (instances l)
  pub near_end : r.end < word

-- what reading all entries finds
abbrev pub EntriesOf : rules.Sheet → List ℕ → Option Entries → (jobs places : List ℕ) → Type 0
EntriesOf s l r jobs places = MatchOption r (every (entry_fits s l) (instances l) ≡ false) (EntriesAre s l jobs places)

-- ---- the answer

-- the rules of the first four bytes
unfoldable pub head_ok : List ℕ → Bool
head_ok l = eqb (byte l 0) 1 && eqb (byte l 1) 0 && leb (instances l) max_instances

-- a well-formed list, as the code holds it
pub record ListIs (s : rules.Sheet) (l : List ℕ) (w : RunList) (jobs places : List ℕ) : Type 0 where
  pub ok : list_ok s l ≡ true
  pub count : w.instances ≡ instances l
  pub few : w.instances ≤ max_instances
  pub room : Columns jobs places
  pub job : (i : ℕ) → i < w.instances → get_or jobs i 0 ≡ job_of s l i
  pub place : (i : ℕ) → i < w.instances → get_or places i 0 ≡ body_of s l i

-- the answer number of each case
abbrev pub number_of : Option RunList → ℕ
number_of (Some w) = 0
number_of None = 40

-- and its values
abbrev pub FormHolds : rules.Sheet → List ℕ → Option RunList → (jobs places : List ℕ) → Type 0
FormHolds s l (Some w) jobs places = ListIs s l w jobs places
FormHolds s l None jobs places = list_ok s l ≡ false

-- the number that the list draws, 0 if it is well formed
unfoldable pub list_fault : rules.Sheet → List ℕ → ℕ
list_fault s l = cond (list_ok s l) 0 40

-- Some exactly if the list is well formed, None exactly if it is not
pub record FormOf (s : rules.Sheet) (l : List ℕ) (r : Option RunList) (jobs places : List ℕ) : Type 0 where
  pub number : list_fault s l ≡ number_of r
  pub values : FormHolds s l r jobs places

-- ---- times

-- e is an event from first on, and its time stands in the list, where the times of its entry begin at place
pub record InBody (l : List ℕ) (place first e : ℕ) : Type 0 where
  pub own : first ≤ e
  pub inside : place + 2 * (e - first) + 1 < length l
  pub short : length l < far_list
