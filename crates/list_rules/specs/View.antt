-- What the routines of this crate ask of what is lent to them, and what they promise.
use Rattle.std.specs.Prelude.{ℕ, ◌+◌, ◌-◌, ◌*◌, ◌≤◌, ◌<◌, ◌≡◌, ◌⊎◌, Bool, true, false, List, length, get_or, map}
use Rattle.rules.specs.Sheet as rules
use Rattle.rules.specs.Sheet.{initial}
use Rattle.rules.specs.Plan.{distance_by}
use Rattle.rules.specs.Wanted.{WantedFact, WantedJob}
use Rattle.laws.specs.Columns.{col}
use Rattle.laws.specs.Limits.{most_jobs, most_events}
use Rattle.sheet.specs.WellFormed.{said_by}
use Rattle.sheet.specs.declared.formed.WellFormed.{WellFormed}
use Rattle.index.specs.View.{IndexOf, events_in}
use Rattle.marks.specs.View.{job_marks, last_starts, WantedJobs, MarkedSheet}
use Rattle.kernel_least.specs.System.{origin}
use Rattle.kernel_least.specs.Rows.{Row, Shaped}
use Rattle.own_times.specs.Rules.{most_rules, Rules, Has}
use Rattle.numbers.specs.Size.{word}
use Rattle.own_times.specs.View.{OwnRowsOf}
use Rattle.list_rules.specs.declared.Link.{Link}
use Rattle.list_rules.specs.declared.Marked.{Marked}
use Rattle.list_rules.specs.declared.Place.{Place}
use Rattle.list_rules.specs.Rules.{one_tick, LinkRule, ListedRule}

-- ---- limits

-- the starts of the rows of all events, with the end of the last
abbrev pub starts_most : ℕ
starts_most = most_events + 1

-- events of one type and one fact: one of each job at most
abbrev pub group_most : ℕ
group_most = most_jobs

-- rules that lead from an event to others of its fact: two groups at most
abbrev pub links_most : ℕ
links_most = 2 * group_most

-- own rules, and those links for each event
abbrev pub rows_most : ℕ
rows_most = most_rules + links_most * most_events

-- ---- what is lent

-- the sheet, the index and the marks that are lent as one, and that they belong together
abbrev pub sheet_of : Marked → rules.Sheet
sheet_of m = said_by m.sheet

abbrev pub columns_of : Marked → List (List ℕ)
columns_of m = map (λ x. x.now) m.columns

abbrev pub marks_of : Marked → List (List Bool)
marks_of m = map (λ x. x.now) m.marks

abbrev pub IsMarked : Marked → Type 0
IsMarked m = MarkedSheet m.sheet (columns_of m) (marks_of m)

-- the columns of a bundle of rules: where each row starts, the targets, the weights
abbrev pub starts : List (List ℕ) → List ℕ
starts own = col own 0

abbrev pub targets : List (List ℕ) → List ℕ
targets own = col own 1

abbrev pub weights : List (List ℕ) → List ℕ
weights own = col own 2

-- the rows of own rules, one after the other
abbrev pub OwnRows : rules.Sheet → List (List ℕ) → Type 0
OwnRows s own = OwnRowsOf s (starts own) (targets own) (weights own)

-- one row of them is there
pub record OwnRow (own : List (List ℕ)) (a : ℕ) : Type 0 where
  pub small : a < most_events
  pub there : a + 1 < length (starts own)
  pub rises : get_or (starts own) a 0 ≤ get_or (starts own) (a + 1) 0
  pub targets : get_or (starts own) (a + 1) 0 ≤ length (targets own)
  pub weights : get_or (starts own) (a + 1) 0 ≤ length (weights own)

-- ---- what the rows hold

-- exactly the own rules of wanted jobs and the rules between them, but for those that always hold; and they can be raised
pub record ListRows (s : rules.Sheet) (first to weight : List ℕ) : Type 0 where
  pub has : Has s.horizon (ListedRule s) (Row first to weight 0 s.events)
  pub shaped : Shaped first to weight 0 s.events

-- whether they fitted: always if there is room for the most that there can be
pub record RowsFit (s : rules.Sheet) (first to weight : List ℕ) (r : Bool) : Type 0 where
  pub rows : r ≡ true → ListRows s first to weight
  pub always : rows_most ≤ length to → rows_most ≤ length weight → r ≡ true

-- ---- inside: a row is written at the end of the columns

abbrev pub Links : Type 1
Links = (b w : ℕ) → Type 0

-- an entry from place lo up to hi leads to b with weight w
pub record Entry (to weight : List ℕ) (lo hi b w : ℕ) : Type 0 where
  pub place : ℕ
  pub from : lo ≤ place
  pub below : place < hi
  pub target : get_or to place 0 ≡ b
  pub weighs : get_or weight place 0 ≡ w

-- the own rules of event a, by their row
abbrev pub OwnEntry : (own : List (List ℕ)) (a : ℕ) → Links
OwnEntry own a = Entry (targets own) (weights own) (get_or (starts own) a 0) (get_or (starts own) (a + 1) 0)

-- those of a wanted job, and with them the rules between wanted jobs
abbrev pub RowRule : rules.Sheet → (own : List (List ℕ)) → Rules
RowRule s own a b w = (WantedJob s (s.event a).job × OwnEntry own a b w) ⊎ LinkRule s a b w

-- how many own rules start at event a
abbrev pub own_count : (own : List (List ℕ)) (a : ℕ) → ℕ
own_count own a = get_or (starts own) (a + 1) 0 - get_or (starts own) a 0

-- how many entries the shorter column holds, as many as can be at most
pub record RoomIs (to weight : List ℕ) (r : ℕ) : Type 0 where
  pub targets : r ≤ length to
  pub weights : r ≤ length weight
  pub most : r ≤ rows_most
  pub whole : rows_most ≤ length to → rows_most ≤ length weight → r ≡ rows_most

-- at most `most` entries, exactly R, were written from n up to r, and nothing before n changed
pub record Extended (most : ℕ) (R : Links) (to weight : List ℕ) (n : ℕ) (to' weight' : List ℕ) (r : ℕ) : Type 0 where
  pub up : n ≤ r
  pub few : r ≤ n + most
  pub targets : (i : ℕ) → i < n → get_or to' i 0 ≡ get_or to i 0
  pub weights : (i : ℕ) → i < n → get_or weight' i 0 ≡ get_or weight i 0
  pub sound : (i : ℕ) → n ≤ i → i < r → R (get_or to' i 0) (get_or weight' i 0)
  pub whole : (b w : ℕ) → R b w → Entry to' weight' n r b w

-- room for `most` entries more
pub record RoomFor (most : ℕ) (to weight : List ℕ) (n : ℕ) : Type 0 where
  pub targets : n + most ≤ length to
  pub weights : n + most ≤ length weight
  pub small : n + most < word

-- ---- links: from an event to those of its fact of one type

abbrev pub On : List Bool → ℕ → Type 0
On m i = get_or m i false ≡ true

-- to the events of a fact, if they are to be linked: kept off by the gap where the jobs differ, or by one tick in any case
abbrev pub apart_link : (column : ℕ) (shown : Bool) (fact job gap : ℕ) → Link
apart_link column shown fact job gap =
    record {
      column = column;
      shown = shown;
      fact = fact;
      job = job;
      base = origin;
      gap = gap;
    }

abbrev pub strict_link : (column : ℕ) (shown : Bool) (fact job : ℕ) → Link
strict_link column shown fact job =
    record {
      column = column;
      shown = shown;
      fact = fact;
      job = job;
      base = one_tick;
      gap = 0;
    }

-- where the events stand
abbrev pub link_from : List (List ℕ) → Link → ℕ
link_from c link = get_or (col c link.column) link.fact 0

abbrev pub link_end : List (List ℕ) → Link → ℕ
link_end c link = get_or (col c link.column) (link.fact + 1) 0

-- an event from place lo up to hi that is of a wanted job, with its weight: the base, and the gap if that is another job
pub record LinkSpot (s : rules.Sheet) (event : List ℕ) (jobs : List Bool) (link : Link) (lo hi b w : ℕ) : Type 0 where
  pub place : ℕ
  pub from : lo ≤ place
  pub below : place < hi
  pub stands : get_or event place 0 ≡ b
  pub wanted : On jobs (s.event b).job
  pub weighs : w ≡ link.base + distance_by link.gap link.job (s.event b).job

-- what a link leads to
pub record LinkGroup (s : rules.Sheet) (c : List (List ℕ)) (jobs : List Bool) (link : Link) (b w : ℕ) : Type 0 where
  pub shows : link.shown ≡ true
  pub spot : LinkSpot s (events_in c) jobs link (link_from c link) (link_end c link) b w

-- what writing it asks
pub record AsksLink (sheet : WellFormed) (c : List (List ℕ)) (m : List (List Bool)) (link : Link) : Type 0 where
  pub index : IndexOf (said_by sheet) c
  pub jobs : WantedJobs (said_by sheet) (job_marks m)
  pub starts : link.column ≤ last_starts
  pub exists : link.fact < (said_by sheet).facts
  pub small : link.base + link.gap < word

-- the rows of the variables below v hold exactly the rules R, in the first n entries
pub record RowsFilled (R : Rules) (v : ℕ) (first to weight : List ℕ) (n : ℕ) : Type 0 where
  pub here : get_or first v 0 ≡ n
  pub under : (a : ℕ) → a ≤ v → get_or first a 0 ≤ n
  pub sound : (a r : ℕ) → a < v → get_or first a 0 ≤ r → r < get_or first (a + 1) 0 → R a (get_or to r 0) (get_or weight r 0)
  pub whole : (a b w : ℕ) → a < v → R a b w → Entry to weight (get_or first a 0) (get_or first (a + 1) 0) b w

-- what writing the row of an event asks of the own rules, and the room that it takes at most
pub record AsksRow (s : rules.Sheet) (own : List (List ℕ)) (at : Place) (to weight : List ℕ) : Type 0 where
  pub exists : at.event < s.events
  pub row : OwnRow own at.event
  pub fits : RoomFor (own_count own at.event + links_most) to weight at.start

-- ---- the two other reasons for no plan

-- fact f is wanted and not initial, so that its needs have a set as their source
pub record SetSourced (s : rules.Sheet) (f : ℕ) : Type 0 where
  pub is_wanted : WantedFact s f
  pub not_initial : initial s f ≡ false

-- a fact of the sheet has P
pub record Some (P : ℕ → Type 0) (n : ℕ) : Type 0 where
  pub fact : ℕ
  pub exists : fact < n
  pub has : P fact
