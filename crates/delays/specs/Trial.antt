-- What delaying a list gives: the refusals that come first, or the events of the delayed instances in rows.
use Rattle.std.specs.Prelude.{ℕ, ◌+◌, ◌≤◌, ◌<◌, ◌≡◌, ◌≢◌, false, List, length, get_or, Result, Ok, Err}
use Rattle.rules.specs.Sheet.{sheet_of}
use Rattle.rules.specs.RunList.{instances, plan_of}
use Rattle.rules.specs.Plan.{IsPlan}
use Rattle.rules.specs.Answer.{Judged}
use Rattle.rules.specs.Late.{delays_ok, delayed_of, Tried}
use Rattle.sorting.specs.Counting.{group_in}
use Rattle.plan_points.specs.Flat.{cell, ticks, packed, tick_in, entry_in}
use Rattle.sheet.specs.declared.formed.WellFormed.{WellFormed}
use Rattle.sheet.specs.WellFormed.{said_by}
use Rattle.reader.specs.Reads.{ReadAs}
use Rattle.instances.specs.Rows.{EventRows}
use Rattle.delays.specs.declared.Delayed.{Delayed}
use Rattle.judge.specs.declared.Refusal.{Refusal}
use Rattle.judge.specs.Verdict.{refusal_number}
use Rattle.numbers.specs.Size.{word}

-- the tick of row x, plus its instance's delay
abbrev pub late_tick : (d : List ℕ) → (x : ℕ) → ℕ
late_tick d x = tick_in x + get_or d (entry_in x) 0

-- the first n rows have room, a delay each, and no tick too far
pub record LateRows (d rows : List ℕ) (n : ℕ) : Type 0 where
  pub room : n ≤ length rows
  pub few : n < word
  pub delay : (k : ℕ) → k < n → entry_in (cell rows k) < length d
  pub near : (k : ℕ) → k < n → late_tick d (cell rows k) < ticks

-- each of the first n rows at its tick plus its instance's delay
pub record Shifted (d old : List ℕ) (n : ℕ) (new : List ℕ) : Type 0 where
  pub long : length new ≡ length old
  pub late : (k : ℕ) → k < n → cell new k ≡ packed (group_in (cell old k)) (late_tick d (cell old k)) (entry_in (cell old k))

-- the number before the delayed list is tried: the judge's, then 40 for the delays
pub data Barred (b l d : List ℕ) : ℕ → Type 0 where
  judged : (n : ℕ) → Judged b l n 0 → n ≢ 0 → Barred b l d n
  bad_delays : Judged b l 0 0 → delays_ok d (instances l) ≡ false → Barred b l d 40

-- the delayed list is tried: the sheet is what the reader gives, the list a plan, and the first n rows are the events of the
-- delayed instances
pub record Tries (b l d rows : List ℕ) (sheet : WellFormed) (n : ℕ) : Type 0 where
  pub tried : Tried b l d
  pub read : ReadAs b sheet
  pub means : said_by sheet ≡ sheet_of b
  pub plan : IsPlan (sheet_of b) (plan_of (sheet_of b) l)
  pub listed : EventRows (sheet_of b) (delayed_of b l d) rows n

-- Err with that number, or the rows
abbrev pub Trials : (b l d rows : List ℕ) → Result Delayed Refusal → Type 0
Trials b l d rows (Err x) = Barred b l d (refusal_number x)
Trials b l d rows (Ok a) = Tries b l d rows a.sheet a.rows
