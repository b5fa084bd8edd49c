-- What the writer's functions ask and promise: every byte of the buffer, if the list fits and if it does not.
use Rattle.std.specs.Prelude.{ℕ, ◌+◌, ◌*◌, ◌≤◌, ◌<◌, ◌≡◌, Bool, cond, List, ◌++◌, length, drop, leb}
use Rattle.rules.specs.Count.{count}
use Rattle.rules.specs.Sheet as rules
use Rattle.rules.specs.Sheet.{max_jobs, max_events}
use Rattle.byte_writer.specs.Bytes.{pair_limit}
use Rattle.list_writer.specs.ListBytes.{head_size, entry_size, time_size, times_to, body_at, list_bytes}

-- the buffer w after the list l: its front if the list fits, else unchanged
unfoldable pub filled : (l w : List ℕ) → List ℕ
filled l w = cond (leb (length l) (length w)) (l ++ drop (length l) w) w

-- what writing the list of the marked jobs m and the ticks t leaves: its length, and the buffer.
-- Each code fits the two bytes that it is written to.
pub record Wrote (s : rules.Sheet) (m : ℕ → Bool) (t : ℕ → ℕ) (old new : List ℕ) (r : ℕ) : Type 0 where
  pub size : r ≡ length (list_bytes s m t)
  pub buffer : new ≡ filled (list_bytes s m t) old
  pub codes : (j : ℕ) → s.code j < pair_limit

-- ---- parts

-- r is the count of marked jobs, and of the times of their bodies
pub record JobsCounted (s : rules.Sheet) (m : ℕ → Bool) (r : ℕ) : Type 0 where
  pub number : r ≡ count m s.jobs
  pub few : r ≤ max_jobs

pub record TimesCounted (s : rules.Sheet) (m : ℕ → Bool) (r : ℕ) : Type 0 where
  pub times : r ≡ times_to s m s.jobs
  pub few : r ≤ max_events

-- n is the count of the entries, and the buffer out has room for them
pub record EntriesFit (s : rules.Sheet) (m : ℕ → Bool) (n : ℕ) (out : List ℕ) : Type 0 where
  pub number : n ≡ count m s.jobs
  pub room : head_size + entry_size * count m s.jobs ≤ length out

-- the bodies start at this place, and there is room for them
pub record BodiesFit (s : rules.Sheet) (m : ℕ → Bool) (at : ℕ) (out : List ℕ) : Type 0 where
  pub start : at ≡ body_at s m 0
  pub room : body_at s m s.jobs ≤ length out

-- n ticks, from event e on, are events of a sheet, and there is room for them at this place
pub record TicksFit (e n at : ℕ) (out : List ℕ) : Type 0 where
  pub inside : e + n ≤ max_events
  pub room : at + time_size * n ≤ length out
