-- The events of one fact and one type, of present jobs, place by place.
use Rattle.std.specs.Prelude.{ℕ, zero, suc, ◌+◌, ◌≤◌, ◌<◌, List, get_or}
use Rattle.std.proofs.Common.{arith, below_more, subst}
use Rattle.rules.specs.Sheet.{Sheet}
use Rattle.rules.specs.Wanted.{OfPresent}
use Rattle.laws.specs.Columns.{col}
use Rattle.index.specs.View.{ByFactOf, IndexOf, events_in}
use Rattle.marks.specs.View.{type_of_column, last_starts}

-- each column of starts is of its type
pub in_column
    : {s : Sheet} {c : List (List ℕ)}
    → IndexOf s c
    → (k : ℕ)
    → k ≤ last_starts
    → ByFactOf s (type_of_column k) (col c k) (events_in c)
in_column h zero l = h.begins
in_column h (suc zero) l = h.sets
in_column h (suc (suc zero)) l = h.clears
in_column h (suc (suc (suc k))) l = absurd (omega arith)

-- the events in the places from `from` up to r have Q
pub record EventsPassed (Q : ℕ → Type 0) (event : List ℕ) (from r : ℕ) : Type 0 where
  pub begun : from ≤ r
  pub all : (k : ℕ) → k < r → from ≤ k → Q (get_or event k 0)

pub passed_none : (Q : ℕ → Type 0) (event : List ℕ) (from : ℕ) → EventsPassed Q event from from
passed_none Q event from = record { begun = omega arith; all = λ k to l. absurd (omega arith) }

pub passed_next
    : {Q : ℕ → Type 0} {event : List ℕ} {from r : ℕ}
    → EventsPassed Q event from r
    → Q (get_or event r 0)
    → EventsPassed Q event from (r + 1)
passed_next {Q} {event} {from} {r} h q =
    record { begun = omega (arith, h.begun); all = below_more (λ k. from ≤ k → Q (get_or event k 0)) r h.all (λ l. q) }

-- f's events of this type
module _ {s : Sheet} {kind : ℕ} {first event : List ℕ} {f : ℕ} (by : ByFactOf s kind first event) (exists : f < s.facts) where
  -- they stand in the sheet's events
  pub near : get_or first (f + 1) 0 ≤ s.events
  near = by.within (f + 1) (omega arith)

  pub in_sheet_lem : (r : ℕ) → get_or first f 0 ≤ r → r < get_or first (f + 1) 0 → get_or event r 0 < s.events
  in_sheet_lem r from to = (by.sound f r exists from to).is.in_sheet

  -- where all their places are passed, they all have Q
  pub passed
      : {Q : ℕ → Type 0} {r : ℕ}
      → EventsPassed Q event (get_or first f 0) r
      → get_or first (f + 1) 0 ≤ r
      → (e j : ℕ)
      → OfPresent s e j kind f
      → Q e
  passed {Q} w end e j i = let (k, from, to, is) = by.whole e j f exists i in subst Q is (w.all k (omega arith) from)

  -- the event at a place
  module _ {Q : ℕ → Type 0} {r : ℕ} (w : EventsPassed Q event (get_or first f 0) r) (inside : r < get_or first (f + 1) 0) where
    pub here : OfPresent s (get_or event r 0) (s.event (get_or event r 0)).job kind f
    here = by.sound f r exists w.begun inside
