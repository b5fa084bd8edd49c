-- The search for an event of a wanted job: what is known at the event that is looked at, and at the end.
use Prim.Native.Nat.{ℕ, ◌+◌, ◌≤◌, ◌<◌}
use native.Mathlib.Omega.{arith}
use mathlib.Core.Path.{◌≡◌, sym, subst, ap, ◌∙◌}
use Rattle.std.specs.Bool.{MatchBool}
use Rattle.laws.specs.Test.{Says}
use mathlib.Core.Bool.{Bool, true, false}
use mathlib.Core.List.{List}
use lib.ListN.{length, get_or}
use Rattle.rules.specs.Wanted.{OfPresent, WantedJob}
use Rattle.rules.specs.Class.{ByWanted}
use Rattle.laws.specs.Columns.{col}
use Rattle.laws.specs.Present.{of_wanted}
use Rattle.sheet.specs.WellFormed.{said_by, formed_by}
use Rattle.sheet.specs.declared.formed.WellFormed.{WellFormed}
use Rattle.index.specs.View.{ByFactOf, events_in}
use Rattle.marks.specs.View.{type_of_column, job_marks, AsksWanted}
use Rattle.marks.specs.Laws.{unmarked}
use Rattle.marks.specs.Sweep as sweep
use Rattle.marks.specs.Sweep.{in_column}

module _ {sheet : WellFormed} {c : List (List ℕ)} {m : List (List Bool)} {k f : ℕ} (h : AsksWanted sheet c m k f) where
  starts : ByFactOf (said_by sheet) (type_of_column k) (col c k) (events_in c)
  starts = in_column h.index k h.starts

  -- the starts of f and of the next fact are in the column
  pub long : f + 1 < length (col c k)
  long = omega (arith, starts.long, h.exists)

  pub near : get_or (col c k) (f + 1) 0 ≤ length (events_in c)
  near = omega (arith, sweep.near starts h.exists, h.index.long)

  abbrev pub place_marked : ℕ → Bool
  place_marked r = get_or (job_marks m) ((said_by sheet).event (get_or (events_in c) r 0)).job false

  module _ {r : ℕ} (from : get_or (col c k) f 0 ≤ r) (to : r < get_or (col c k) (f + 1) 0) where
    here : OfPresent (said_by sheet) (get_or (events_in c) r 0) ((said_by sheet).event (get_or (events_in c) r 0)).job (type_of_column k) f
    here = starts.sound f r h.exists from to

    pub here_in : get_or (events_in c) r 0 < (said_by sheet).events
    here_in = here.is.in_sheet

    below : ((said_by sheet).event (get_or (events_in c) r 0)).job < (said_by sheet).jobs
    below = (formed_by sheet).formed.job _ here_in

    pub here_long : ((said_by sheet).event (get_or (events_in c) r 0)).job < length (job_marks m)
    here_long = omega (arith, below, h.jobs.long)

    here_wanted : place_marked r ≡ true → ByWanted (said_by sheet) (type_of_column k) f
    unfolding ByWanted
    here_wanted on = (get_or (events_in c) r 0, _, here.is, h.jobs.means _ below on)

    here_unwanted : place_marked r ≡ false → WantedJob (said_by sheet) ((said_by sheet).event (get_or (events_in c) r 0)).job → ⊥
    here_unwanted off = unmarked h.jobs _ below off

  -- in the places of f's events one is of a marked job, or none is
  pub by_wanted_says
      : (start end : ℕ)
      → start ≡ get_or (col c k) f 0
      → end ≡ get_or (col c k) (f + 1) 0
      → (r : Bool)
      → MatchBool r
      ((i : ℕ) × (start ≤ i) × (i < end) × (place_marked i ≡ true))
      ((i : ℕ) → start ≤ i → i < end → place_marked i ≡ false)
      → Says (ByWanted (said_by sheet) (type_of_column k) f) r
  unfolding ByWanted
  by_wanted_says start end p q true (i, from, to, on) = here_wanted (omega arith) (omega arith) on
  by_wanted_says start end p q false none = λ (e, j, i, a).
      let (r, from, to, at) = starts.whole e j f h.exists (of_wanted a i) in
      let s = said_by sheet in
      here_unwanted from to (none r (omega arith) (omega arith))
      (subst (WantedJob s) (sym (ap (λ d. (s.event d).job) at ∙ i.of_job)) a)
