-- What Orders holds: exactly the facts shown cleared last and shown cleared first; and which jobs it asks for.
use Rattle.std.specs.Prelude.{ℕ, ◌≤◌, ◌≡◌, Bool, true, false, List, length, get_or}
use Rattle.rules.specs.Sheet as rules
use Rattle.rules.specs.Wanted.{WantedJob}
use Rattle.marks.specs.View.{ShownLast, ShownFirst}
use Rattle.order_shown.specs.declared.Orders.{Orders}

-- the marks are the facts shown in each order, all of them and, of the sheet's facts, no other
pub record OrdersOf (s : rules.Sheet) (r : Orders) : Type 0 where
  pub last : ShownLast s r.last
  pub first : ShownFirst s r.first

-- jobs has a mark for each job, and marks the wanted jobs, all of them and no other
pub record WantedAre (s : rules.Sheet) (jobs : List Bool) : Type 0 where
  pub long : s.jobs ≤ length jobs
  pub job_wanted : (j : ℕ) → get_or jobs j false ≡ true → WantedJob s j
  pub job_marked : (j : ℕ) → WantedJob s j → get_or jobs j false ≡ true
