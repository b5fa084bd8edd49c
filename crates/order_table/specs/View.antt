-- What showing the orders asks: a sheet, the least own times of its present jobs, its index, and the marks of the wanted jobs.
use Rattle.std.specs.Prelude.{ℕ, ◌+◌, ◌*◌, ◌≤◌, Bool, List, length}
use Rattle.laws.specs.Columns.{col}
use Rattle.sheet.specs.WellFormed.{said_by}
use Rattle.sheet.specs.declared.formed.WellFormed.{WellFormed}
use Rattle.index.specs.View.{IndexOf, spans_in}
use Rattle.laws.specs.Limits.{most_events}
use Rattle.own_times.specs.View.{OwnAsks, LeastOwns, StrideIs}
use Rattle.order_shown.specs.View.{WantedAre}

-- the rooms of the table
abbrev pub small : ℕ
small = 1000

abbrev pub middle : ℕ
middle = 2560

abbrev pub large : ℕ
large = (most_events + 2) * most_events

pub record OrdersAsk (sheet : WellFormed) (c o : List (List ℕ)) (jobs : List Bool) : Type 0 where
  pub rules : OwnAsks sheet c o
  pub index : IndexOf (said_by sheet) c
  pub least : LeastOwns (said_by sheet) (col o 3)
  pub long : (said_by sheet).events ≤ length (col o 3)
  pub wanted : WantedAre (said_by sheet) jobs

-- m is the greatest span of a job, and there is room for the marks and rows that are m apart
pub record Strided (sheet : WellFormed) (c : List (List ℕ)) (m room : ℕ) : Type 0 where
  pub stride : StrideIs (said_by sheet).jobs (spans_in c) m
  pub fits : sheet.view.events + m * sheet.view.events + sheet.view.events ≤ room
