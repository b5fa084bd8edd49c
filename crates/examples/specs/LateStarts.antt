-- Late starts of P1's list (request N3): a job late by a minute, one in time, one past the horizon, a delay too long.
use Rattle.std.specs.Prelude.{[], ◌∷◌}
use Rattle.rules.specs.Late.{Late}
use Rattle.examples.specs.Sheets.{p1_sheet, p1_list}

pub record LateExamples : Type 0 where
  -- job 10 is a minute late: it sets fact 1 at 6, and job 20 needs it at 6
  pub one_late : Late p1_sheet p1_list (1 ∷ 0 ∷ []) 41 6
  -- job 20 is a minute late: the run holds
  pub in_time : Late p1_sheet p1_list (0 ∷ 1 ∷ []) 0 0
  -- job 20 ends past the horizon
  pub past_horizon : Late p1_sheet p1_list (0 ∷ 92 ∷ []) 41 100
  pub too_long : Late p1_sheet p1_list (601 ∷ 0 ∷ []) 40 0
