-- The list of noted jobs.
use Rattle.std.specs.Prelude.{ℕ, ◌≤◌, ◌<◌, List, length, get_or}
use Rattle.rules.specs.Sheet.{max_jobs}

-- o lists jobs, at most as many as there can be: advice, of which nothing else is promised
pub record JobList (o : List ℕ) : Type 0 where
  pub long : length o ≤ max_jobs
  pub number : (i : ℕ) → i < length o → get_or o i 0 < max_jobs
