-- Numbers with a meaning as figures that omega reads. `small` in Events shows that the limits are those of the definitions.
use Rattle.std.specs.Prelude.{ℕ, ◌<◌, List}
use Rattle.rules.specs.Count.{byte}

-- a sheet's facts, horizon, gap, jobs, events and bounds: max_facts, max_horizon, max_gap, max_jobs, max_events, max_bounds
abbrev pub most_facts : ℕ
most_facts = 64

abbrev pub most_horizon : ℕ
most_horizon = 10080

abbrev pub most_gap : ℕ
most_gap = 60

abbrev pub most_jobs : ℕ
most_jobs = 32

abbrev pub most_events : ℕ
most_events = 256

abbrev pub most_bounds : ℕ
most_bounds = 256

-- a list's instances and times: max_instances, max_times
abbrev pub most_instances : ℕ
most_instances = 64

abbrev pub most_times : ℕ
most_times = 512

-- where the entries of a list end at the latest, and how many bytes the times of one instance have at most
abbrev pub most_entries : ℕ
most_entries = 260

abbrev pub most_body : ℕ
most_body = 512

-- no list that a rule is asked of is so long
abbrev pub far_list : ℕ
far_list = 1048576

-- the number that says 0 where numbers are signed: origin
abbrev pub signed_zero : ℕ
signed_zero = 32768

-- a fact's mark: initial and goal
abbrev pub most_mark : ℕ
most_mark = 3

-- a bound without a low, without a high
abbrev pub no_low : ℕ
no_low = 0

abbrev pub no_high : ℕ
no_high = 65535

-- what one byte can say
abbrev pub byte_values : ℕ
byte_values = 256

-- a list of bytes
abbrev pub AllBytes : List ℕ → Type 0
AllBytes l = (i : ℕ) → byte l i < byte_values
