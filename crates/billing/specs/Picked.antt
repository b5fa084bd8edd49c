-- A plan made of instances of another, and what it costs.
use Rattle.std.specs.Prelude.{ℕ, ◌*◌, ◌≡◌, refl, List, get_or}
use Rattle.rules.specs.Count.{sum}
use Rattle.rules.specs.Sheet.{Sheet}
use Rattle.rules.specs.RunList.{Plan}
use Rattle.rules.specs.Cost.{last_tick, first_tick, minutes, sum_of}

-- minutes times rate of instance i
abbrev pub charge : Sheet → Plan → List ℕ → ℕ → ℕ
charge s p r i = minutes s p i * get_or r (p.job i) 0

-- n instances: instance k is the instance at k of p
unfoldable pub picked : Plan → (at : ℕ → ℕ) → (n : ℕ) → Plan
picked p at n = record { count = n; job = λ k. p.job (at k); time = λ k. p.time (at k) }

pub picked_sum
    : (s : Sheet) (p : Plan) (r : List ℕ) (at : ℕ → ℕ) (n : ℕ) → sum_of s (picked p at n) r ≡ sum (λ k. charge s p r (at k)) n
unfolding sum_of minutes last_tick first_tick picked
picked_sum s p r at n = refl
