-- Rows that are all 0: there is room for every time of a list.
use Rattle.std.specs.Prelude.{ℕ, ◌≤◌, replicate}
use Rattle.std.proofs.Common.{arith}
use Rattle.std.proofs.lemmas.List.{length-replicate, get_or-replicate}
use Rattle.rules.specs.RunList.{max_times}
use Rattle.sorting.specs.Rows.{Fits}
use Rattle.instances.specs.Rows.{RowRoom}

pub zeros_fit : (n : ℕ) → n ≤ max_times → Fits n (replicate 512 0)
unfolding max_times
zeros_fit n l =
    record {
      few = omega arith;
      room = omega (arith, length-replicate {A = ℕ} 512 0);
      bytes = λ k h. omega (arith, get_or-replicate {A = ℕ} 512 k 0 0 (omega arith));
    }

pub zeros_room : RowRoom (replicate 512 0)
unfolding max_times
zeros_room = let m = length-replicate {A = ℕ} 512 0 in record { room = omega arith; few = omega arith }
