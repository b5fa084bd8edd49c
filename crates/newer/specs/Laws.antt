-- What a choice and its part say in C.
use Rattle.std.specs.Prelude.{ℕ, ◌≡◌, List, Result}
use Rattle.std.proofs.Math.Path.{ap}
use Rattle.std.proofs.Math.ListN.{length}
use Rattle.rules.specs.Newer.{Which, Newer, part_of, which_in_c, NewerInC}
use Rattle.newer.specs.View.{number_of, which_of, Handed}
use Rattle.newer.specs.declared.Choice.{Choice}
use Rattle.newer.specs.declared.Refusal.{Refusal}

module _ (S : Type 0) (now : S → List ℕ) (first second r : S) where
  -- the part is as long as the definition says
  handed_length : (w : Which) → Handed w first second r (now r) → length (now r) ≡ length (part_of (now first) (now second) w)
  unfolding part_of
  handed_length Which.first h = ap (λ (s : S). length (now s)) h
  handed_length Which.second h = ap (λ (s : S). length (now s)) h
  handed_length Which.none h = h

  pub told_in_c
      : (x : Result Choice Refusal) {n p : ℕ}
      → Newer (now first) (now second) (number_of x) (which_of x)
      → n ≡ number_of x
      → p ≡ which_in_c (which_of x)
      → Handed (which_of x) first second r (now r)
      → NewerInC (now first) (now second) n 0 p (length (now r))
  told_in_c x h number which handed = rw (number, which, handed_length (which_of x) handed) (NewerInC.told (number_of x) (which_of x) h)
