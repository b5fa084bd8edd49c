-- Laws on marks.
use Rattle.std.specs.Prelude.{ℕ, ◌≤◌, ◌<◌, ◌≡◌, Bool, true, false, List, length, get_or}
use Rattle.std.proofs.Math.Logic.{dite}
use Rattle.std.proofs.Math.Logic.Dec.{of_iff as dec_of_iff}
use Rattle.std.proofs.Math.Decide.{dec_lt}
use Rattle.std.proofs.Math.Bool.{Bool-discrete}
use Rattle.rules.specs.Sheet.{Sheet}
use Rattle.rules.specs.Wanted.{WantedJob}
use Rattle.laws.specs.Bools.{clash}
use Rattle.laws.specs.Formed.{Formed}
use Rattle.laws.specs.Events.{wanted_job_in}
use Rattle.marks.specs.View.{MarksOf, WantedJobs}

-- marks of P at every place
pub marks_of
    : {P : ℕ → Type 0} {n : ℕ} {m : List Bool}
    → n ≤ length m
    → ((i : ℕ) → get_or m i false ≡ true → P i)
    → ((i : ℕ) → P i → get_or m i false ≡ true)
    → MarksOf P n m
marks_of long means marked = record { long = long; means = λ i l. means i; marked = λ i l. marked i }

module _ {P : ℕ → Type 0} {n : ℕ} {m : List Bool} (h : MarksOf P n m) where
  pub unmarked : (i : ℕ) → i < n → get_or m i false ≡ false → P i → ⊥
  unmarked i l e p = clash (h.marked i l p) e

  -- the marks decide P where only places below n have it
  decided : ((i : ℕ) → P i → i < n) → (i : ℕ) → Dec (P i)
  decided inside i =
      dite (dec_lt i n)
      (λ l. dec_of_iff (h.means i l, h.marked i l) (Bool-discrete (get_or m i false) true))
      (λ g. no (λ p. g (inside i p)))

-- the marks of wanted jobs decide what is wanted, since no other job is
pub job_decided : {s : Sheet} → Formed s → {m : List Bool} → WantedJobs s m → (j : ℕ) → Dec (WantedJob s j)
job_decided formed h = decided h (λ j. wanted_job_in formed)
