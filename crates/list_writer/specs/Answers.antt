-- What follows from having written: the planner's answers 0 and 30, and that the contract leaves no choice.
use Rattle.std.specs.Prelude.{ℕ, ◌≤◌, ◌<◌, ◌≡◌, refl, Bool, true, List, ◌++◌, length, drop}
use Rattle.std.proofs.Common.{arith, sym, ◌∙◌, le-leb}
use Rattle.std.proofs.lemmas.Bool.{lt-leb}
use Rattle.rules.specs.Sheet.{Sheet, well_formed}
use Rattle.rules.specs.Wanted.{WantedJob, LeastList}
use Rattle.rules.specs.Class.{Inside}
use Rattle.laws.specs.Planned.{PlannedFor, plan, short}
use Rattle.theory.specs.Statements.{LeastSolution}
use Rattle.list_writer.specs.ListBytes.{list_bytes}
use Rattle.list_writer.specs.Least.{least_list}
use Rattle.list_writer.specs.View.{filled, Wrote}

pub filled_fits : (l w : List ℕ) → length l ≤ length w → filled l w ≡ l ++ drop (length l) w
unfolding filled
filled_fits l w h = rw (le-leb (length l) (length w) h) refl

pub filled_short : (l w : List ℕ) → length w < length l → filled l w ≡ w
unfolding filled
filled_short l w h = rw (lt-leb (length l) (length w) h) refl

-- length and buffer are determined
pub wrote_same
    : {s : Sheet} {m : ℕ → Bool} {t : ℕ → ℕ} {old new new' : List ℕ} {r r' : ℕ}
    → Wrote s m t old new r
    → Wrote s m t old new' r'
    → (r ≡ r') × (new ≡ new')
wrote_same p q = (p.size ∙ sym q.size, p.buffer ∙ sym q.buffer)

-- what was written of the wanted jobs and a least solution
module _ {s : Sheet} {m : ℕ → Bool} {t : ℕ → ℕ} {old new : List ℕ} {r : ℕ} (well : well_formed s ≡ true) (inside : Inside s)
    (to : (j : ℕ) → m j ≡ true → WantedJob s j) (from : (j : ℕ) → WantedJob s j → m j ≡ true)
    (best : LeastSolution s t) (wrote : Wrote s m t old new r) where
  wrote_least : LeastList s (list_bytes s m t)
  wrote_least = least_list well wrote.codes to from inside best

  pub wrote_plan : r ≤ length old → PlannedFor s old 0 r new
  wrote_plan h =
      let l = list_bytes s m t in
      let fits : length l ≤ length old = omega (arith, wrote.size) in
      rw (wrote.size, wrote.buffer, filled_fits l old fits) (plan l inside wrote_least fits)

  pub wrote_short : length old < r → PlannedFor s old 30 r new
  wrote_short h =
      let l = list_bytes s m t in
      let less : length old < length l = omega (arith, wrote.size) in
      rw (wrote.size, wrote.buffer, filled_short l old less) (short l inside wrote_least less)
