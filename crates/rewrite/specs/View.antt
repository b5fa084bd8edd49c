-- What the functions that rewrite a sheet ask and promise.
use Rattle.std.specs.Prelude.{ℕ, ◌≤◌, ◌<◌, Bool, List, ◌++◌, length, drop, eqb, Result, Ok, Err}
use Rattle.rules.specs.Count.{every}
use Rattle.rules.specs.Sheet as rules
use Rattle.reader.specs.Reads as reads
use Rattle.rewrite.specs.declared.Refusal.{Refusal}
use Rattle.rewrite.specs.declared.Refusal.TheVariants as refusal

-- the answer number of a refusal, and its detail
abbrev pub refusal_number : Refusal → ℕ
refusal_number (refusal.Sheet x) = reads.number_of x
refusal_number refusal.NoWayBack = 50
refusal_number (refusal.Short n) = 30

abbrev pub refusal_detail : Refusal → ℕ
refusal_detail (refusal.Sheet x) = 0
refusal_detail refusal.NoWayBack = 0
refusal_detail (refusal.Short n) = n

-- those of what rewriting gives: with 0 the detail is the length of the sheet that is written
abbrev pub number_of : Result ℕ Refusal → ℕ
number_of (Ok n) = 0
number_of (Err x) = refusal_number x

abbrev pub detail_of : Result ℕ Refusal → ℕ
detail_of (Ok n) = n
detail_of (Err x) = refusal_detail x

-- no job has a release
unfoldable pub no_releases : rules.Sheet → Bool
no_releases s = every (λ j. eqb (s.release j) 0) s.jobs

-- the bytes c are written into the buffer w, if they fit: number, detail, and the buffer after
pub data Wrote (c w : List ℕ) : (number detail : ℕ) → List ℕ → Type 0 where
  short : length w < length c → Wrote c w 30 (length c) w
  written : length c ≤ length w → Wrote c w 0 (length c) (c ++ drop (length c) w)
