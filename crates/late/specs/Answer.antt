-- The answer to a delayed list: number and detail of each refusal, and of each case.
use Rattle.std.specs.Prelude.{ℕ, List, Result, Ok, Err}
use Rattle.rules.specs.Late.{Tried}
use Rattle.delays.specs.Trial.{Barred}
use Rattle.judge.specs.Verdict as judge
use Rattle.late.specs.declared.Refusal.{Refusal}
use Rattle.late.specs.declared.Refusal.TheVariants.{Judge, GoesWrong}

abbrev pub refusal_number : Refusal → ℕ
refusal_number (Judge x) = judge.refusal_number x
refusal_number (GoesWrong t) = 41

abbrev pub refusal_detail : Refusal → ℕ
refusal_detail (Judge x) = 0
refusal_detail (GoesWrong t) = t

abbrev pub number_of : {A : Type 0} → Result A Refusal → ℕ
number_of (Err x) = refusal_number x
number_of (Ok a) = 0

abbrev pub detail_of : {A : Type 0} → Result A Refusal → ℕ
detail_of (Err x) = refusal_detail x
detail_of (Ok a) = 0

-- which of the two a refusal is: the judge's exactly where the list or its delays are refused before the delayed list is tried
abbrev pub Whose : (b l d : List ℕ) → Refusal → Type 0
Whose b l d (Judge x) = Barred b l d (judge.refusal_number x)
Whose b l d (GoesWrong t) = Tried b l d
