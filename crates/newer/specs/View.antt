-- What a choice says, in the terms of the definitions.
use Rattle.std.specs.Prelude.{ℕ, ◌≡◌, List, length, Result, Ok, Err}
use Rattle.rules.specs.Newer.{Which}
use Rattle.newer.specs.declared.Choice.{Choice}
use Rattle.newer.specs.declared.Choice.TheVariants.{First, Second}
use Rattle.newer.specs.declared.Refusal.{Refusal}
use Rattle.newer.specs.declared.Refusal.TheVariants.{Sheet, OtherBytes}
use Rattle.reader.specs.Reads as reads

abbrev pub refusal_number : Refusal → ℕ
refusal_number (Sheet x) = reads.number_of x
refusal_number OtherBytes = 56

abbrev pub number_of : Result Choice Refusal → ℕ
number_of (Ok x) = 0
number_of (Err x) = refusal_number x

abbrev pub which_of : Result Choice Refusal → Which
which_of (Ok First) = Which.first
which_of (Ok Second) = Which.second
which_of (Err x) = Which.none

-- of the slices first and second, r is the one that counts, at its place; if none does, its bytes, part, are none
abbrev pub Handed : Which → {S : Type 0} → (first second r : S) → (part : List ℕ) → Type 0
Handed Which.first first second r part = r ≡ first
Handed Which.second first second r part = r ≡ second
Handed Which.none first second r part = length part ≡ 0
