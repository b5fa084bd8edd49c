-- What the functions that write a sheet ask and promise.
use Rattle.std.specs.Prelude.{ℕ, ◌+◌, ◌≤◌, ◌≡◌, ◌⊎◌, List, [], ◌∷◌}
use Rattle.rules.specs.Sheet.{Sheet}
use Rattle.sheet.specs.declared.Places.{Places}
use Rattle.sheet_bytes.specs.SheetBytes.{contents_size, facts_size, jobs_size, events_size, sheet_size}

-- how many bytes an entry of the contents has
abbrev pub entry_size : ℕ
entry_size = 6

-- no well-formed sheet is longer
abbrev pub longest_sheet : ℕ
longest_sheet = 2528

abbrev pub IsEdition : ℕ → Type 0
IsEdition n = (n ≡ 1) ⊎ (n ≡ 2)

-- p has the places of the four bodies of the sheet s in edition n
pub record PlacesFor (n : ℕ) (s : Sheet) (p : Places) : Type 0 where
  pub facts : p.facts ≡ contents_size
  pub jobs : p.jobs ≡ contents_size + facts_size n s
  pub events : p.events ≡ contents_size + facts_size n s + jobs_size n s
  pub bounds : p.bounds ≡ contents_size + facts_size n s + jobs_size n s + events_size s
  pub short : sheet_size n s ≤ longest_sheet

-- the byte of a fact's mark
abbrev pub mark_byte : Sheet → ℕ → List ℕ
mark_byte s f = s.mark f ∷ []
