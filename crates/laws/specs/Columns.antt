-- Columns that go together in one bundle: a list of lists.
use Rattle.std.specs.Prelude.{ℕ, zero, suc, ◌≡◌, refl, Bool, List, [], ◌∷◌, map, get_or}

-- column k of a bundle of numbers, of marks
abbrev pub col : List (List ℕ) → ℕ → List ℕ
col c k = get_or c k []

abbrev pub marks_col : List (List Bool) → ℕ → List Bool
marks_col c k = get_or c k []

-- a column of a bundle is what its slice holds
pub get_d_map : {A B : Type 0} (f : A → B) (l : List A) (i : ℕ) (d : A) → get_or (map f l) i (f d) ≡ f (get_or l i d)
get_d_map f [] i d = refl
get_d_map f (x ∷ xs) zero d = refl
get_d_map f (x ∷ xs) (suc i) d = get_d_map f xs i d
