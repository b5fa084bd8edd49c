-- Bytes of what lists and sheets are made of: two-byte numbers, and parts one after the other.
use Rattle.std.specs.Prelude.{ℕ, zero, suc, ◌/◌, ◌%◌, Bool, cond, List, [], ◌∷◌, ◌++◌}
use Rattle.laws.specs.Limits.{byte_values}

-- a two-byte number, little-endian
unfoldable pub pair : ℕ → List ℕ
pair n = n % byte_values ∷ n / byte_values % byte_values ∷ []

-- what two bytes hold is below this
abbrev pub pair_limit : ℕ
pair_limit = 65536

abbrev pub pair_size : ℕ
pair_size = 2

-- the bytes, if the test holds
unfoldable pub when : Bool → List ℕ → List ℕ
when test bytes = cond test bytes []

-- f 0, f 1, .. up to f (n - 1), one after the other
unfoldable pub joined : (ℕ → List ℕ) → ℕ → List ℕ
joined f zero = []
joined f (suc n) = joined f n ++ f n
