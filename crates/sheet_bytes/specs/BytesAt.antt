-- The bytes of a list from a place on: a list is its bytes from 0 on, and bytes in rows of one length are the rows one after the other.
use Rattle.std.specs.Prelude.{ℕ, zero, suc, ◌+◌, ◌*◌, ◌/◌, ◌%◌, ◌≤◌, ◌<◌, ◌≡◌, refl, List, [], ◌∷◌, ◌++◌, length, take}
use Rattle.std.proofs.Common.{arith, add-zero, add-suc, add_assoc, zero-add, mul-zero, mul-suc, ap, ◌∙◌, append-nil, append_assoc, take-suc}
use Rattle.std.proofs.Math.Path.{sym}
use Rattle.std.proofs.Math.Seq.{take-length}
use Rattle.rules.specs.Count.{byte, two}
use Rattle.rules.specs.Sheet.{signed, origin, event_at, bound_at}
use Rattle.laws.specs.Limits.{byte_values, signed_zero, AllBytes}
use Rattle.byte_writer.specs.Bytes.{pair_limit, pair, joined}
use Rattle.sheet_bytes.specs.SheetBytes.{event_size, bound_size, signed_pair, event_bytes, bound_bytes}

-- k bytes, from place i on
unfoldable pub bytes_at : List ℕ → (i k : ℕ) → List ℕ
bytes_at c i k = joined (λ j. byte c (i + j) ∷ []) k

front : (c : List ℕ) (k : ℕ) → k ≤ length c → bytes_at c 0 k ≡ take k c
unfolding bytes_at joined byte
front c zero h = refl
front c (suc k) h = rw (zero-add, take-suc c k 0 (omega arith)) (ap (λ (w : List ℕ). w ++ byte c k ∷ []) (front c k (omega arith)))

-- all of them
pub bytes_all : (c : List ℕ) → bytes_at c 0 (length c) ≡ c
bytes_all c = front c (length c) (omega arith) ∙ take-length c

pub bytes_split : (c : List ℕ) (i k m : ℕ) → bytes_at c i (k + m) ≡ bytes_at c i k ++ bytes_at c (i + k) m
unfolding bytes_at joined
bytes_split c i k zero = rw (add-zero k) (sym (append-nil (bytes_at c i k)))
bytes_split c i k (suc m) =
    rw (add-suc k m, bytes_split c i k m, append_assoc, add_assoc)

-- n rows of k bytes
pub bytes_rows : (c : List ℕ) (i k n : ℕ) → bytes_at c i (k * n) ≡ joined (λ j. bytes_at c (i + k * j) k) n
unfolding bytes_at joined
bytes_rows c i k zero = rw (mul-zero k)
bytes_rows c i k (suc n) = rw (mul-suc k n) (bytes_split c i (k * n) k ∙ ap (λ (w : List ℕ). w ++ bytes_at c (i + k * n) k) (bytes_rows c i k n))

-- ---- numbers and rows that they are the bytes of

pair_back : (x y : ℕ) → x < byte_values → y < byte_values → x ∷ y ∷ [] ≡ pair (x + byte_values * y)
unfolding pair
pair_back x y h k =
    let low : (x + byte_values * y) % byte_values ≡ x = omega arith in
    let high : (x + byte_values * y) / byte_values ≡ y = omega arith in
    let rest : y % byte_values ≡ y = omega arith in
    rw (low, high, rest)

-- a signed number holds 32,768 more, and its bytes take that away again
there_and_back : (x : ℕ) → x < pair_limit → ((x + signed_zero) % pair_limit + signed_zero) % pair_limit ≡ x
there_and_back x h = omega arith

module _ (c : List ℕ) (small : AllBytes c) where
  pub pair_here : (i : ℕ) → byte c i ∷ byte c (i + 1) ∷ [] ≡ pair (two c i)
  unfolding two
  pair_here i = pair_back (byte c i) (byte c (i + 1)) (small i) (small (i + 1))

  signed_here : (i : ℕ) → byte c i ∷ byte c (i + 1) ∷ [] ≡ signed_pair (signed c i)
  unfolding two signed signed_pair origin
  signed_here i = pair_here i ∙ sym (ap pair (there_and_back (two c i) (omega (arith, small i, small (i + 1)))))

  -- where the number stands n bytes from place i on
  pub pair_after : (i n : ℕ) → byte c (i + n) ∷ byte c (i + (n + 1)) ∷ [] ≡ pair (two c (i + n))
  pair_after i n = rw (← add_assoc i n 1) (pair_here (i + n))

  signed_after : (i n : ℕ) → byte c (i + n) ∷ byte c (i + (n + 1)) ∷ [] ≡ signed_pair (signed c (i + n))
  signed_after i n = rw (← add_assoc i n 1) (signed_here (i + n))

  pub event_here : (i : ℕ) → bytes_at c i event_size ≡ event_bytes (event_at c i)
  unfolding bytes_at joined event_bytes event_at
  event_here i = rw (add-zero i)

  pub bound_here : (i : ℕ) → bytes_at c i bound_size ≡ bound_bytes (bound_at c i)
  unfolding bytes_at joined bound_bytes bound_at
  bound_here i = rw (add-zero i, ← signed_after i 2, ← signed_after i 4)
