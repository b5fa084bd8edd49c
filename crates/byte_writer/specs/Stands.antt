-- Bytes that stand in others from a place on: so do their parts, and what is read there is what they say.
use Rattle.std.specs.Prelude.{ℕ, ◌+◌, ◌*◌, ◌<◌, ◌≡◌, refl, List, [], ◌∷◌, ◌++◌, length}
use Rattle.std.proofs.Common.{arith, zero-add, mul-le-mul_left, ap, ◌∙◌, length-append}
use Rattle.rules.specs.Count.{byte, two}
use Rattle.byte_writer.specs.Bytes.{pair_limit, pair, joined}
use Rattle.byte_writer.specs.Joined.{rows_length, byte_right, byte_left, byte_joined}

-- the bytes w stand in c from place k on
pub record Stands (c : List ℕ) (k : ℕ) (w : List ℕ) : Type 0 where
  pub at : (i : ℕ) → i < length w → byte c (k + i) ≡ byte w i

pub stands_all : (c : List ℕ) → Stands c 0 c
stands_all c = record { at = λ i l. ap (byte c) (zero-add i) }

-- ---- parts; m is the place where they stand

module _ {c : List ℕ} {k : ℕ} where
  pub stands_left : (v w : List ℕ) → Stands c k (v ++ w) → Stands c k v
  stands_left v w h = record { at = λ i l. h.at i (omega (arith, length-append v w)) ∙ byte_left v w i l }

  pub stands_right : {m : ℕ} (v w : List ℕ) → k + length v ≡ m → Stands c k (v ++ w) → Stands c m w
  stands_right v w q h =
      record {
        at = λ i l.
            ap (byte c) (omega arith) ∙ h.at (length v + i) (omega (arith, length-append v w)) ∙ byte_right v w (length v) i refl;
      }

  pub stands_next : {m x : ℕ} {w : List ℕ} → k + 1 ≡ m → Stands c k (x ∷ w) → Stands c m w
  stands_next {x = x} {w} q h = stands_right (x ∷ []) w q h

  -- row j of n rows of r bytes each
  pub stands_row
      : {m : ℕ} (f : ℕ → List ℕ) (r n j : ℕ)
      → ((i : ℕ) → length (f i) ≡ r)
      → j < n
      → k + r * j ≡ m
      → Stands c k (joined f n)
      → Stands c m (f j)
  stands_row f r n j size l q h =
      record {
        at = λ i b.
            ap (byte c) (omega arith)
            ∙ h.at (r * j + i) (omega (arith, rows_length f r n size, size j, mul-le-mul_left r l))
            ∙ byte_joined f n j (r * j) i l (rows_length f r j size) b;
      }

-- ---- what is read

pub stands_byte : {c : List ℕ} {k x : ℕ} {w : List ℕ} → Stands c k (x ∷ w) → byte c k ≡ x
unfolding byte
stands_byte {c} h = ap (byte c) (omega arith) ∙ h.at 0 (omega arith)

pub stands_two : {c : List ℕ} {k : ℕ} (x : ℕ) → x < pair_limit → Stands c k (pair x) → two c k ≡ x
unfolding two pair
stands_two x l h = rw (stands_byte h, stands_byte (stands_next refl h)) (omega arith)
