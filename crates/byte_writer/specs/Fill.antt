-- Filling a buffer: bytes w laid into d from place i on. Start, step and end of every function that writes a part of a list or a sheet,
-- and of every loop that writes one part after the other.
use Rattle.std.specs.Prelude.{ℕ, suc, ◌+◌, ◌*◌, ◌/◌, ◌%◌, ◌≤◌, ◌<◌, ◌≡◌, refl, List, [], ◌∷◌, ◌++◌, length, drop, set}
use Rattle.std.proofs.Common.{arith, add-zero, add-suc, suc-add, zero-add, mul-le-mul_left, mul-suc, add-one, sym, ap, ◌∙◌, append-nil}
use Rattle.std.proofs.Math.Seq as Seq
use Rattle.byte_writer.specs.Bytes.{pair, joined}
use Rattle.byte_writer.specs.Joined.{joined_none, joined_more, rows_length}
use Rattle.laws.specs.Limits.{byte_values}

-- the buffer d after the bytes w have been written from place i on
unfoldable pub laid : List ℕ → ℕ → List ℕ → List ℕ
laid d i w = Seq.sets d i w

pub laid_length : (d : List ℕ) (i : ℕ) (w : List ℕ) → length (laid d i w) ≡ length d
unfolding laid
laid_length d i w = Seq.length-sets d i w

pub laid_long : (d : List ℕ) (i : ℕ) (w : List ℕ) {new : List ℕ} → new ≡ laid d i w → length new ≡ length d
laid_long d i w h = ap length h ∙ laid_length d i w

-- there is as much room
pub as_long : {n old new : ℕ} → new ≡ old → n ≤ old → n ≤ new
as_long h room = omega arith

-- start: nothing is written
laid_none : (d : List ℕ) (i : ℕ) → laid d i [] ≡ d
unfolding laid
laid_none d i = refl

-- step: what is written after u stands after u
laid_more : (u w d : List ℕ) (i : ℕ) → laid (laid d i u) (i + length u) w ≡ laid d i (u ++ w)
unfolding laid
laid_more [] w d i = ap (λ (n : ℕ). Seq.sets d n w) (add-zero i)
laid_more (a ∷ u) w d i =
    ap (λ (n : ℕ). Seq.sets (Seq.sets (set d i a) (suc i) u) n w) (add-suc i (length u) ∙ sym (suc-add i (length u)))
    ∙ laid_more u w (set d i a) (suc i)

-- the step where the n bytes u have been written
pub Laid-then
    : (d u w : List ℕ) (i n : ℕ) {a c : List ℕ}
    → length u ≡ n
    → a ≡ laid d i u
    → c ≡ laid a (i + n) w
    → c ≡ laid d i (u ++ w)
Laid-then d u w i n h p q = q ∙ rw (p, ← h) (laid_more u w d i)

-- one store, and two
pub laid_byte : (d : List ℕ) (i n : ℕ) → set d i n ≡ laid d i (n ∷ [])
unfolding laid
laid_byte d i n = refl

pub laid_pair : (d : List ℕ) (i n : ℕ) → set (set d i (n % byte_values)) (i + 1) (n / byte_values % byte_values) ≡ laid d i (pair n)
unfolding laid pair
laid_pair d i n = rw add-one refl

-- end: the front of the buffer is w, and the rest is unchanged
pub laid_front : (d w : List ℕ) → length w ≤ length d → laid d 0 w ≡ w ++ drop (length w) d
unfolding laid
laid_front d w h = Seq.sets-eq w d 0 (rw zero-add h) ∙ ap (λ (n : ℕ). w ++ drop n d) (zero-add (length w))

-- ---- a loop: the buffer d from place start on holds f 0, .. up to f (k - 1)

pub record Filling (d : List ℕ) (start : ℕ) (f : ℕ → List ℕ) (k : ℕ) (out : List ℕ) : Type 0 where
  pub bytes : out ≡ laid d start (joined f k)
  pub long : length out ≡ length d

module _ (d : List ℕ) (start : ℕ) (f : ℕ → List ℕ) where
  pub filling_start : Filling d start f 0 d
  filling_start = record { bytes = sym (ap (laid d start) (joined_none f) ∙ laid_none d start); long = refl }

  module _ {k : ℕ} {out : List ℕ} (h : Filling d start f k out) where
    more : joined f (k + 1) ≡ joined f k ++ f k
    more = ap (joined f) (add-one k) ∙ joined_more f k

    -- the bytes of the next place have been written where those before them, n in all, end
    pub Filling-step
        : (n : ℕ) {new w : List ℕ}
        → length (joined f k) ≡ n
        → f k ≡ w
        → new ≡ laid out (start + n) w
        → Filling d start f (k + 1) new
    Filling-step n {new} {w} size same next =
        record {
          bytes =
              Laid-then d (joined f k) (f k) start n size h.bytes (next ∙ ap (laid out (start + n)) (sym same))
              ∙ ap (laid d start) (sym more);
          long = ap length next ∙ laid_length out (start + n) w ∙ h.long;
        }

    pub filling_skip : f k ≡ [] → Filling d start f (k + 1) out
    filling_skip none =
        record {
          bytes = h.bytes ∙ ap (laid d start) (sym (more ∙ ap (λ (w : List ℕ). joined f k ++ w) none ∙ append-nil (joined f k)));
          long = h.long;
        }

    pub filling_end : (n : ℕ) → k ≡ n → out ≡ laid d start (joined f n)
    filling_end n q = h.bytes ∙ ap (λ (i : ℕ). laid d start (joined f i)) q

-- ---- a loop over n rows, each of r bytes; k of them have been written

pub record Rows (d : List ℕ) (start : ℕ) (f : ℕ → List ℕ) (n k : ℕ) (out : List ℕ) : Type 0 where
  pub within : k ≤ n
  pub filling : Filling d start f k out

pub rows_start : (d : List ℕ) (start : ℕ) (f : ℕ → List ℕ) (n : ℕ) → Rows d start f n 0 d
rows_start d start f n = record { within = omega arith; filling = filling_start d start f }

module _ (d : List ℕ) (start : ℕ) (f : ℕ → List ℕ) (n : ℕ) {k : ℕ} {out : List ℕ} (h : Rows d start f n k out) where
  -- there is room for the next row
  pub rows_room : (r : ℕ) → start + r * n ≤ length d → k < n → start + r * k + r ≤ length out
  rows_room r room l = omega (arith, mul-le-mul_left r l, mul-suc r k, h.filling.long)

  pub rows_step
      : (r : ℕ) {new w : List ℕ}
      → ((i : ℕ) → length (f i) ≡ r)
      → k < n
      → f k ≡ w
      → new ≡ laid out (start + r * k) w
      → Rows d start f n (k + 1) new
  rows_step r each l same next =
      record { within = omega arith; filling = Filling-step d start f h.filling (r * k) (rows_length f r k each) same next }

  pub rows_end : n ≤ k → out ≡ laid d start (joined f n)
  rows_end l = filling_end d start f h.filling n (omega (arith, h.within))
