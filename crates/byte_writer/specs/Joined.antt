-- Bytes one after the other: how many they are, that each is a byte, and what is read back from them.
use Rattle.std.specs.Prelude.{ℕ, zero, suc, ◌+◌, ◌*◌, ◌≤◌, ◌<◌, ◌≡◌, refl, Bool, true, false, cond, List, [], ◌∷◌, ◌++◌, length}
use Rattle.std.proofs.Common.{arith, add_assoc, mul-suc, sym, ap, ◌∙◌, ⊎_elim, append-nil, append_assoc, length-append, get_or-append-add}
use Rattle.std.proofs.Math.Decide.{dec_lt}
use Rattle.std.proofs.Math.Logic.{dite}
use Rattle.std.proofs.Math.ListN.{get_or-append}
use Rattle.rules.specs.Count.{count, sum, byte, two}
use Rattle.laws.specs.Bools.{decided}
use Rattle.laws.specs.Places.{below}
use Rattle.laws.specs.Counts.{count_yes, count_no}
use Rattle.laws.specs.Limits.{AllBytes, byte_values}
use Rattle.byte_writer.specs.Bytes.{pair_limit, pair_size, pair, when, joined}

-- ---- how many

pub pair_length : (n : ℕ) → length (pair n) ≡ pair_size
unfolding pair
pair_length n = refl

pub when_length : (t : Bool) (w : List ℕ) → length (when t w) ≡ cond t (length w) 0
unfolding when
when_length true w = refl
when_length false w = refl

pub when_yes : (t : Bool) (w : List ℕ) → t ≡ true → when t w ≡ w
unfolding when
when_yes t w h = rw h

pub when_no : (t : Bool) (w : List ℕ) → t ≡ false → when t w ≡ []
unfolding when
when_no t w h = rw h

pub joined_none : (f : ℕ → List ℕ) → joined f 0 ≡ []
unfolding joined
joined_none f = refl

pub joined_more : (f : ℕ → List ℕ) (n : ℕ) → joined f (suc n) ≡ joined f n ++ f n
unfolding joined
joined_more f n = refl

-- bytes that are equal at the places below n
pub joined_same : (f g : ℕ → List ℕ) (n : ℕ) → ((j : ℕ) → j < n → f j ≡ g j) → joined f n ≡ joined g n
unfolding joined
joined_same f g zero h = refl
joined_same f g (suc n) h = rw (joined_same f g n (λ j l. h j (omega arith)), h n (omega arith))

pub joined_length : (f : ℕ → List ℕ) (g : ℕ → ℕ) (n : ℕ) → ((i : ℕ) → length (f i) ≡ g i) → length (joined f n) ≡ sum g n
unfolding joined sum
joined_length f g zero h = refl
joined_length f g (suc n) h = omega (arith, length-append (joined f n) (f n), joined_length f g n h, h n)

-- rows of r bytes each
pub rows_length : (f : ℕ → List ℕ) (r n : ℕ) → ((i : ℕ) → length (f i) ≡ r) → length (joined f n) ≡ r * n
unfolding joined
rows_length f r zero h = omega arith
rows_length f r (suc n) h = omega (arith, length-append (joined f n) (f n), rows_length f r n h, h n)

-- a sum over the places that have p
pub sum_count : (p : ℕ → Bool) (k n : ℕ) → sum (λ i. cond (p i) k 0) n ≡ k * count p n
unfolding sum count
sum_count p k zero = omega arith
sum_count p k (suc n) =
    ⊎_elim (λ h. rw (count_yes p n h, mul-suc, h) (omega (arith, sum_count p k n)))
    (λ h. rw (count_no p n h, h) (omega (arith, sum_count p k n))) (decided (p n))

pub sum_up : (g : ℕ → ℕ) (m n : ℕ) → m ≤ n → sum g m ≤ sum g n
unfolding sum
sum_up g m zero h = let e : m ≡ 0 = omega arith in rw e (omega arith)
sum_up g m (suc n) h =
    dite (dec_lt n m) (λ l. let e : m ≡ suc n = omega arith in rw e (omega arith))
    (λ l. omega (arith, sum_up g m n (omega arith)))

-- ---- each is a byte

pub bytes_none : AllBytes []
unfolding byte
bytes_none i = omega arith

pub bytes_cons : {x : ℕ} (w : List ℕ) → x < byte_values → AllBytes w → AllBytes (x ∷ w)
unfolding byte
bytes_cons w l p zero = l
bytes_cons w l p (suc i) = p i

pub bytes_pair : (n : ℕ) → AllBytes (pair n)
unfolding pair
bytes_pair n = bytes_cons _ (omega arith) (bytes_cons _ (omega arith) bytes_none)

pub bytes_append : (v w : List ℕ) → AllBytes v → AllBytes w → AllBytes (v ++ w)
unfolding byte
bytes_append [] w p q i = q i
bytes_append (a ∷ v) w p q zero = p 0
bytes_append (a ∷ v) w p q (suc i) = bytes_append v w (λ k. p (suc k)) q i

pub bytes_when : (t : Bool) (w : List ℕ) → AllBytes w → AllBytes (when t w)
unfolding when
bytes_when true w p = p
bytes_when false w p = bytes_none

-- the places below n are enough
pub bytes_below : (f : ℕ → List ℕ) (n : ℕ) → ((i : ℕ) → i < n → AllBytes (f i)) → AllBytes (joined f n)
unfolding joined
bytes_below f zero p = bytes_none
bytes_below f (suc n) p = bytes_append (joined f n) (f n) (bytes_below f n (λ i l. p i (omega arith))) (p n (omega arith))

pub bytes_joined : (f : ℕ → List ℕ) (n : ℕ) → ((i : ℕ) → AllBytes (f i)) → AllBytes (joined f n)
bytes_joined f n p = bytes_below f n (λ i l. p i)

-- ---- what is read back

pub two_pair : (n : ℕ) → n < pair_limit → two (pair n) 0 ≡ n
unfolding two byte pair
two_pair n h = omega arith

pub byte_right : (v w : List ℕ) (n i : ℕ) → length v ≡ n → byte (v ++ w) (n + i) ≡ byte w i
unfolding byte
byte_right v w n i h = rw (← h) (get_or-append-add v w i 0)

pub byte_left : (v w : List ℕ) (i : ℕ) → i < length v → byte (v ++ w) i ≡ byte v i
unfolding byte
byte_left v w i h = get_or-append v w 0 i h

pub two_right : (v w : List ℕ) (n i : ℕ) → length v ≡ n → two (v ++ w) (n + i) ≡ two w i
unfolding two
two_right v w n i h = rw (byte_right v w n i h, add_assoc, byte_right v w n (i + 1) h)

pub two_left : (v w : List ℕ) (i : ℕ) → i + 1 < length v → two (v ++ w) i ≡ two v i
unfolding two
two_left v w i h = rw (byte_left v w i (omega arith), byte_left v w (i + 1) h)

joined_split : (f : ℕ → List ℕ) (n j : ℕ) → j < n → (rest : List ℕ) × (joined f n ≡ joined f j ++ f j ++ rest)
unfolding joined
joined_split f zero j h = absurd (omega arith)
joined_split f (suc n) j h =
    ⊎_elim
    (λ l. let r = joined_split f n j l in (r.0 ++ f n, ap (λ (w : List ℕ). w ++ f n) r.1 ∙ append_assoc (joined f j ++ f j) r.0 (f n)))
    (λ q. ([], rw q (sym (append-nil (joined f n ++ f n)))))
    (below j n h)

-- in the bytes of place j, those of the places before them have n bytes
pub byte_joined
    : (f : ℕ → List ℕ) (k j n i : ℕ)
    → j < k
    → length (joined f j) ≡ n
    → i < length (f j)
    → byte (joined f k) (n + i) ≡ byte (f j) i
byte_joined f k j n i h q l =
    let r = joined_split f k j h in
    ap (λ (w : List ℕ). byte w (n + i)) r.1
    ∙ byte_left (joined f j ++ f j) r.0 (n + i) (omega (arith, length-append (joined f j) (f j)))
    ∙ byte_right (joined f j) (f j) n i q

pub two_joined
    : (f : ℕ → List ℕ) (k j n i : ℕ)
    → j < k
    → length (joined f j) ≡ n
    → i + 1 < length (f j)
    → two (joined f k) (n + i) ≡ two (f j) i
unfolding two
two_joined f k j n i h q l =
    rw (byte_joined f k j n i h q (omega arith), add_assoc, byte_joined f k j n (i + 1) h q l)
