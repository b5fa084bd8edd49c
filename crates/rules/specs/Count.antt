-- Tests, counts and sums over the places below a number, and numbers read from bytes.
use Rattle.std.specs.Prelude.{ℕ, zero, suc, ◌+◌, ◌*◌, ◌<◌, Bool, true, false, cond, ◌&&◌, ◌||◌, List, get_or, leb, ltb}

-- f holds at every place below n
unfoldable pub every : (ℕ → Bool) → ℕ → Bool
every f zero = true
every f (suc n) = every f n && f n

-- f holds at a place below n
unfoldable pub any : (ℕ → Bool) → ℕ → Bool
any f zero = false
any f (suc n) = any f n || f n

-- at how many places below n f holds
unfoldable pub count : (ℕ → Bool) → ℕ → ℕ
count f zero = 0
count f (suc n) = count f n + cond (f n) 1 0

-- the sum of f over the places below n
unfoldable pub sum : (ℕ → ℕ) → ℕ → ℕ
sum f zero = 0
sum f (suc n) = sum f n + f n

-- r if it is below n, else n where the test holds, else the place after n
unfoldable pub or_here : ℕ → ℕ → Bool → ℕ
or_here n r here = cond (ltb r n) r (cond here n (suc n))

-- the first place below n at which f holds, n if there is none
unfoldable pub first : (ℕ → Bool) → ℕ → ℕ
first f zero = 0
first f (suc n) = or_here n (first f n) (f n)

-- f rises strictly over the places below n
unfoldable pub rises : (ℕ → ℕ) → ℕ → Bool
unfolding every
rises f zero = true
rises f (suc n) = every (λ i. ltb (f i) (f (suc i))) n

-- f rises over the places below n, not always strictly
unfoldable pub never_falls : (ℕ → ℕ) → ℕ → Bool
unfolding every
never_falls f zero = true
never_falls f (suc n) = every (λ i. leb (f i) (f (suc i))) n

-- the greatest number that f has at a place below n with the test, z if none is greater
unfoldable pub greatest : (test : ℕ → Bool) → (f : ℕ → ℕ) → (z n : ℕ) → ℕ
greatest test f z zero = z
greatest test f z (suc n) = cond (test n && ltb (greatest test f z n) (f n)) (f n) (greatest test f z n)

-- the least number that f has at a place below n with the test, z if none is less
unfoldable pub least : (test : ℕ → Bool) → (f : ℕ → ℕ) → (z n : ℕ) → ℕ
least test f z zero = z
least test f z (suc n) = cond (test n && ltb (f n) (least test f z n)) (f n) (least test f z n)

-- no place below n has P
unfoldable pub None : (ℕ → Type 0) → ℕ → Type 0
None P n = (i : ℕ) → i < n → P i → ⊥

-- i is the lowest place below n that has P
pub record Lowest (P : ℕ → Type 0) (n i : ℕ) : Type 0 where
  pub below : i < n
  pub has : P i
  pub lower : None P i

-- the byte at a place of a list of bytes, 0 past its end
unfoldable pub byte : List ℕ → ℕ → ℕ
byte b i = get_or b i 0

-- the two-byte number at a place, little-endian
unfoldable pub two : List ℕ → ℕ → ℕ
two b i = byte b i + 256 * byte b (i + 1)
