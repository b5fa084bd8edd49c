-- At how many places below a number a test holds.
use Rattle.std.specs.Prelude.{ℕ, zero, suc, ◌+◌, ◌≤◌, ◌<◌, min, ◌≡◌, Bool, true, false, cond}
use Rattle.std.proofs.Common.{arith, ap, subst, ⊎_elim}
use Rattle.std.proofs.Math.Decide.{dec_lt}
use Rattle.std.proofs.Math.Path.{refl}
use Rattle.std.proofs.Math.Logic.{dite}
use Rattle.rules.specs.Count.{count}
use Rattle.laws.specs.Bools.{decided}
use Rattle.laws.specs.Places.{below}

-- a test as a number
abbrev pub bit : Bool → ℕ
bit t = cond t 1 0

bit_le : (t : Bool) → bit t ≤ 1
bit_le true = omega arith
bit_le false = omega arith

module _ (p : ℕ → Bool) where
  pub count_zero : count p 0 ≡ 0
  unfolding count
  count_zero = refl

  pub count_suc : (n : ℕ) → count p (suc n) ≡ count p n + bit (p n)
  unfolding count
  count_suc n = refl

  pub count_yes : (n : ℕ) → p n ≡ true → count p (suc n) ≡ suc (count p n)
  count_yes n h = omega (arith, count_suc n, ap bit h)

  pub count_no : (n : ℕ) → p n ≡ false → count p (suc n) ≡ count p n
  count_no n h = omega (arith, count_suc n, ap bit h)

  pub count_le : (n : ℕ) → count p n ≤ n
  count_le zero = omega (arith, count_zero)
  count_le (suc n) = omega (arith, count_suc n, bit_le (p n), count_le n)

  pub count_up : (m n : ℕ) → m ≤ n → count p m ≤ count p n
  count_up m zero h = let e : m ≡ 0 = omega arith in rw e (omega arith)
  count_up m (suc n) h =
      dite (dec_lt n m) (λ l. let e : m ≡ suc n = omega arith in rw e (omega arith))
      (λ g. omega (arith, count_suc n, count_up m n (omega arith)))

  -- a place that has it is counted
  pub count_at : (e n : ℕ) → e < n → p e ≡ true → count p e < count p n
  count_at e n l h = omega (arith, count_yes e h, count_up (suc e) n l)

  -- and each number below the count is that of such a place
  pub count_find : (n c : ℕ) → c < count p n → (e : ℕ) × (e < n) × (p e ≡ true) × (count p e ≡ c)
  count_find zero c h = absurd (omega (arith, count_zero))
  count_find (suc n) c h =
      dite (dec_lt c (count p n)) (λ l. let (e, eIn, q, k) = count_find n c l in (e, omega arith, q, k))
      (λ g. ⊎_elim (λ q. (n, omega arith, q, omega (arith, count_yes n q))) (λ q. absurd (omega (arith, count_no n q))) (decided (p n)))

  -- p holds nowhere
  pub count_none : (n : ℕ) → ((e : ℕ) → e < n → p e ≡ false) → count p n ≡ 0
  count_none zero h = count_zero
  count_none (suc n) h = omega (arith, count_no n (h n (omega arith)), count_none n (λ e l. h e (omega arith)))

  -- p holds from a to below c and nowhere else
  pub count_range
      : (a c : ℕ)
      → a ≤ c
      → (n : ℕ)
      → ((e : ℕ) → e < n → a ≤ e → e < c → p e ≡ true)
      → ((e : ℕ) → e < n → e < a → p e ≡ false)
      → ((e : ℕ) → e < n → c ≤ e → p e ≡ false)
      → count p n + min a n ≡ min c n
  count_range a c h zero within before past = omega (arith, count_zero)
  count_range a c h (suc n) within before past =
      let i = count_range a c h n (λ e l. within e (omega arith)) (λ e l. before e (omega arith)) (λ e l. past e (omega arith)) in
      dite (dec_lt n a) (λ l. omega (arith, count_no n (before n (omega arith) l)))
      (λ g.
      dite (dec_lt n c) (λ l. omega (arith, count_yes n (within n (omega arith) (omega arith) l)))
      (λ k. omega (arith, count_no n (past n (omega arith) (omega arith)))))

-- more places, at least as many
pub count_more : (p q : ℕ → Bool) (n : ℕ) → ((e : ℕ) → bit (p e) ≤ bit (q e)) → count p n ≤ count q n
count_more p q zero h = omega (arith, count_zero p, count_zero q)
count_more p q (suc n) h = omega (arith, count_suc p n, count_suc q n, h n, count_more p q n h)

-- and more, where q holds at a place and p does not
pub count_fewer : (p q : ℕ → Bool) (i n : ℕ) → i < n → ((e : ℕ) → bit (p e) ≤ bit (q e)) → bit (p i) < bit (q i) → count p n < count q n
count_fewer p q i zero l h d = absurd (omega arith)
count_fewer p q i (suc n) l h d =
    ⊎_elim (λ m. omega (arith, count_suc p n, count_suc q n, h n, count_fewer p q i n m h d))
    (λ e. omega (arith, count_suc p n, count_suc q n, count_more p q n h, subst (λ k. bit (p k) < bit (q k)) e d)) (below i n l)

-- p and q never hold both, and r wherever one of them does
pub count_add : (p q r : ℕ → Bool) (n : ℕ) → ((e : ℕ) → bit (p e) + bit (q e) ≤ bit (r e)) → count p n + count q n ≤ count r n
count_add p q r zero h = omega (arith, count_zero p, count_zero q, count_zero r)
count_add p q r (suc n) h = omega (arith, count_suc p n, count_suc q n, count_suc r n, h n, count_add p q r n h)

-- and only there
pub count_split : (p q r : ℕ → Bool) (n : ℕ) → ((e : ℕ) → bit (r e) ≡ bit (p e) + bit (q e)) → count r n ≡ count p n + count q n
count_split p q r zero h = omega (arith, count_zero p, count_zero q, count_zero r)
count_split p q r (suc n) h = omega (arith, count_suc p n, count_suc q n, count_suc r n, h n, count_split p q r n h)
