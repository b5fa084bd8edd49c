-- The places below a number that have a decided property: a least value over them, and their list by rising place.
use Prim.Native.Nat.{ℕ, zero, suc, ◌≤◌, ◌<◌}
use Rattle.std.specs.Prelude.{◌≡◌, refl, ◌⊎◌}
use Rattle.std.proofs.Common.{sym, ◌∙◌, ap, arith}
use Rattle.std.proofs.Math.Logic.{inl, inr, ⊎_elim, dite}
use Rattle.std.proofs.Math.Decide.{dec_le, dec_lt}
use Rattle.rules.specs.Count.{None}
use Rattle.laws.specs.Places.{below}
use Rattle.theory.specs.Statements.{LeastOf}

-- ---- the least value of a function

module _ {P : ℕ → Type 0} (f : ℕ → ℕ) where
  -- what holds below n and at n holds below suc n
  above : {n v : ℕ} → ((i : ℕ) → i < n → P i → v ≤ f i) → (P n → v ≤ f n) → (i : ℕ) → i < suc n → P i → v ≤ f i
  above {n} all here i l h = ⊎_elim (λ b. all i b h) (λ q. rw q (here (rw q at h))) (below i n l)

  here : {n : ℕ} → P n → ((i : ℕ) → i < n → P i → f n ≤ f i) → (v : ℕ) × LeastOf P f (suc n) v
  here {n} h all =
      (f n, record { at = n; inside = omega arith; has = h; value = refl; least = above all (λ q. omega arith) })

  earlier : {n v : ℕ} → LeastOf P f n v → (P n → v ≤ f n) → LeastOf P f (suc n) v
  earlier l q =
      record { at = l.at; inside = omega arith; has = l.has; value = l.value; least = above l.least q }

  pub least_of : (dec : (i : ℕ) → Dec (P i)) (n : ℕ) → ((v : ℕ) × LeastOf P f n v) ⊎ None P n
  unfolding None
  least_of dec zero = inr (λ i l. absurd (omega arith))
  least_of dec (suc n) = go (least_of dec n) (dec n)
    where
      go
          : ((v : ℕ) × LeastOf P f n v) ⊎ None P n
          → Dec (P n)
          → ((v : ℕ) × LeastOf P f (suc n) v) ⊎ None P (suc n)
      go (inl r) (yes h) =
          inl
          (dite (dec_le (f n) r.0) (λ l. here h (λ i b q. omega (arith, r.1.least i b q)))
          (λ g. (r.0, earlier r.1 (λ q. omega arith))))
      go (inl r) (no g) = inl (r.0, earlier r.1 (λ q. absurd (g q)))
      go (inr e) (yes h) = inl (here h (λ i b q. absurd (e i b q)))
      go (inr e) (no g) = inr (λ i l h. ⊎_elim (λ b. e i b h) (λ q. g (rw q at h)) (below i n l))

-- a place below n that has P, or none
pub find : {P : ℕ → Type 0} → ((i : ℕ) → Dec (P i)) → (n : ℕ) → ((i : ℕ) × (i < n) × P i) ⊎ None P n
find dec n = ⊎_elim (λ r. inl (r.1.at, r.1.inside, r.1.has)) (λ e. inr e) (least_of (λ i. 0) dec n)

pub some_dec : {P : ℕ → Type 0} → ((i : ℕ) → Dec (P i)) → (n : ℕ) → Dec ((i : ℕ) × (i < n) × P i)
unfolding None
some_dec dec n = ⊎_elim (λ r. yes r) (λ g. no (λ r. g r.0 r.1 r.2)) (find dec n)

pub all_dec : {P : ℕ → Type 0} → ((i : ℕ) → Dec (P i)) → (n : ℕ) → Dec ((i : ℕ) → i < n → P i)
unfolding None
all_dec {P} dec n =
    ⊎_elim (λ r. no (λ all. r.2 (all r.0 r.1))) (λ g. yes (λ i l. dite (dec i) (λ h. h) (λ h. absurd (g i l h))))
    (find (λ i. other (dec i)) n)
  where
    other : {i : ℕ} → Dec (P i) → Dec (P i → ⊥)
    other (yes h) = no (λ g. g h)
    other (no g) = yes g

-- ---- the list of the places

pub record PlacesOf (P : ℕ → Type 0) (n : ℕ) : Type 0 where
  pub count : ℕ
  pub at : ℕ → ℕ
  pub inside : (k : ℕ) → k < count → at k < n
  pub has : (k : ℕ) → k < count → P (at k)
  pub rising : (i k : ℕ) → i < k → k < count → at i < at k
  pub whole : (j : ℕ) → j < n → P j → (k : ℕ) × (k < count) × (at k ≡ j)

-- the list x, then n at place c
snoc : ℕ → (ℕ → ℕ) → ℕ → ℕ → ℕ
snoc c x n k = dite (dec_lt k c) (λ l. x k) (λ g. n)

snoc_old : (c : ℕ) (x : ℕ → ℕ) (n k : ℕ) → k < c → snoc c x n k ≡ x k
unfolding snoc
snoc_old c x n k l = go (dec_lt k c)
  where
    go : (d : Dec (k < c)) → dite d (λ l. x k) (λ g. n) ≡ x k
    go (yes l) = refl
    go (no g) = absurd (g l)

snoc_new : (c : ℕ) (x : ℕ → ℕ) (n : ℕ) → snoc c x n c ≡ n
unfolding snoc
snoc_new c x n = go (dec_lt c c)
  where
    go : (d : Dec (c < c)) → dite d (λ l. x c) (λ g. n) ≡ n
    go (yes l) = absurd (omega arith)
    go (no g) = refl

module _ {P : ℕ → Type 0} where
  with_place : {n : ℕ} → PlacesOf P n → P n → PlacesOf P (suc n)
  with_place {n} l h =
      record {
        count = suc c;
        at = x;
        inside = λ k b.
            ⊎_elim (λ o. omega (arith, old k o, l.inside k o)) (λ q. omega (arith, new k q)) (below k c b);
        has = λ k b. ⊎_elim (λ o. rw (old k o) (l.has k o)) (λ q. rw (new k q) h) (below k c b);
        rising = λ i k r b.
            ⊎_elim (λ o. omega (arith, old i (omega arith), old k o, l.rising i k r o))
            (λ q. omega (arith, old i (omega arith), new k q, l.inside i (omega arith))) (below k c b);
        whole = λ j b q.
            ⊎_elim (λ o. let (k, kIn, kAt) = l.whole j o q in (k, omega arith, old k kIn ∙ kAt))
            (λ e. (c, omega arith, new c refl ∙ sym e)) (below j n b);
      }
    where
      c : ℕ
      c = l.count

      x : ℕ → ℕ
      x = snoc c l.at n

      old : (k : ℕ) → k < c → x k ≡ l.at k
      old k o = snoc_old c l.at n k o

      new : (k : ℕ) → k ≡ c → x k ≡ n
      new k q = ap x q ∙ snoc_new c l.at n

  without_place : {n : ℕ} → PlacesOf P n → (P n → ⊥) → PlacesOf P (suc n)
  without_place {n} l g =
      record {
        count = l.count;
        at = l.at;
        inside = λ k b. omega (arith, l.inside k b);
        has = l.has;
        rising = l.rising;
        whole = λ j b h. ⊎_elim (λ c. l.whole j c h) (λ q. absurd (g (rw q at h))) (below j n b);
      }

  pub list : ((j : ℕ) → Dec (P j)) → (n : ℕ) → PlacesOf P n
  list dec zero =
      record {
        count = 0;
        at = λ k. 0;
        inside = λ k b. absurd (omega arith);
        has = λ k b. absurd (omega arith);
        rising = λ i k r b. absurd (omega arith);
        whole = λ j b h. absurd (omega arith);
      }
  list dec (suc n) = dite (dec n) (with_place (list dec n)) (without_place (list dec n))
