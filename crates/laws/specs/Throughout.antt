-- What holds of every place from a up to n.
use Rattle.std.specs.Prelude.{ℕ, ◌+◌, ◌≤◌, ◌<◌, ◌≡◌}
use Rattle.std.proofs.Common.{arith, eq-or-lt_of_le, sym, subst, ⊎_elim}
use Rattle.std.proofs.Math.Decide.{dec_lt}
use Rattle.std.proofs.Math.Logic.{dite}

pub record Throughout (P : ℕ → Type 0) (a n : ℕ) : Type 0 where
  pub each : (k : ℕ) → a ≤ k → k < n → P k

pub throughout_none : {P : ℕ → Type 0} (a : ℕ) → Throughout P a a
throughout_none a = record { each = λ k l m. absurd (omega arith) }

pub throughout_more : {P : ℕ → Type 0} {a n : ℕ} → Throughout P a n → P n → Throughout P a (n + 1)
throughout_more {P} {a} {n} all here =
    record { each = λ k l m. ⊎_elim (λ (q : k ≡ n). subst P (sym q) here) (λ (q : k < n). all.each k l q) (eq-or-lt_of_le (omega arith)) }

pub throughout_join : {P : ℕ → Type 0} {a n k : ℕ} → Throughout P a n → Throughout P n k → Throughout P a k
throughout_join {n = n} low high =
    record { each = λ i l m. dite (dec_lt i n) (λ h. low.each i l h) (λ h. high.each i (omega (arith, h)) m) }

pub throughout_map : {P Q : ℕ → Type 0} {a n : ℕ} → ((k : ℕ) → P k → Q k) → Throughout P a n → Throughout Q a n
throughout_map f all = record { each = λ k l m. f k (all.each k l m) }
