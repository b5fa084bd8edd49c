-- The bits of a number: which are on after an or, after others are taken away, and in a power of two; and sets of facts as numbers.
use Rattle.std.specs.Prelude.{ℕ, suc, ◌+◌, ◌-◌, ◌*◌, ◌/◌, ◌%◌, ◌^◌, ◌<◌, ◌≡◌, ◌↔◌, ◌⊎◌}
use Rattle.std.proofs.Common.{arith, pow-suc, one-mul, sym, ap, subst, ◌∙◌, inl, inr, ⊎_elim, pow_pos, pow-add}
use Rattle.std.proofs.Math.Decide.{dec_lt, ℕ_discrete}
use Rattle.std.proofs.Math.Nat.{div-eq_of_lt}
use Rattle.std.proofs.Math.Logic.{dite}
use Rattle.std.proofs.Math.Pow.{pow-lt}
use Rattle.std.proofs.lemmas.Nat.{shl-shr, and_shr, or_shr, xor_shr, or_lt}
use Rattle.std.specs.Int.Bits.{bit_and, bit_or, bit_xor, or_step, and_step, xor_add_and}
use Rattle.rules.specs.Late.{On, Bits}

-- ---- the last bit

or_last : (x y : ℕ) → (bit_or x y % 2 ≡ 1) ↔ ((x % 2 ≡ 1) ⊎ (y % 2 ≡ 1))
or_last x y =
    let p = or_step x y in (
      λ h. dite (ℕ_discrete (x % 2) 1) inl (λ l. inr (omega (arith, l))),
      λ h. ⊎_elim (λ l. omega arith) (λ l. omega arith) h,
    )

clear_last : (x y : ℕ) → (bit_xor x (bit_and x y) % 2 ≡ 1) ↔ ((x % 2 ≡ 1) × (y % 2 ≡ 1 → ⊥))
clear_last x y =
    let p = and_step x y in
    let q = xor_add_and x (bit_and x y) in
    (λ h. (omega arith, λ l. omega arith), λ h. omega (arith, h.1))

-- ---- bit f

pub on_or : (a b f : ℕ) → On (bit_or a b) f ↔ (On a f ⊎ On b f)
unfolding On
on_or a b f = rw (or_shr a b f) (or_last (a / 2 ^ f) (b / 2 ^ f))

pub on_clear : (a b f : ℕ) → On (bit_xor a (bit_and a b)) f ↔ (On a f × (On b f → ⊥))
unfolding On
on_clear a b f = rw (xor_shr a (bit_and a b) f, and_shr a b f) (clear_last (a / 2 ^ f) (b / 2 ^ f))

on_zero : (f : ℕ) → On 0 f → ⊥
unfolding On
on_zero f h = omega (arith, div-eq_of_lt (pow_pos f))

on_same : (f : ℕ) → On (2 ^ f) f
unfolding On
on_same f = let e : 2 ^ f / 2 ^ f ≡ 1 = rw (one-mul (2 ^ f)) at (shl-shr 1 f) in omega arith

-- a power has no bit below its own, for its quotient is even
below_even : (j f : ℕ) → 2 ^ (suc j + f) / 2 ^ f % 2 ≡ 1 → ⊥
below_even j f h =
    let e : 2 ^ (suc j + f) / 2 ^ f ≡ 2 ^ j * 2 =
    ap (λ (x : ℕ). x / 2 ^ f) (pow-add 2 (suc j) f) ∙ shl-shr (2 ^ suc j) f ∙ pow-suc 2 j in
    omega arith

on_other : (g f : ℕ) → On (2 ^ g) f → f ≡ g
unfolding On
on_other g f h =
    dite (dec_lt g f) (λ l. absurd (omega (arith, div-eq_of_lt (pow-lt l))))
    (λ l.
    dite (dec_lt f g)
    (λ m.
    let e : suc (g - f - 1) + f ≡ g = omega arith in
    absurd (below_even (g - f - 1) f (subst (λ (x : ℕ). 2 ^ x / 2 ^ f % 2 ≡ 1) (sym e) h)))
    (λ m. omega (arith, l, m)))

-- ---- sets of facts

-- the facts that P ties to a number below n
pub record Among (P : ℕ → ℕ → Type 0) (n f : ℕ) : Type 0 where
  pub at : ℕ
  pub below : at < n
  pub is : P at f

pub bits_map : {h : ℕ} {P Q : ℕ → Type 0} → ((f : ℕ) → P f → Q f) → ((f : ℕ) → Q f → P f) → Bits h P → Bits h Q
bits_map to from b =
    record { fits = b.fits; bits = λ f l. (λ x. to f ((b.bits f l).0 x), λ x. (b.bits f l).1 (from f x)) }

module _ {P : ℕ → ℕ → Type 0} where
  pub among_none : Bits 0 (Among P 0)
  among_none = record { fits = pow_pos 64; bits = λ f l. (λ x. absurd (on_zero f x), λ x. absurd (omega (arith, x.below))) }

  module _ {h k : ℕ} (b : Bits h (Among P k)) where
    widen : {f : ℕ} → Among P k f → Among P (k + 1) f
    widen x = record { at = x.at; below = omega (arith, x.below); is = x.is }

    narrow : {f : ℕ} → Among P (k + 1) f → Among P k f ⊎ P k f
    narrow {f} x =
        dite (dec_lt x.at k) (λ l. inl (record { at = x.at; below = l; is = x.is }))
        (λ l. let e : x.at ≡ k = omega (arith, x.below, l) in inr (subst (λ (i : ℕ). P i f) e x.is))

    -- k is tied to no fact
    pub among_skip : ((f : ℕ) → P k f → ⊥) → Bits h (Among P (k + 1))
    among_skip none = bits_map (λ f. widen) (λ f x. ⊎_elim (λ y. y) (λ y. absurd (none f y)) (narrow x)) b

    -- k is tied to fact g alone
    pub among_add : (g : ℕ) → g < 64 → P k g → ((f : ℕ) → P k f → f ≡ g) → Bits (bit_or h (2 ^ g)) (Among P (k + 1))
    among_add g l p one =
        record {
          fits = or_lt 64 h (2 ^ g) b.fits (pow-lt l);
          bits =
              λ f m. (
                λ x.
                    ⊎_elim (λ y. widen ((b.bits f m).0 y))
                    (λ y. record { at = k; below = omega arith; is = subst (λ (i : ℕ). P k i) (sym (on_other g f y)) p })
                    ((on_or h (2 ^ g) f).0 x),
                λ x.
                    (on_or h (2 ^ g) f).1
                    (⊎_elim (λ y. inl ((b.bits f m).1 y)) (λ y. inr (subst (λ (i : ℕ). On (2 ^ g) i) (sym (one f y)) (on_same g))) (narrow x)),
              );
        }
