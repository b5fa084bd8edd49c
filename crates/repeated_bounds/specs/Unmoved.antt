-- What moved with repeated pairs, and that nothing else did: all bytes have the fault they had, but those that were 14 for the order of pairs
-- alone and in which no pair falls, which are well formed now.
use Prim.Native.Nat.{ℕ, zero, suc, ◌*◌, ◌<◌}
use native.Mathlib.Omega.{arith}
use Rattle.std.specs.Prelude.{◌≡◌, ◌↔◌, ◌⊎◌, Bool, true, false, cond, not, ◌&&◌, List, ltb, eqb}
use Rattle.std.proofs.Math.Path.{refl, sym}
use Rattle.std.proofs.Common.{ap, ◌∙◌}
use Rattle.std.proofs.Math.Logic.{inl, inr, ⊎_elim}
use Rattle.std.proofs.Math.Dec.{leb}
use borrow.Author.Tests.{ltb-true, leb-true, leb-false, le-leb}
use Rattle.rules.specs.Count.{every, rises, never_falls}
use Rattle.rules.specs.Sheet.{Sheet, sheet_of, length_of, max_bounds, bound_ok, bounds_ok, sheet_fault}
use Rattle.rules.specs.Sheet.{contents_ok, facts_body_ok, jobs_body_ok, events_body_ok, bounds_body_ok}
use Rattle.laws.specs.Bools.{clash, decided}
use Rattle.laws.specs.Places.{every_get, every_put, every_not}
use Rattle.laws.specs.Pairs.{pair_key}
use Rattle.repeated_bounds.specs.FormerPairs.{pairs_rise, strict_bounds_ok, strict_body_ok, strict_fault}

-- ---- the order

rises_falls_never : (f : ℕ → ℕ) (n : ℕ) → rises f n ≡ true → never_falls f n ≡ true
unfolding rises never_falls
rises_falls_never f zero h = refl
rises_falls_never f (suc n) h =
    every_put (λ i. leb (f i) (f (suc i))) n
    (λ i l. le-leb (f i) (f (suc i)) (omega (arith, ltb-true (f i) (f (suc i)) (every_get (λ k. ltb (f k) (f (suc k))) n h i l))))

-- a pair that falls: it stands right behind a higher one
abbrev pub Falls : Sheet → Type 0
Falls s = (i : ℕ) × (suc i < s.bounds) × (pair_key s (suc i) < pair_key s i)

module _ (f : ℕ → ℕ) where
  fall_found : (n : ℕ) → never_falls f n ≡ false → (i : ℕ) × (suc i < n) × (f (suc i) < f i)
  unfolding never_falls
  fall_found zero h = absurd (clash refl h)
  fall_found (suc n) h =
      let (i, l, p) = every_not (λ k. leb (f k) (f (suc k))) n h in
      (i, omega arith, leb-false (f i) (f (suc i)) p)

  fall_breaks : (n i : ℕ) → suc i < n → f (suc i) < f i → never_falls f n ≡ true → ⊥
  unfolding never_falls
  fall_breaks zero i l h p = absurd (omega arith)
  fall_breaks (suc n) i l h p =
      omega (arith, leb-true (f i) (f (suc i)) (every_get (λ k. leb (f k) (f (suc k))) n p i (omega arith)))

-- ---- the fault

-- the number of the first of five tests that fails
faults : (contents facts jobs events bounds : Bool) → ℕ
faults a b c d e = cond (not a) 10 (cond (not b) 11 (cond (not c) 12 (cond (not d) 13 (cond (not e) 14 0))))

-- where the order is asked for less, p in the place of q, nothing moves but what fails at the order alone
split
    : (a b c d x w p q : Bool)
    → (p ≡ true → q ≡ true)
    → (faults a b c d (x && (w && q)) ≡ faults a b c d (x && (w && p)))
    ⊎ ((a ≡ true) × (b ≡ true) × (c ≡ true) × (d ≡ true) × (x ≡ true) × (w ≡ true) × (p ≡ false) × (q ≡ true))
unfolding faults
split false b c d x w p q h = inl refl
split true false c d x w p q h = inl refl
split true true false d x w p q h = inl refl
split true true true false x w p q h = inl refl
split true true true true false w p q h = inl refl
split true true true true true false p q h = inl refl
split true true true true true true true q h = inl (rw (h refl) refl)
split true true true true true true false true h = inr (refl, refl, refl, refl, refl, refl, refl, refl)
split true true true true true true false false h = inl refl

module _ (b : List ℕ) where
  abbrev s : Sheet
  s = sheet_of b

  -- the tests of the bounds but that of their order: the length, and the count with each row
  abbrev size : Bool
  size = eqb (length_of b 3) (6 * s.bounds)

  abbrev rows : Bool
  rows = leb s.bounds max_bounds && every (λ i. bound_ok s (s.bound i)) s.bounds

  abbrev rise : Bool
  rise = never_falls (pair_key s) s.bounds

  fault_is : sheet_fault b ≡ faults (contents_ok b) (facts_body_ok b) (jobs_body_ok b) (events_body_ok b) (size && (rows && rise))
  unfolding sheet_fault faults bounds_body_ok bounds_ok
  fault_is = refl

  strict_is : strict_fault b ≡ faults (contents_ok b) (facts_body_ok b) (jobs_body_ok b) (events_body_ok b) (size && (rows && pairs_rise s))
  unfolding strict_fault faults strict_body_ok strict_bounds_ok
  strict_is = refl

  pairs_never_fall : pairs_rise s ≡ true → rise ≡ true
  unfolding pairs_rise
  pairs_never_fall = rises_falls_never (pair_key s) s.bounds

  -- 14 for nothing but the order of the pairs
  pub record OrderAlone : Type 0 where
    pub contents : contents_ok b ≡ true
    pub facts : facts_body_ok b ≡ true
    pub jobs : jobs_body_ok b ≡ true
    pub events : events_body_ok b ≡ true
    pub length : size ≡ true
    pub bounds : rows ≡ true
    pub before : strict_fault b ≡ 14

  -- all bytes have the fault they had, but those that were 14 for the order of pairs alone and are well formed now
  pub only_these : (sheet_fault b ≡ strict_fault b) ⊎ (OrderAlone × (sheet_fault b ≡ 0))
  unfolding faults
  only_these =
      ⊎_elim
      (λ q. inl (fault_is ∙ q ∙ sym strict_is))
      (λ (c, f, j, e, x, w, p, q).
      inr (
        record {
          contents = c;
          facts = f;
          jobs = j;
          events = e;
          length = x;
          bounds = w;
          before = strict_is ∙ rw (c, f, j, e, x, w, p) refl;
        },
        fault_is ∙ rw (c, f, j, e, x, w, q) refl,
      ))
      (split (contents_ok b) (facts_body_ok b) (jobs_body_ok b) (events_body_ok b) size rows (pairs_rise s) rise pairs_never_fall)

  -- so bytes that were not 14 have the fault they had
  pub fault_stays : (strict_fault b ≡ 14 → ⊥) → sheet_fault b ≡ strict_fault b
  fault_stays o = ⊎_elim (λ q. q) (λ (alone, q). absurd (o alone.before)) only_these

  -- and so have bytes whose pairs rise strictly
  pub fault_strict : pairs_rise s ≡ true → sheet_fault b ≡ strict_fault b
  fault_strict h = fault_is ∙ rw (pairs_never_fall h, h) refl ∙ sym strict_is

  module _ (o : OrderAlone) where
    by_order : sheet_fault b ≡ cond (not rise) 14 0
    unfolding faults
    by_order = fault_is ∙ rw (o.contents, o.facts, o.jobs, o.events, o.length, o.bounds) refl

    falls_14 : Falls s → sheet_fault b ≡ 14
    falls_14 (i, l, h) =
        ⊎_elim
        (λ p. absurd (fall_breaks (pair_key s) s.bounds i l h p))
        (λ p. by_order ∙ rw p refl)
        (decided rise)

    pub rises_0 : (Falls s → ⊥) → sheet_fault b ≡ 0
    rises_0 none =
        ⊎_elim
        (λ p. by_order ∙ rw p refl)
        (λ p. absurd (none (fall_found (pair_key s) s.bounds p)))
        (decided rise)

    -- it is 14 exactly if some pair falls, and 0 if none does
    pub exactly_14 : sheet_fault b ≡ 14 ↔ Falls s
    exactly_14 = (
      λ h.
          ⊎_elim
          (λ p. absurd (omega (arith, h, by_order ∙ ap (λ (t : Bool). cond (not t) 14 0) p)))
          (λ p. fall_found (pair_key s) s.bounds p)
          (decided rise),
      falls_14,
    )
