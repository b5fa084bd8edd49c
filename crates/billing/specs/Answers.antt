-- The answer of cost leaves no choice, its sum is exact, and its cents have a greatest; refusals are the judge's, and 51.
use Rattle.std.specs.Prelude.{ℕ, ◌+◌, ◌*◌, ◌/◌, ◌%◌, ◌≤◌, ◌<◌, ◌≡◌, refl, ◌≢◌, ◌↔◌, true, false, List, length, get_or}
use native.Mathlib.Omega.{arith}
use Rattle.std.proofs.Math.Decide.{ℕ_discrete}
use Rattle.std.proofs.Common.{mul-le-mul, mul-le-mul_right, sym, subst, ⊎_elim}
use Rattle.std.proofs.Math.Logic.{dite}
use Rattle.rules.specs.Sheet.{Sheet, max_horizon, sheet_of}
use Rattle.rules.specs.RunList.{Plan, max_instances, plan_of}
use Rattle.rules.specs.Plan.{IsPlan, latest}
use Rattle.rules.specs.Answer.{Judged}
use Rattle.rules.specs.Cost.{max_rate, rates_ok, minutes, sum_of, hour, Costed}
use Rattle.laws.specs.Bools.{clash, decided}
use Rattle.laws.specs.OneEach.{one_each_get, one_each_put}
use Rattle.laws.specs.Formed.{formed}
use Rattle.theory.specs.Why.Bytes.{list_formed}
use Rattle.theory.specs.Why.Unique.{judged_unique}
use Rattle.laws.specs.Faults.{well_formed_lem}
use Rattle.theory.specs.Why.Answers.{judged_numbers, accepted}
use Rattle.laws.specs.Sums.{sum_most}
use Rattle.billing.specs.Minutes.{Lasts, no_event, from_to, minutes_lasts}

-- the sum of sheet b, list l and rates r
abbrev pub sum_in : (b l r : List ℕ) → ℕ
sum_in b l r = sum_of (sheet_of b) (plan_of (sheet_of b) l) r

-- what 0 says
pub record Billed (b l r : List ℕ) (c x : ℕ) : Type 0 where
  pub accepted : Judged b l 0 0
  pub rates : rates_ok r (sheet_of b).jobs ≡ true
  pub cents : c ≡ sum_in b l r / hour
  pub sixtieths : x ≡ sum_in b l r % hour

-- ---- no choice

module _ {b l r : List ℕ} where
  pub costed_unique : {n m c d x y : ℕ} → Costed b l r n c x → Costed b l r m d y → (n ≡ m) × (c ≡ d) × (x ≡ y)
  costed_unique (Costed.refused n p g) (Costed.refused m q h) = ((judged_unique p q).0, refl, refl)
  costed_unique (Costed.refused n p g) (Costed.bad_rates q h) = absurd (g (judged_unique p q).0)
  costed_unique (Costed.refused n p g) (Costed.billed q h) = absurd (g (judged_unique p q).0)
  costed_unique (Costed.bad_rates p g) (Costed.refused m q h) = absurd (h (judged_unique q p).0)
  costed_unique (Costed.bad_rates p g) (Costed.bad_rates q h) = (refl, refl, refl)
  costed_unique (Costed.bad_rates p g) (Costed.billed q h) = absurd (clash h g)
  costed_unique (Costed.billed p g) (Costed.refused m q h) = absurd (h (judged_unique q p).0)
  costed_unique (Costed.billed p g) (Costed.bad_rates q h) = absurd (clash g h)
  costed_unique (Costed.billed p g) (Costed.billed q h) = (refl, refl, refl)

  -- where the judge answers there is an answer
  pub costed_exists : {n : ℕ} → Judged b l n 0 → (m : ℕ) × (c : ℕ) × (x : ℕ) × Costed b l r m c x
  costed_exists {n} j =
      dite (ℕ_discrete n 0) (λ z. accepted (subst (λ (k : ℕ). Judged b l k 0) z j)) (λ g. (_, _, _, Costed.refused n j g))
    where
      accepted : Judged b l 0 0 → (m : ℕ) × (c : ℕ) × (x : ℕ) × Costed b l r m c x
      accepted k =
          ⊎_elim (λ h. (_, _, _, Costed.billed k h)) (λ h. (_, _, _, Costed.bad_rates k h)) (decided (rates_ok r (sheet_of b).jobs))

  -- ---- 0

  pub billed : {c x : ℕ} → Costed b l r 0 c x → Billed b l r c x
  billed a = go a refl
    where
      go : {n c x : ℕ} → Costed b l r n c x → n ≡ 0 → Billed b l r c x
      go (Costed.refused n j g) q = absurd (g q)
      go (Costed.bad_rates j g) q = absurd (omega arith)
      go (Costed.billed j g) q = record { accepted = j; rates = g; cents = refl; sixtieths = refl }

  pub billed_iff : {c x : ℕ} → Costed b l r 0 c x ↔ Billed b l r c x
  billed_iff = (billed, λ p. rw (p.cents, p.sixtieths) (Costed.billed p.accepted p.rates))

  pub exact_sum : {c x : ℕ} → Costed b l r 0 c x → (60 * c + x ≡ sum_in b l r) × (x < 60)
  unfolding hour
  exact_sum a = let p = billed a in (omega arith, omega arith)

  pub refused_zero : {n c x : ℕ} → Costed b l r n c x → n ≢ 0 → (c ≡ 0) × (x ≡ 0)
  refused_zero (Costed.refused n j g) h = (refl, refl)
  refused_zero (Costed.bad_rates j g) h = (refl, refl)
  refused_zero (Costed.billed j g) h = absurd (h refl)

-- ---- refusals

-- the test of the rates is the rule: one for each of n jobs, none above 1,000,000
pub rates_iff : (r : List ℕ) (n : ℕ) → rates_ok r n ≡ true ↔ ((length r ≡ n) × ((j : ℕ) → j < n → get_or r j 0 ≤ 1000000))
unfolding rates_ok max_rate
rates_iff r n = (one_each_get 1000000 r n, λ (each, low). sym (one_each_put 1000000 r n each low))

-- the judge never answers 51
pub judged_other : {b l : List ℕ} {n d : ℕ} → Judged b l n d → n ≢ 51
judged_other j q = ⊎_elim (λ l. omega arith) (⊎_elim (λ e. omega arith) (λ e. omega arith)) (judged_numbers j)

module _ {b l r : List ℕ} where
  pub refused_iff : {n : ℕ} → n ≢ 0 → n ≢ 51 → Costed b l r n 0 0 ↔ Judged b l n 0
  refused_iff {n} some other = (λ a. go a some other, λ j. Costed.refused n j some)
    where
      go : {n c x : ℕ} → Costed b l r n c x → n ≢ 0 → n ≢ 51 → Judged b l n 0
      go (Costed.refused n j g) h k = j
      go (Costed.bad_rates j g) h k = absurd (k refl)
      go (Costed.billed j g) h k = absurd (h refl)

  pub rates_refused : Costed b l r 51 0 0 ↔ (Judged b l 0 0 × (rates_ok r (sheet_of b).jobs ≡ false))
  rates_refused = (λ a. go a refl, λ p. Costed.bad_rates p.0 p.1)
    where
      go : {n c x : ℕ} → Costed b l r n c x → n ≡ 51 → Judged b l 0 0 × (rates_ok r (sheet_of b).jobs ≡ false)
      go (Costed.refused n j g) q = absurd (judged_other j q)
      go (Costed.bad_rates j g) q = (j, g)
      go (Costed.billed j g) q = absurd (omega arith)

-- ---- the most

pub rate_most : (r : List ℕ) (n j : ℕ) → rates_ok r n ≡ true → j < n → get_or r j 0 ≤ max_rate
unfolding max_rate
rate_most r n j h l = ((rates_iff r n).0 h).1 j l

-- an instance takes at most H minutes
pub minutes_most : {s : Sheet} {p : Plan} → IsPlan s p → (i : ℕ) → i < p.count → minutes s p i ≤ s.horizon
unfolding latest
minutes_most {s} {p} plan i l = go (minutes_lasts s p i)
  where
    go : {m : ℕ} → Lasts s p i m → m ≤ s.horizon
    go (no_event g) = omega arith
    go (from_to d e m x y low high q) = omega (arith, q, (plan.own i l).late e y.in_sheet y.of_job)

pub most_sum
    : {s : Sheet} {p : Plan} (r : List ℕ) → IsPlan s p → rates_ok r s.jobs ≡ true → sum_of s p r ≤ p.count * (s.horizon * max_rate)
unfolding sum_of
most_sum {s} {p} r plan ok =
    sum_most _ (s.horizon * max_rate) p.count
    (λ i l. mul-le-mul (minutes_most plan i l) (rate_most r s.jobs (p.job i) ok (plan.jobs i l)))

-- 64 instances of 10,080 minutes at 1,000,000 cents an hour
pub most_cents : {b l r : List ℕ} {c x : ℕ} → Costed b l r 0 c x → c ≤ 10752000000
unfolding max_instances max_horizon max_rate hour plan_of
most_cents {b} {l} {r} a =
    let p = billed a in
    let (h, k, plan) = accepted p.accepted in
    let few = (list_formed (sheet_of b) l k).few in
    let long = (formed (sheet_of b) (well_formed_lem b h)).horizon in
    let most = mul-le-mul few (mul-le-mul_right max_rate long) in
    omega (arith, p.cents, most_sum r plan p.rates)
