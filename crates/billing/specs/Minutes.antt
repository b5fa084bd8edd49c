-- The minutes of an instance: from the event that none comes before to the event that none comes after, in time and not in the sheet's order.
use Rattle.std.specs.Prelude.{ℕ, ◌+◌, ◌≤◌, ◌<◌, ◌≡◌, refl, Bool, false, List, eqb}
use Rattle.std.proofs.Common.{arith, sym, ◌∙◌, subst, eqb-true, eq-eqb}
use Rattle.std.proofs.Math.Path.{ap}
use Rattle.std.proofs.Math.Logic.{⊎_elim}
use Rattle.std.proofs.Math.Bool.{true}
use Rattle.rules.specs.Count.{any, sum}
use Rattle.rules.specs.Sheet.{Sheet}
use Rattle.rules.specs.RunList.{Plan}
use Rattle.rules.specs.Cost.{last_tick, first_tick, minutes, sum_of}
use Rattle.laws.specs.Bools.{clash, decided}
use Rattle.laws.specs.Places.{any_get, any_put}
use Rattle.laws.specs.Extremes.{greatest_above, greatest_is, least_below, least_is}
use Rattle.theory.specs.Why.Same.{SameRun}
use Rattle.laws.specs.Sums.{sum_below}

-- event e is one of instance i
pub record Own (s : Sheet) (p : Plan) (i e : ℕ) : Type 0 where
  pub in_sheet : e < s.events
  pub of_job : (s.event e).job ≡ p.job i

-- instance i is billed m minutes: 0 if it has no event, else from an event d to an event e that all its events lie between
pub data Lasts (s : Sheet) (p : Plan) (i : ℕ) : ℕ → Type 0 where
  no_event : ((e : ℕ) → Own s p i e → ⊥) → Lasts s p i 0
  from_to
      : (d e m : ℕ)
      → Own s p i d
      → Own s p i e
      → ((c : ℕ) → Own s p i c → p.time i d ≤ p.time i c)
      → ((c : ℕ) → Own s p i c → p.time i c ≤ p.time i e)
      → p.time i d + m ≡ p.time i e
      → Lasts s p i m

-- ---- one number of minutes, and it is the definition's

module _ {s : Sheet} {p : Plan} {i : ℕ} where
  pub lasts_one : {m n : ℕ} → Lasts s p i m → Lasts s p i n → m ≡ n
  lasts_one (no_event g) (no_event h) = omega arith
  lasts_one (no_event g) (from_to d e n x y low high q) = absurd (g d x)
  lasts_one (from_to d e m x y low high q) (no_event g) = absurd (g d x)
  lasts_one (from_to d e m x y low high q) (from_to a b n u v below above r) =
      omega (arith, low a u, below d x, high b v, above e y)

module _ (s : Sheet) (p : Plan) (i : ℕ) where
  abbrev is_own : ℕ → Bool
  is_own e = eqb (s.event e).job (p.job i)

  own_is : {e : ℕ} → Own s p i e → is_own e ≡ true
  own_is {e} x = eq-eqb (s.event e).job (p.job i) x.of_job

  is_own_lem : {e : ℕ} → e < s.events → is_own e ≡ true → Own s p i e
  is_own_lem {e} l h = record { in_sheet = l; of_job = eqb-true (s.event e).job (p.job i) h }

  -- no event lies after the last tick or before the first, and if there is one, one lies on each
  last_above : (c : ℕ) → Own s p i c → p.time i c ≤ last_tick s p i
  unfolding last_tick
  last_above c x = greatest_above is_own (p.time i) _ s.events c x.in_sheet (own_is x)

  first_below : (c : ℕ) → Own s p i c → first_tick s p i ≤ p.time i c
  unfolding first_tick
  first_below c x = least_below is_own (p.time i) _ s.events c x.in_sheet (own_is x)

  last_event : (c : ℕ) → Own s p i c → (e : ℕ) × Own s p i e × (p.time i e ≡ last_tick s p i)
  unfolding last_tick
  last_event c x =
      ⊎_elim (λ q. (c, x, omega (arith, q, last_above c x))) (λ (e, l, h, q). (e, is_own_lem l h, q))
      (greatest_is is_own (p.time i) _ s.events)

  first_event : (c : ℕ) → Own s p i c → (d : ℕ) × Own s p i d × (p.time i d ≡ first_tick s p i)
  unfolding first_tick
  first_event c x =
      ⊎_elim (λ q. (c, x, omega (arith, q, last_above c x, first_below c x))) (λ (d, l, h, q). (d, is_own_lem l h, q))
      (least_is is_own (p.time i) _ s.events)

  -- and if there is none, the last tick is 0
  no_event_lem : ((e : ℕ) → Own s p i e → ⊥) → last_tick s p i ≡ 0
  unfolding last_tick
  no_event_lem none = ⊎_elim (λ q. q) (λ (e, l, h, q). absurd (none e (is_own_lem l h))) (greatest_is is_own (p.time i) _ s.events)

  pub minutes_lasts : Lasts s p i (minutes s p i)
  unfolding minutes
  minutes_lasts = ⊎_elim some none (decided (any is_own s.events))
    where
      some : any is_own s.events ≡ true → Lasts s p i (minutes s p i)
      some h =
          let (c, l, t) = any_get is_own s.events h in
          let x = is_own_lem l t in
          let (d, own, first) = first_event c x in
          let (e, its, last) = last_event c x in
          from_to d e (minutes s p i) own its
          (λ a y. omega (arith, first, first_below a y))
          (λ a y. omega (arith, last, last_above a y))
          (omega (arith, first, last, last_above d own))

      none : any is_own s.events ≡ false → Lasts s p i (minutes s p i)
      none h =
          let gone : (e : ℕ) → Own s p i e → ⊥ = λ e x. clash (any_put is_own s.events e x.in_sheet (own_is x)) h in
          subst (Lasts s p i) (omega (arith, no_event_lem gone)) (no_event gone)

-- ---- the same run

-- minutes are those of the own events alone, and so is the sum
module _ {s : Sheet} {p q : Plan} (same : SameRun s p q) where
  pub minutes_same : (i : ℕ) → i < p.count → minutes s p i ≡ minutes s q i
  minutes_same i l = lasts_one (minutes_lasts s p i) (go (minutes_lasts s q i))
    where
      to : {e : ℕ} → Own s p i e → Own s q i e
      to x = record { in_sheet = x.in_sheet; of_job = x.of_job ∙ same.job i l }

      from : {e : ℕ} → Own s q i e → Own s p i e
      from x = record { in_sheet = x.in_sheet; of_job = x.of_job ∙ sym (same.job i l) }

      time : {e : ℕ} → Own s p i e → p.time i e ≡ q.time i e
      time {e} x = same.time i e l x.in_sheet x.of_job

      go : {m : ℕ} → Lasts s q i m → Lasts s p i m
      go (no_event g) = no_event (λ e x. g e (to x))
      go (from_to d e m x y low high r) =
          from_to d e m (from x) (from y)
          (λ c z. omega (arith, time (from x), time z, low c (to z)))
          (λ c z. omega (arith, time (from y), time z, high c (to z)))
          (omega (arith, time (from x), time (from y), r))

  pub sum_same : (r : List ℕ) → sum_of s p r ≡ sum_of s q r
  unfolding sum_of
  sum_same r = sum_below _ _ p.count (λ i l. rw (minutes_same i l, same.job i l) refl) ∙ ap (sum _) same.count
