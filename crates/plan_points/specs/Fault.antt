-- What the tick at which a need goes wrong means.
use Rattle.std.specs.Prelude.{ℕ, ◌+◌, ◌≤◌, ◌<◌, ◌≡◌, ◌⊎◌, Bool, true, false, List, eqb}
use native.Mathlib.Omega.{arith}
use Rattle.std.proofs.Math.Decide.{dec_le}
use Rattle.std.proofs.Math.Path.{refl}
use Rattle.std.proofs.Math.Logic.{inl, inr, dite}
use Rattle.std.proofs.Common.{eqb-true}
use Rattle.std.proofs.lemmas.Bool.{eqb-false}
use Rattle.rules.specs.Sheet.{sets, clears}
use Rattle.laws.specs.Test.{Says}
use Rattle.plan_points.specs.Flat.{
  cell,
  group_of,
  EveryIn,
  entry_at,
  tick_at,
  Harm,
  Source,
  Unharmed,
  ServedBy,
  never,
  FirstHarm,
  SourceOf,
  FirstHarmOf,
  FaultOf,
}
use Rattle.plan_points.specs.declared.Need.{Need}

-- a source with no clear from the first tick after it up to the need's begin
pub record UnclearedBy (firsts rows : List ℕ) (n : Need) (initial : Bool) : Type 0 where
  pub after : ℕ
  pub source : SourceOf firsts rows n initial after
  pub uncleared
      : EveryIn (λ r. after ≤ tick_at rows r → n.from ≤ tick_at rows r) (cell firsts (group_of clears n.fact))
      (cell firsts (group_of clears n.fact + 1))

-- the two ways in which a need goes wrong at tick t
pub data NeedFault (firsts rows : List ℕ) (n : Need) (initial : Bool) : ℕ → Type 0 where
  unserved : (UnclearedBy firsts rows n initial → ⊥) → NeedFault firsts rows n initial n.from
  breaks
      : (r : ℕ)
      → cell firsts (group_of clears n.fact) ≤ r
      → r < cell firsts (group_of clears n.fact + 1)
      → Harm n n.from (entry_at rows r) (tick_at rows r)
      → NeedFault firsts rows n initial (tick_at rows r)

-- a set and a clear of the need's fact at tick t
abbrev pub BothAt : (firsts rows : List ℕ) → Need → ℕ → Type 0
BothAt firsts rows n t =
    (q : ℕ)
    × (cell firsts (group_of sets n.fact) ≤ q)
    × (q < cell firsts (group_of sets n.fact + 1))
    × (tick_at rows q ≡ t)
    × (c : ℕ)
    × (cell firsts (group_of clears n.fact) ≤ c)
    × (c < cell firsts (group_of clears n.fact + 1))
    × (tick_at rows c ≡ t)

module _ (firsts rows : List ℕ) (n : Need) (initial : Bool) where
  abbrev EveryClear : (ℕ → Type 0) → Type 0
  EveryClear P = EveryIn P (cell firsts (group_of clears n.fact)) (cell firsts (group_of clears n.fact + 1))

  -- ---- the tick is never exactly if point 3 holds

  -- a clear that harms after the latest source harms after every source
  harmed
      : {after t : ℕ}
      → ((a : ℕ) → SourceOf firsts rows n initial a → a ≤ after)
      → FirstHarmOf firsts rows n after t
      → (t ≡ never → ⊥)
      → ServedBy firsts rows n initial
      → ⊥
  unfolding Unharmed EveryIn
  harmed top (FirstHarm.none u) some v = some refl
  harmed top (FirstHarm.harm q l m h all) some v =
      v.unharmed q l m (record { late = omega (arith, h.late, top v.after v.source); early = h.early })

  never_served : {r : ℕ} → n.from < never → FaultOf firsts rows n initial r → r ≡ never → ServedBy firsts rows n initial
  never_served soon (FaultOf.unsourced h) e = absurd (omega arith)
  never_served soon (FaultOf.early after t s top f l) e = absurd (omega arith)
  never_served soon (FaultOf.late after t s top (FirstHarm.none u) l) e = record { after = after; source = s; unharmed = u }
  never_served soon (FaultOf.late after t s top (FirstHarm.harm q a b h all) l) e = absurd (omega arith)

  not_served : {r : ℕ} → n.from < never → FaultOf firsts rows n initial r → (r ≡ never → ⊥) → ServedBy firsts rows n initial → ⊥
  not_served soon (FaultOf.unsourced h) some v = h v.after v.source
  not_served soon (FaultOf.early after t s top f l) some v = harmed top f (λ e. omega arith) v
  not_served soon (FaultOf.late after t s top f l) some v = harmed top f some v

  pub fault_says : (r : ℕ) → n.from < never → FaultOf firsts rows n initial r → Says (ServedBy firsts rows n initial) (eqb r never)
  fault_says r soon f = go (eqb r never) refl
    where
      go : (b : Bool) → eqb r never ≡ b → Says (ServedBy firsts rows n initial) b
      go true e = never_served soon f (eqb-true r never e)
      go false e = not_served soon f (eqb-false r never e)

  -- ---- no fault is earlier

  not_before : {t : ℕ} → NeedFault firsts rows n initial t → n.from ≤ t
  not_before (NeedFault.unserved h) = omega arith
  not_before (NeedFault.breaks c l m h) = h.late

  first_least
      : {after t : ℕ}
      → FirstHarmOf firsts rows n after t
      → EveryClear (λ c. Harm n after (entry_at rows c) (tick_at rows c) → t ≤ tick_at rows c)
  unfolding Unharmed EveryIn
  first_least (FirstHarm.none u) c l m h = absurd (u c l m h)
  first_least (FirstHarm.harm q a b k all) c l m h = all c l m h

  module _ (le : n.from ≤ n.to) {after r : ℕ} (s : SourceOf firsts rows n initial after) (f : FirstHarmOf firsts rows n after r) where
    -- a source is not cleared up to the need's begin, if the first clear that harms after it comes later
    late_uncleared : n.from < r → UnclearedBy firsts rows n initial
    unfolding EveryIn
    late_uncleared l =
        record {
          after = after;
          source = s;
          uncleared =
              λ c a b m.
              dite (dec_le n.from (tick_at rows c)) (λ k. k)
              (λ k. absurd (omega (arith, first_least f c a b (record { late = m; early = omega arith }))));
        }

    late_first : {t : ℕ} → NeedFault firsts rows n initial t → (r ≤ t) ⊎ BothAt firsts rows n t
    unfolding EveryIn
    late_first (NeedFault.unserved h) =
        dite (dec_le r n.from) inl (λ k. absurd (h (late_uncleared (omega arith))))
    late_first (NeedFault.breaks c a b h) = dite (dec_le after (tick_at rows c))
        (λ k. inl (first_least f c a b (record { late = k; early = h.early }))) (λ k. inr (both s (omega arith)))
      where
        both : {x : ℕ} → SourceOf firsts rows n initial x → tick_at rows c < x → BothAt firsts rows n (tick_at rows c)
        both (Source.first e) m = absurd (omega arith)
        both (Source.set q x y serves) m = (q, x, y, omega (arith, serves, h.late), c, a, b, refl)

module _ {firsts rows : List ℕ} {n : Need} {initial : Bool} where
  -- the tick is one at which the need goes wrong
  pub fault_sound : {r : ℕ} → FaultOf firsts rows n initial r → r < never → n.from ≤ n.to → NeedFault firsts rows n initial r
  unfolding EveryIn
  fault_sound (FaultOf.unsourced h) some le = NeedFault.unserved (λ v. h v.after v.source)
  fault_sound (FaultOf.early after t s top (FirstHarm.none u) l) some le = absurd (omega arith)
  fault_sound (FaultOf.early after t s top (FirstHarm.harm q a b h all) l) some le =
      NeedFault.unserved
      (λ v. omega (arith, v.uncleared q a b (omega (arith, h.late, top v.after v.source))))
  fault_sound (FaultOf.late after t s top (FirstHarm.none u) l) some le = absurd (omega arith)
  fault_sound (FaultOf.late after t s top (FirstHarm.harm q a b h all) l) some le =
      NeedFault.breaks q a b (record { late = l; early = h.early })

  -- and no later than any other, but that a set may stand at the tick of that one's clear
  pub fault_first
      : {r : ℕ}
      → FaultOf firsts rows n initial r
      → n.from ≤ n.to
      → (t : ℕ)
      → NeedFault firsts rows n initial t
      → (r ≤ t) ⊎ BothAt firsts rows n t
  fault_first (FaultOf.unsourced h) le t x = inl (not_before firsts rows n initial x)
  fault_first (FaultOf.early after u s top f l) le t x = inl (not_before firsts rows n initial x)
  fault_first (FaultOf.late after u s top f l) le t x = late_first firsts rows n initial le s f x
