-- The answers of late, fresh and moved leave no choice; and what they say of the given list and of the delayed one.
use Rattle.std.specs.Prelude.{ℕ, zero, suc, ◌+◌, ◌/◌, ◌%◌, ◌^◌, ◌≤◌, ◌<◌, ◌≡◌, refl, ◌≢◌, ◌↔◌, ◌⊎◌, true, false, List, eqb}
use Rattle.std.proofs.Common.{arith, mod-eq_of_lt, one-add, ◌∙◌, subst, inl, inr, ⊎_elim}
use Rattle.std.proofs.Math.Decide.{ℕ_discrete}
use Rattle.std.proofs.Math.Path.{sym, ap}
use Rattle.std.proofs.Math.Logic.{dite}
use Rattle.std.proofs.Math.ListN.{get_or}
use Rattle.std.proofs.lemmas.Nat.{mod-pow-add}
use Rattle.std.proofs.lemmas.Bool.{eqb-false}
use Rattle.rules.specs.Count.{None, Lowest}
use Rattle.rules.specs.Sheet.{Sheet, sheet_of, edition, gap_byte, gap_ticks, ends}
use Rattle.rules.specs.RunList.{Plan, instances, list_ok, plan_of}
use Rattle.rules.specs.Plan.{Occurs, IsPlan, gap}
use Rattle.rules.specs.Answer.{Judged}
use Rattle.rules.specs.Late.{
  delays_ok,
  delayed,
  delayed_of,
  Uncleared,
  Fault,
  meets,
  unserved,
  breaks,
  Tried,
  Late,
  Run,
  On,
  Bits,
  HeldAfter,
  Fresh,
  Moved,
}
use Rattle.laws.specs.Bools.{clash, decided}
use Rattle.laws.specs.Places.{lowest_one}
use Rattle.laws.specs.Formed.{Formed, formed}
use Rattle.laws.specs.Events.{end_of}
use Rattle.laws.specs.Distance.{distance_other}
use Rattle.theory.specs.Why.Unique.{judged_unique}
use Rattle.theory.specs.Why.Same.{SameRun}
use Rattle.laws.specs.Faults.{well_formed_lem}
use Rattle.theory.specs.Why.Answers.{accepted}
use Rattle.late_starts.specs.Faults.{met}
use Rattle.late_starts.specs.Same.{plan_same_iff}

-- ---- bits

-- one bit
bit_one : (h k f : ℕ) → On h f ↔ On k f → h / 2 ^ f % 2 ≡ k / 2 ^ f % 2
unfolding On
bit_one h k f same = go (h / 2 ^ f) (k / 2 ^ f) same
  where
    go : (x y : ℕ) → (x % 2 ≡ 1) ↔ (y % 2 ≡ 1) → x % 2 ≡ y % 2
    go x y e =
        dite (ℕ_discrete (x % 2) 1) (λ q. q ∙ sym (e.0 q))
        (λ g. dite (ℕ_discrete (y % 2) 1) (λ q. absurd (g (e.1 q))) (λ z. omega arith))

-- the low n bits
low_bits : (h k n : ℕ) → ((f : ℕ) → f < n → On h f ↔ On k f) → h % 2 ^ n ≡ k % 2 ^ n
low_bits h k zero same = omega arith
low_bits h k (suc n) same =
    ap (λ (x : ℕ). h % 2 ^ x) (sym (one-add n)) ∙ mod-pow-add h 1 n
    ∙ rw (bit_one h k n (same n (omega arith)), low_bits h k n (λ f l. same f (omega arith))) refl
    ∙ sym (mod-pow-add k 1 n) ∙ ap (λ (x : ℕ). k % 2 ^ x) (one-add n)

-- two numbers with the same 64 bits are equal
pub bits_one : {P : ℕ → Type 0} {h k : ℕ} → Bits h P → Bits k P → h ≡ k
bits_one {P} {h} {k} x y =
    sym (mod-eq_of_lt x.fits)
    ∙ low_bits h k 64 (λ f l. (λ q. (y.bits f l).1 ((x.bits f l).0 q), λ q. (x.bits f l).1 ((y.bits f l).0 q)))
    ∙ mod-eq_of_lt y.fits

-- ---- the cases of an answer

-- the sheet of a list that is tried is well formed
pub tried_formed : {b l d : List ℕ} → Tried b l d → Formed (sheet_of b)
tried_formed {b} t = formed (sheet_of b) (well_formed_lem b (accepted t.accepted).0)

-- the judge refuses the list, or it accepts it and the delays are refused
pub data Refusal (b l d : List ℕ) (n : ℕ) : Type 0 where
  by_judge : Judged b l n 0 → n ≢ 0 → Refusal b l d n
  by_delays : Judged b l 0 0 → delays_ok d (instances l) ≡ false → n ≡ 40 → Refusal b l d n

-- the tick of 41: the lowest that has a fault, or H
pub data FirstFault (b l d : List ℕ) (t : ℕ) : Type 0 where
  first : Lowest (Fault (sheet_of b) (delayed_of b l d)) ((sheet_of b).horizon + 1) t → FirstFault b l d t
  at_end : None (Fault (sheet_of b) (delayed_of b l d)) ((sheet_of b).horizon + 1) → t ≡ (sheet_of b).horizon → FirstFault b l d t

pub data Found (b l d : List ℕ) (n t : ℕ) : Type 0 where
  a_plan : IsPlan (sheet_of b) (delayed_of b l d) → n ≡ 0 → t ≡ 0 → Found b l d n t
  no_plan : (IsPlan (sheet_of b) (delayed_of b l d) → ⊥) → n ≡ 41 → FirstFault b l d t → Found b l d n t

-- what a move does that is not refused
pub data Step (b l d : List ℕ) (r x : Run) : Type 0 where
  over : (sheet_of b).horizon < r.next → x ≡ r → Step b l d r x
  moving
      : (h : ℕ)
      → r.next ≤ (sheet_of b).horizon
      → Bits h (HeldAfter (sheet_of b) (delayed_of b l d) r.next r.held)
      → x ≡ record { next = r.next + 1; held = h }
      → Step b l d r x

module _ {b l d : List ℕ} where
  refusal_one : {n m : ℕ} → Refusal b l d n → Refusal b l d m → n ≡ m
  refusal_one (by_judge p g) (by_judge q h) = (judged_unique p q).0
  refusal_one (by_judge p g) (by_delays q h e) = absurd (g (judged_unique p q).0)
  refusal_one (by_delays p g e) (by_judge q h) = absurd (h (judged_unique q p).0)
  refusal_one (by_delays p g e) (by_delays q h f) = e ∙ sym f

  refusal_untried : {n : ℕ} → Refusal b l d n → Tried b l d → ⊥
  refusal_untried (by_judge p g) t = g (judged_unique p t.accepted).0
  refusal_untried (by_delays p g e) t = clash t.delays g

  pub refusal_number : {n : ℕ} → Refusal b l d n → n ≢ 0
  refusal_number (by_judge p g) = g
  refusal_number (by_delays p g e) = λ q. omega arith

  pub late_cases : {n t : ℕ} → Late b l d n t → (Refusal b l d n × (t ≡ 0)) ⊎ (Tried b l d × Found b l d n t)
  late_cases (Late.refused n j g) = inl (by_judge j g, refl)
  late_cases (Late.bad_delays j g) = inl (by_delays j g refl, refl)
  late_cases (Late.holds a p) = inr (a, a_plan p refl refl)
  late_cases (Late.fault t a g low) = inr (a, no_plan g refl (first low))
  late_cases (Late.no_fault a g none) = inr (a, no_plan g refl (at_end none refl))

  pub moved_cases : {r x : Run} {n : ℕ} → Moved b l d r n x → (Refusal b l d n × (x ≡ r)) ⊎ (Tried b l d × (n ≡ 0) × Step b l d r x)
  moved_cases (Moved.refused n j g) = inl (by_judge j g, refl)
  moved_cases (Moved.bad_delays j g) = inl (by_delays j g refl, refl)
  moved_cases (Moved.stays a lt) = inr (a, refl, over lt refl)
  moved_cases (Moved.moves h a le bits) = inr (a, refl, moving h le bits refl)

  -- ---- no choice

  first_one : {t u : ℕ} → FirstFault b l d t → FirstFault b l d u → t ≡ u
  unfolding None
  first_one (first p) (first q) = lowest_one p q
  first_one (first p) (at_end none q) = absurd (none _ p.below p.has)
  first_one (at_end none p) (first q) = absurd (none _ q.below q.has)
  first_one (at_end none p) (at_end nor q) = p ∙ sym q

  found_one : {n m t u : ℕ} → Found b l d n t → Found b l d m u → (n ≡ m) × (t ≡ u)
  found_one (a_plan p a c) (a_plan q e g) = (a ∙ sym e, c ∙ sym g)
  found_one (a_plan p a c) (no_plan g e y) = absurd (g p)
  found_one (no_plan g a x) (a_plan q e c) = absurd (g q)
  found_one (no_plan g a x) (no_plan h e y) = (a ∙ sym e, first_one x y)

  pub late_unique : {n m t u : ℕ} → Late b l d n t → Late b l d m u → (n ≡ m) × (t ≡ u)
  late_unique {n} {m} {t} {u} x y = go (late_cases x) (late_cases y)
    where
      go
          : (Refusal b l d n × (t ≡ 0)) ⊎ (Tried b l d × Found b l d n t)
          → (Refusal b l d m × (u ≡ 0)) ⊎ (Tried b l d × Found b l d m u)
          → (n ≡ m) × (t ≡ u)
      go (inl p) (inl q) = (refusal_one p.0 q.0, p.1 ∙ sym q.1)
      go (inl p) (inr q) = absurd (refusal_untried p.0 q.0)
      go (inr p) (inl q) = absurd (refusal_untried q.0 p.0)
      go (inr p) (inr q) = found_one p.1 q.1

  step_one : {r x y : Run} → Step b l d r x → Step b l d r y → x ≡ y
  step_one (over p a) (over q c) = a ∙ sym c
  step_one (over p a) (moving h q y c) = absurd (omega arith)
  step_one (moving h p x a) (over q c) = absurd (omega arith)
  step_one {r} (moving h p x a) (moving k q y c) =
      a ∙ ap (λ (z : ℕ). record { next = r.next + 1; held = z }) (bits_one x y) ∙ sym c

  pub moved_unique : {r x y : Run} {n m : ℕ} → Moved b l d r n x → Moved b l d r m y → (n ≡ m) × (x ≡ y)
  moved_unique {r} {x} {y} {n} {m} a c = go (moved_cases a) (moved_cases c)
    where
      go
          : (Refusal b l d n × (x ≡ r)) ⊎ (Tried b l d × (n ≡ 0) × Step b l d r x)
          → (Refusal b l d m × (y ≡ r)) ⊎ (Tried b l d × (m ≡ 0) × Step b l d r y)
          → (n ≡ m) × (x ≡ y)
      go (inl p) (inl q) = (refusal_one p.0 q.0, p.1 ∙ sym q.1)
      go (inl p) (inr q) = absurd (refusal_untried p.0 q.0)
      go (inr p) (inl q) = absurd (refusal_untried q.0 p.0)
      go (inr p) (inr q) = (p.1 ∙ sym q.1, step_one p.2 q.2)

  -- refusals leave both fields
  pub refused_stays : {r x : Run} {n : ℕ} → Moved b l d r n x → n ≢ 0 → x ≡ r
  refused_stays m g = ⊎_elim (λ p. p.1) (λ p. absurd (g p.1)) (moved_cases m)

pub fresh_unique : {b : List ℕ} {old n m h k : ℕ} → Fresh b old n h → Fresh b old m k → (n ≡ m) × (h ≡ k)
fresh_unique (Fresh.bad_sheet g) (Fresh.bad_sheet e) = (refl, refl)
fresh_unique (Fresh.bad_sheet g) (Fresh.fresh k q y) = absurd (g q)
fresh_unique (Fresh.fresh h p x) (Fresh.bad_sheet g) = absurd (g p)
fresh_unique (Fresh.fresh h p x) (Fresh.fresh k q y) = (refl, bits_one x y)

pub refused_keeps : {b : List ℕ} {old n h : ℕ} → Fresh b old n h → n ≢ 0 → h ≡ old
refused_keeps (Fresh.bad_sheet g) e = refl
refused_keeps (Fresh.fresh h p x) e = absurd (e refl)

-- ---- 0

-- late answers 0 exactly if the delayed list is a plan
pub holds_iff : {b l d : List ℕ} {t : ℕ} → Late b l d 0 t ↔ (Tried b l d × IsPlan (sheet_of b) (delayed_of b l d) × (t ≡ 0))
holds_iff {b} {l} {d} {t} = (
  λ x. ⊎_elim (λ p. absurd (refusal_number p.0 refl)) (λ p. go p.0 p.1) (late_cases x),
  λ p. subst (λ (u : ℕ). Late b l d 0 u) (sym p.2) (Late.holds p.0 p.1),
)
  where
    go : Tried b l d → Found b l d 0 t → Tried b l d × IsPlan (sheet_of b) (delayed_of b l d) × (t ≡ 0)
    go a (a_plan p n q) = (a, p, q)
    go a (no_plan g n x) = absurd (omega arith)

-- else 41, with the lowest tick up to H that has a fault, or H
pub fails_at
    : {b l d : List ℕ} {n t : ℕ}
    → Tried b l d
    → (IsPlan (sheet_of b) (delayed_of b l d) → ⊥)
    → Late b l d n t
    → (n ≡ 41) × FirstFault b l d t
fails_at {b} {l} {d} {n} {t} tried broken x =
    ⊎_elim (λ p. absurd (refusal_untried p.0 tried)) (λ p. go p.1) (late_cases x)
  where
    go : Found b l d n t → (n ≡ 41) × FirstFault b l d t
    go (a_plan p a q) = absurd (broken p)
    go (no_plan g a at) = (a, at)

-- list m says the delayed list: as many instances, of the same jobs, each own event at the time of the delayed plan
abbrev pub SaysDelayed : Sheet → (l d m : List ℕ) → Type 0
SaysDelayed s l d m = SameRun s (plan_of s m) (delayed (plan_of s l) d)

-- and so exactly if the judge accepts it in bytes
pub judged_delayed
    : {b l d m : List ℕ}
    → Tried b l d
    → list_ok (sheet_of b) m ≡ true
    → SaysDelayed (sheet_of b) l d m
    → Judged b m 0 0 ↔ Late b l d 0 0
unfolding delayed_of
judged_delayed tried ok same =
    let plan = plan_same_iff (tried_formed tried) same in (
      λ j. Late.holds tried (plan.0 (accepted j).2),
      λ x. Judged.is_plan (accepted tried.accepted).0 ok (plan.1 (holds_iff.0 x).1),
    )

-- ---- detail 0

-- of a gap of a tick or more, a fault at tick 0 was in the given list too
module _ {s : Sheet} {p : Plan} (d : List ℕ) where
  given : {i e k f : ℕ} → Occurs s (delayed p d) i e k f → Occurs s p i e k f
  unfolding delayed
  given o = record { in_plan = o.in_plan; is = o.is }

  late : {i e k f : ℕ} → Occurs s p i e k f → Occurs s (delayed p d) i e k f
  unfolding delayed
  late o = record { in_plan = o.in_plan; is = o.is }

  uncleared_late
      : {i f b t : ℕ} → 1 ≤ gap s → b ≡ 0 → t ≡ 0 → get_or d i 0 ≡ 0 → Uncleared s p i f b → Uncleared s (delayed p d) i f t
  unfolding delayed
  uncleared_late wide z y still (Uncleared.by_initial q h) = Uncleared.by_initial q (λ k c o. omega arith)
  uncleared_late {i} wide z y still (Uncleared.by_set k c o l h) =
      dite (ℕ_discrete k i)
      (λ q. Uncleared.by_set k c (late o) (omega (arith, l, still, ap (λ (x : ℕ). get_or d x 0) q)) (λ m a v w. omega arith))
      (λ g. absurd (omega (arith, distance_other s k i g)))

  pub fault_was : Formed s → 1 ≤ gap s → {t : ℕ} → Fault s (delayed p d) t → t ≡ 0 → IsPlan s p → ⊥
  unfolding delayed
  fault_was ok wide (meets i e k c f x y q) z plan = plan.apart i e k c f (given x) (given y) (omega (arith, q, z))
  fault_was ok wide (unserved i b f x g) z plan =
      let o = given x in
      let end : Occurs s p i (suc b) ends f = record { in_plan = o.in_plan; is = end_of s ok b (p.job i) f o.is } in
      g (uncleared_late wide (omega arith) z (omega arith) (met plan i b (suc b) f o end).0)
  fault_was ok wide (breaks i b e f k c x y w l m) z plan =
      omega (arith, z, l, m, (met plan i b e f (given x) (given y)).1 k c (given w) (omega (arith, l, z)))

-- and a sheet in bytes has such a gap
ticks_wide : (n g : ℕ) → 1 ≤ gap_ticks n g
unfolding gap_ticks
ticks_wide n g =
    ⊎_elim
    (λ q. rw q (⊎_elim (λ z. rw z (omega arith)) (λ z. rw z (omega (arith, eqb-false g 0 z))) (decided (eqb g 0))))
    (λ q. rw q (omega arith))
    (decided (eqb n 2))

gap_wide : (b : List ℕ) → 1 ≤ gap (sheet_of b)
unfolding gap sheet_of
gap_wide b = ticks_wide (edition b) (gap_byte b)

-- 41 with detail 0 means that the given list is no plan, unless H is 0
pub no_detail : {b l d : List ℕ} → Late b l d 41 0 → (sheet_of b).horizon ≢ 0 → Judged b l 41 0
unfolding delayed_of
no_detail {b} {l} {d} x long = ⊎_elim (λ p. ref p.0) (λ p. absurd (found p.0 p.1)) (late_cases x)
  where
    was : Tried b l d → Fault (sheet_of b) (delayed_of b l d) 0 → ⊥
    was a x = fault_was d (tried_formed a) (gap_wide b) x refl (accepted a.accepted).2

    ref : Refusal b l d 41 → Judged b l 41 0
    ref (by_judge j g) = j
    ref (by_delays j g q) = absurd (omega arith)

    found : Tried b l d → Found b l d 41 0 → ⊥
    found a (a_plan p n q) = omega arith
    found a (no_plan g n (first low)) = was a low.has
    found a (no_plan g n (at_end none q)) = long (sym q)
