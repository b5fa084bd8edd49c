-- Soundness of both orders: what is shown of a sheet holds in every plan of it, of any length.
use Prim.Native.Nat.{ℕ, suc, ◌+◌, ◌≤◌, ◌<◌}
use Rattle.std.specs.Prelude.{◌≡◌}
use Rattle.std.proofs.Math.Path.{refl}
use native.Mathlib.Omega.{arith}
use Rattle.rules.specs.Sheet.{Sheet, begins, ends, sets, clears}
use Rattle.rules.specs.RunList.{Plan}
use Rattle.rules.specs.Plan.{Is, Occurs, Served, IsPlan, distance}
use Rattle.rules.specs.Wanted.{OfPresent, WantedJob}
use Rattle.rules.specs.Order.{AtMost, ClearedLast, shown, Guard, guard, ClearedFirst}
use Rattle.laws.specs.Formed.{Formed}
use Rattle.laws.specs.Events.{begin_of}
use Rattle.laws.specs.Present.{of_instance}
use Rattle.theory.specs.Why.Distance.{occurs}

-- ---- induction on how the order was shown

module _ {s : Sheet} (P : ℕ → Type 0) (Q : (i v a y : ℕ) → Type 0)
    (shows : (f : ℕ) → ((i v a y : ℕ) → OfPresent s v i sets f → Is s y a clears f → WantedJob s a → Q i v a y) → P f)
    (guards : (i v a y p u x : ℕ) → P p → Is s u i ends p → Is s x a clears p → AtMost s a x y i u v → Q i v a y)
  where
    pub last_ind : {f : ℕ} → ClearedLast s f → P f
    last_ind {f} c =
        elim c as (λ g d. P g) (λ i v a y d. Q i v a y) [
          | shown {f = g} (all → ih) ↦ shows g ih
          | guard {i = i} {v = v} {a = a} {y = y} p u x (l → ih) e c m ↦ guards i v a y p u x ih e c m
        ]

    pub guard_ind : {i v a y : ℕ} → Guard s i v a y → Q i v a y
    guard_ind (guard {i = i} {v = v} {a = a} {y = y} p u x l e c m) = guards i v a y p u x (last_ind l) e c m

-- ---- in a plan

-- every set of f, by any job, is before every clear of f by a wanted job
unfoldable pub SetsFirst : Sheet → Plan → ℕ → Type 0
SetsFirst s p f =
    (i v k y : ℕ) → Occurs s p i v sets f → Occurs s p k y clears f → WantedJob s (p.job k) → p.time i v < p.time k y

-- every need of f, by any job, ends before every clear of f by a wanted job; of the same instance: not after
unfoldable pub NeedsFirst : Sheet → Plan → ℕ → Type 0
NeedsFirst s p f =
    (i u k x : ℕ)
    → Occurs s p i u ends f
    → Occurs s p k x clears f
    → WantedJob s (p.job k)
    → p.time i u + distance s i k ≤ p.time k x

-- every clear of f is before every set of f, among wanted jobs
unfoldable pub ClearsFirst : Sheet → Plan → ℕ → Type 0
ClearsFirst s p f =
    (i v k y : ℕ)
    → Occurs s p i v sets f
    → WantedJob s (p.job i)
    → Occurs s p k y clears f
    → WantedJob s (p.job k)
    → p.time k y < p.time i v

-- event v of job i is not after event y of the wanted job a
unfoldable pub NotAfter : Sheet → Plan → (i v a y : ℕ) → Type 0
NotAfter s p i v a y =
    (m k : ℕ)
    → m < p.count
    → p.job m ≡ i
    → k < p.count
    → p.job k ≡ a
    → WantedJob s a
    → p.time m v ≤ p.time k y

module _ {s : Sheet} (ok : Formed s) {p : Plan} (plan : IsPlan s p) where
  pub needs_first : (f : ℕ) → SetsFirst s p f → NeedsFirst s p f
  unfolding SetsFirst NeedsFirst
  needs_first f before i u k x need clear wanted = go (plan.served i begin.0 u f begun need)
    where
      begin : (b : ℕ) × (u ≡ suc b) × Is s b (p.job i) begins f
      begin = begin_of s ok u (p.job i) f need.is

      begun : Occurs s p i begin.0 begins f
      begun = record { in_plan = need.in_plan; is = begin.2 }

      go : {b : ℕ} → Served s p i f b (p.time i u) → p.time i u + distance s i k ≤ p.time k x
      go (Served.by_initial q safe) = safe k x clear
      go (Served.by_set m d set first safe) = safe k x clear (before m d k x set clear wanted)

  -- a guard's need ends before its clear, so the event that it guards is not after the other
  guarded
      : (i v a y f u x : ℕ)
      → SetsFirst s p f
      → Is s u i ends f
      → Is s x a clears f
      → AtMost s a x y i u v
      → NotAfter s p i v a y
  unfolding NotAfter AtMost NeedsFirst
  guarded i v a y f u x before need clear most m k mIn mOf kIn k_of wanted =
      let fits = most (p.time k) (p.time m) (rw k_of at (plan.own k kIn)) (rw mOf at (plan.own m mIn)) in
      omega (arith, needs_first f before m u k x (occurs mIn mOf need) (occurs kIn k_of clear) (rw k_of wanted))

  -- point 2 makes not after before
  all_guarded
      : (f : ℕ)
      → ((i v a y : ℕ) → OfPresent s v i sets f → Is s y a clears f → WantedJob s a → NotAfter s p i v a y)
      → SetsFirst s p f
  unfolding SetsFirst NotAfter
  all_guarded f all i v k y set clear wanted =
      let apart = plan.apart i v k y f set clear in
      let le = all (p.job i) v (p.job k) y (of_instance plan set) clear.is wanted i k set.in_plan refl clear.in_plan refl wanted in
      omega arith

  pub cleared_last : {f : ℕ} → ClearedLast s f → SetsFirst s p f
  cleared_last = last_ind (SetsFirst s p) (NotAfter s p) all_guarded guarded

  pub cleared_first : (f : ℕ) → ClearedFirst s f → ClearsFirst s p f
  unfolding ClearedFirst ClearsFirst NotAfter
  cleared_first f all i v k y set wantedSet clear wantedClear =
      let apart = plan.apart i v k y f set clear in
      let g = all (p.job i) v (p.job k) y set.is wantedSet clear.is wantedClear in
      let le = guard_ind (SetsFirst s p) (NotAfter s p) all_guarded guarded g k i clear.in_plan refl set.in_plan refl wantedSet in
      omega arith
