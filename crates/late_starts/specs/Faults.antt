-- A plan is a list without fault, in time, with its goals held.
use Rattle.std.specs.Prelude.{ℕ, suc, ◌+◌, ◌≤◌, ◌<◌, ◌≡◌, refl, ◌↔◌, Bool, true, false}
use Rattle.std.proofs.Common.{arith}
use Rattle.std.proofs.Math.Decide.{dec_le, dec_lt, ℕ_discrete, map_dec}
use Rattle.std.proofs.Math.Logic.{dite}
use Rattle.std.proofs.Math.Logic.Dec.{and as dec_and}
use Rattle.rules.specs.Sheet.{Sheet, initial, goal, begins, ends, sets, clears}
use Rattle.rules.specs.RunList.{Plan}
use Rattle.rules.specs.Plan.{Occurs, Served, Held, IsPlan, distance}
use Rattle.rules.specs.Late.{Uncleared, Fault, meets, unserved, breaks}
use Rattle.laws.specs.Bools.{clash}
use Rattle.laws.specs.Formed.{Formed}
use Rattle.laws.specs.Events.{end_of}
use Rattle.theory.specs.Why.Places.{some_dec, all_dec}
use Rattle.theory.specs.Why.Alone.{if_dec}
use Rattle.late_starts.specs.Delays.{InTime, ButLate, own_iff}

-- no fault at any tick, no time above H, and point 4
pub record Faultless (s : Sheet) (p : Plan) : Type 0 where
  pub none : (t : ℕ) → Fault s p t → ⊥
  pub in_time : InTime s p
  pub held : (f : ℕ) → f < s.facts → goal s f ≡ true → Held s p f

-- point 2: no set meets a clear
abbrev pub Apart : Sheet → Plan → Type 0
Apart s p = (i e k d f : ℕ) → Occurs s p i e sets f → Occurs s p k d clears f → p.time i e ≡ p.time k d → ⊥

-- no clear from a need's begin at b on harms it
abbrev pub Unharmed : Sheet → Plan → (i f b e : ℕ) → Type 0
Unharmed s p i f b e = (k d : ℕ) → Occurs s p k d clears f → b ≤ p.time k d → e + distance s i k ≤ p.time k d

module _ {s : Sheet} {p : Plan} where
  -- a fault's tick is that of an event
  pub fault_event
      : {t : ℕ}
      → Fault s p t
      → (i : ℕ) × (e : ℕ) × (i < p.count) × (e < s.events) × ((s.event e).job ≡ p.job i) × (t ≡ p.time i e)
  fault_event (meets i e k d f a b q) = (k, d, b.in_plan, b.is.in_sheet, b.is.of_job, refl)
  fault_event (unserved i b f a g) = (i, b, a.in_plan, a.is.in_sheet, a.is.of_job, refl)
  fault_event (breaks i b e f k d a o c l m) = (k, d, c.in_plan, c.is.in_sheet, c.is.of_job, refl)

  -- ---- point 3

  served_clear : Apart s p → (i f b e : ℕ) → b ≤ e → Served s p i f b e → Uncleared s p i f b × Unharmed s p i f b e
  served_clear away i f b e le (Served.by_initial q h) =
      (Uncleared.by_initial q (λ k d c. omega (arith, h k d c)), λ k d c l. h k d c)
  served_clear away i f b e le (Served.by_set k d o l h) = (
    Uncleared.by_set k d o l (λ m c oc lt. omega (arith, h m c oc lt)),
    λ m c oc lb.
        dite (dec_lt (p.time k d) (p.time m c)) (λ lt. h m c oc lt)
        (λ g. absurd (away k d m c f o oc (omega arith))),
  )

  clear_served : (i f b e : ℕ) → Uncleared s p i f b → Unharmed s p i f b e → Served s p i f b e
  clear_served i f b e (Uncleared.by_initial q h) u = Served.by_initial q (λ k d c. u k d c (h k d c))
  clear_served i f b e (Uncleared.by_set k d o l h) u = Served.by_set k d o l (λ m c oc lt. u m c oc (h m c oc lt))

  -- of a plan without fault (A), point 3 holds of a need exactly if neither (B) nor (C) does
  pub need_iff
      : Apart s p
      → (i b e f : ℕ)
      → Occurs s p i b begins f
      → Occurs s p i e ends f
      → p.time i b ≤ p.time i e
      → Served s p i f (p.time i b) (p.time i e) ↔ (Uncleared s p i f (p.time i b) × Unharmed s p i f (p.time i b) (p.time i e))
  need_iff away i b e f begin end le = (
    served_clear away i f (p.time i b) (p.time i e) le,
    λ r. clear_served i f (p.time i b) (p.time i e) r.0 r.1,
  )

  -- a need of a plan has a source uncleared, and no clear harms it
  pub met
      : IsPlan s p
      → (i b e f : ℕ)
      → Occurs s p i b begins f
      → Occurs s p i e ends f
      → Uncleared s p i f (p.time i b) × Unharmed s p i f (p.time i b) (p.time i e)
  met plan i b e f o z =
      (need_iff plan.apart i b e f o z ((plan.own i o.in_plan).needs b e f o.is z.is)).0 (plan.served i b e f o z)

-- ---- the search for a source

true_dec : (t : Bool) → Dec (t ≡ true)
true_dec true = yes refl
true_dec false = no (λ q. clash q refl)

module _ (s : Sheet) (p : Plan) where
  pub occurs_dec : (i e kind f : ℕ) → Dec (Occurs s p i e kind f)
  occurs_dec i e kind f =
      map_dec
      (λ h. record { in_plan = h.0.0; is = record { in_sheet = h.0.1; of_job = h.1.0; of_kind = h.1.1.0; of_fact = h.1.1.1 } })
      (λ o. ((o.in_plan, o.is.in_sheet), (o.is.of_job, (o.is.of_kind, o.is.of_fact))))
      (dec_and (dec_and (dec_lt i p.count) (dec_lt e s.events))
      (dec_and (ℕ_discrete (s.event e).job (p.job i)) (dec_and (ℕ_discrete (s.event e).kind kind) (ℕ_discrete (s.event e).fact f))))

  -- some, all occurrences of a type and fact have a decided property
  pub some_occurs
      : (kind f : ℕ) {P : ℕ → ℕ → Type 0}
      → ((i e : ℕ) → Dec (P i e))
      → Dec ((i : ℕ) × (e : ℕ) × Occurs s p i e kind f × P i e)
  some_occurs kind f dec =
      map_dec (λ r. (r.0, r.2.0, r.2.2.0, r.2.2.1)) (λ r. (r.0, r.2.in_plan, (r.1, r.2.is.in_sheet, (r.2, r.3))))
      (some_dec (λ i. some_dec (λ e. dec_and (occurs_dec i e kind f) (dec i e)) s.events) p.count)

  pub all_occur
      : (kind f : ℕ) {P : ℕ → ℕ → Type 0}
      → ((i e : ℕ) → Dec (P i e))
      → Dec ((i e : ℕ) → Occurs s p i e kind f → P i e)
  all_occur kind f dec =
      map_dec (λ all i e o. all i o.in_plan e o.is.in_sheet o) (λ all i iIn e eIn o. all i e o)
      (all_dec (λ i. all_dec (λ e. if_dec (occurs_dec i e kind f) (λ o. dec i e)) s.events) p.count)

  -- the initial mark, and a set, as sources uncleared before tick b
  abbrev FromInitial : (f b : ℕ) → Type 0
  FromInitial f b = (initial s f ≡ true) × ((k d : ℕ) → Occurs s p k d clears f → b ≤ p.time k d)

  abbrev Kept : (f b t : ℕ) → Type 0
  Kept f b t = (l c : ℕ) → Occurs s p l c clears f → t < p.time l c → b ≤ p.time l c

  abbrev FromSet : (i f b : ℕ) → Type 0
  FromSet i f b = (k : ℕ) × (d : ℕ) × Occurs s p k d sets f × ((p.time k d + distance s k i ≤ b) × Kept f b (p.time k d))

  kept_dec : (f b t : ℕ) → Dec (Kept f b t)
  kept_dec f b t = all_occur clears f (λ l c. if_dec (dec_lt t (p.time l c)) (λ lt. dec_le b (p.time l c)))

  -- whether a need has a source uncleared before its begin is decided
  pub uncleared_decided : (i f b : ℕ) → Dec (Uncleared s p i f b)
  uncleared_decided i f b =
      dite
      (dec_and (true_dec (initial s f)) (all_occur clears f (λ k d. dec_le b (p.time k d))))
      (λ r. yes (Uncleared.by_initial r.0 r.1))
      (λ g.
      dite
      (some_occurs sets f (λ k d. dec_and (dec_le (p.time k d + distance s k i) b) (kept_dec f b (p.time k d))))
      (λ r. yes (Uncleared.by_set r.0 r.1 r.2 r.3.0 r.3.1))
      (λ h. no (neither g h)))
    where
      neither : (FromInitial f b → ⊥) → (FromSet i f b → ⊥) → Uncleared s p i f b → ⊥
      neither g h (Uncleared.by_initial q all) = g (q, all)
      neither g h (Uncleared.by_set k d o l all) = h (k, d, o, (l, all))

-- ---- plans

module _ {s : Sheet} {p : Plan} (ok : Formed s) where
  pub fault_no_plan : {t : ℕ} → Fault s p t → IsPlan s p → ⊥
  fault_no_plan (meets i e k d f a c q) plan = plan.apart i e k d f a c q
  fault_no_plan (unserved i b f o g) plan =
      g (met plan i b (suc b) f o (record { in_plan = o.in_plan; is = end_of s ok b (p.job i) f o.is })).0
  fault_no_plan (breaks i b e f k d o z c l m) plan = omega (arith, (met plan i b e f o z).1 k d c l)

  -- a plan is one without fault, in time, with its goals held
  pub plan_iff : ButLate s p → IsPlan s p ↔ Faultless s p
  plan_iff but = (
    λ plan.
        record {
          none = λ t x. fault_no_plan x plan;
          in_time = record { in_time = λ i e l m q. (plan.own i l).late e m q };
          held = plan.held;
        },
    λ r.
        record {
          jobs = but.jobs;
          own = λ i l. (own_iff s (p.job i) (p.time i)).1 (but.own i l, λ e. r.in_time.in_time i e l);
          apart = λ i e k d f a c q. r.none _ (meets i e k d f a c q);
          served = λ i b e f o z.
              clear_served i f (p.time i b) (p.time i e)
              (dite (uncleared_decided s p i f (p.time i b)) (λ u. u) (λ g. absurd (r.none _ (unserved i b f o g))))
              (λ k d c l.
              dite (dec_le (p.time i e + distance s i k) (p.time k d)) (λ h. h)
              (λ g. absurd (r.none _ (breaks i b e f k d o z c l (omega arith)))));
          held = r.held;
        },
  )
