-- Request N3, "trying late starts": the delayed plan, the tick at which it first goes wrong, and the run state, moved on by one tick.
use Rattle.std.specs.Prelude.{ℕ, ◌+◌, ◌/◌, ◌%◌, ◌^◌, ◌≤◌, ◌<◌, ◌≡◌, ◌≢◌, ◌↔◌, ◌⊎◌, Bool, true, false, ◌&&◌, List, length, get_or, leb, eqb}
use Rattle.rules.specs.Count.{every, None, Lowest}
use Rattle.rules.specs.Sheet.{Sheet, sheet_of, sheet_fault, initial, begins, ends, sets, clears}
use Rattle.rules.specs.RunList.{Plan, instances, plan_of}
use Rattle.rules.specs.Plan.{Occurs, IsPlan, distance}
use Rattle.rules.specs.Answer.{Judged}

-- ---- the delays

unfoldable pub max_delay : ℕ
max_delay = 600

-- one delay for each of n instances, none above 600
unfoldable pub delays_ok : List ℕ → ℕ → Bool
delays_ok d n = eqb (length d) n && every (λ i. leb (get_or d i 0) max_delay) n

-- the delayed plan: the same instances, the delay of each added to all its times
unfoldable pub delayed : Plan → List ℕ → Plan
delayed p d = record { count = p.count; job = p.job; time = λ i e. p.time i e + get_or d i 0 }

-- the delayed list of sheet b, list l and delays d, as a plan
unfoldable pub delayed_of : (b l d : List ℕ) → Plan
delayed_of b l d = delayed (plan_of (sheet_of b) l) d

-- ---- faults

-- a source of point 3 for a need of f by instance i that begins at tick b, with no clear after it and before b
pub data Uncleared (s : Sheet) (p : Plan) (i f b : ℕ) : Type 0 where
  by_initial : initial s f ≡ true → ((k d : ℕ) → Occurs s p k d clears f → b ≤ p.time k d) → Uncleared s p i f b
  by_set
      : (k d : ℕ)
      → Occurs s p k d sets f
      → p.time k d + distance s k i ≤ b
      → ((l c : ℕ) → Occurs s p l c clears f → p.time k d < p.time l c → b ≤ p.time l c)
      → Uncleared s p i f b

-- plan p has a fault at tick t
pub data Fault (s : Sheet) (p : Plan) : ℕ → Type 0 where
  -- a set meets a clear
  meets
      : (i e k d f : ℕ)
      → Occurs s p i e sets f
      → Occurs s p k d clears f
      → p.time i e ≡ p.time k d
      → Fault s p (p.time k d)
  -- a need begins with no source uncleared before that tick
  unserved : (i b f : ℕ) → Occurs s p i b begins f → (Uncleared s p i f (p.time i b) → ⊥) → Fault s p (p.time i b)
  -- a clear, from a need's begin on, breaks point 3 for it
  breaks
      : (i b e f k d : ℕ)
      → Occurs s p i b begins f
      → Occurs s p i e ends f
      → Occurs s p k d clears f
      → p.time i b ≤ p.time k d
      → p.time k d < p.time i e + distance s i k
      → Fault s p (p.time k d)

-- ---- the answer

-- the judge accepts list l, and the delays are one for each instance, none above 600
pub record Tried (b l d : List ℕ) : Type 0 where
  pub accepted : Judged b l 0 0
  pub delays : delays_ok d (instances l) ≡ true

-- given sheet b, list l and delays d: number and detail. It tests 10 to 14, 40, 41 of the judge, 40 for the delays, 41.
pub data Late (b l d : List ℕ) : (number detail : ℕ) → Type 0 where
  refused : (n : ℕ) → Judged b l n 0 → n ≢ 0 → Late b l d n 0
  bad_delays : Judged b l 0 0 → delays_ok d (instances l) ≡ false → Late b l d 40 0
  holds : Tried b l d → IsPlan (sheet_of b) (delayed_of b l d) → Late b l d 0 0
  fault
      : (t : ℕ)
      → Tried b l d
      → (IsPlan (sheet_of b) (delayed_of b l d) → ⊥)
      → Lowest (Fault (sheet_of b) (delayed_of b l d)) ((sheet_of b).horizon + 1) t
      → Late b l d 41 t
  -- a goal is lost, or a time lies above H
  no_fault
      : Tried b l d
      → (IsPlan (sheet_of b) (delayed_of b l d) → ⊥)
      → None (Fault (sheet_of b) (delayed_of b l d)) ((sheet_of b).horizon + 1)
      → Late b l d 41 (sheet_of b).horizon

-- ---- the run state

-- the tick that the next move runs, and the facts now held
pub record Run : Type 0 where
  pub next : ℕ
  pub held : ℕ

-- bit f of a number is on
unfoldable pub On : (h f : ℕ) → Type 0
On h f = h / 2 ^ f % 2 ≡ 1

-- of the 64 bits of h exactly those are on that P says
pub record Bits (h : ℕ) (P : ℕ → Type 0) : Type 0 where
  pub fits : h < 2 ^ 64
  pub bits : (f : ℕ) → f < 64 → On h f ↔ P f

-- fact f is set, cleared, at tick t
pub record ChangesAt (s : Sheet) (p : Plan) (kind f t : ℕ) : Type 0 where
  pub instance : ℕ
  pub event : ℕ
  pub occurs : Occurs s p instance event kind f
  pub on_tick : p.time instance event ≡ t

-- the facts that the sheet has and that are initial
pub record IsInitial (s : Sheet) (f : ℕ) : Type 0 where
  pub in_sheet : f < s.facts
  pub is_initial : initial s f ≡ true

-- after tick t the facts held before it and those set at it, but none that is cleared at it
pub record HeldAfter (s : Sheet) (p : Plan) (t held f : ℕ) : Type 0 where
  pub source : On held f ⊎ ChangesAt s p sets f t
  pub not_cleared : ChangesAt s p clears f t → ⊥

-- a fresh state's facts, given sheet b and what stands where they go: number, and what stands there after. It tests 10 to 14.
pub data Fresh (b : List ℕ) (old : ℕ) : (number held : ℕ) → Type 0 where
  bad_sheet : sheet_fault b ≢ 0 → Fresh b old (sheet_fault b) old
  fresh : (h : ℕ) → sheet_fault b ≡ 0 → Bits h (IsInitial (sheet_of b)) → Fresh b old 0 h

-- one move, given sheet b, list l, delays d and the state: number, and the state after. It tests 10 to 14, 40, 41, and 40 for the delays.
pub data Moved (b l d : List ℕ) (r : Run) : (number : ℕ) → Run → Type 0 where
  refused : (n : ℕ) → Judged b l n 0 → n ≢ 0 → Moved b l d r n r
  bad_delays : Judged b l 0 0 → delays_ok d (instances l) ≡ false → Moved b l d r 40 r
  stays : Tried b l d → (sheet_of b).horizon < r.next → Moved b l d r 0 r
  moves
      : (h : ℕ)
      → Tried b l d
      → r.next ≤ (sheet_of b).horizon
      → Bits h (HeldAfter (sheet_of b) (delayed_of b l d) r.next r.held)
      → Moved b l d r 0 (record { next = r.next + 1; held = h })

-- ---- what a run state holds

-- moved on n times from a fresh state, with the same inputs
pub data MovedOn (b l d : List ℕ) : (n : ℕ) → Run → Type 0 where
  start : (old h : ℕ) → Fresh b old 0 h → MovedOn b l d 0 (record { next = 0; held = h })
  again : {n : ℕ} {r after : Run} → MovedOn b l d n r → Moved b l d r 0 after → MovedOn b l d (n + 1) after

-- fact f is initial or set before tick n, and not cleared since; a clear acts after a set of the same tick
pub data HeldBefore (s : Sheet) (p : Plan) (n f : ℕ) : Type 0 where
  by_initial : IsInitial s f → ((t : ℕ) → t < n → ChangesAt s p clears f t → ⊥) → HeldBefore s p n f
  by_set
      : (u : ℕ)
      → u < n
      → ChangesAt s p sets f u
      → ((t : ℕ) → u ≤ t → t < n → ChangesAt s p clears f t → ⊥)
      → HeldBefore s p n f
