-- The three demands on planner and judge, in the user's order and words, as statements on the definitions of the answers; then the
-- same of every other routine: which numbers it gives, and what it leaves with a refusal. That they hold is in Hold.antt. That the code
-- gives these answers is the contract of each function: a border's contract is one of these definitions, with no `requires`.
-- "After a finite run" is no law here: it speaks of runs, not of values. Every function is proved to return, since each loop and each
-- recursion has a number that falls; rt accepts no function without.
use Rattle.std.specs.Prelude.{ℕ, ◌≤◌, ◌<◌, ◌≡◌, ◌≢◌, ◌↔◌, ◌⊎◌, true, List, [], ◌++◌, length, drop}
use Rattle.rules.specs.Count.{None, Lowest}
use Rattle.rules.specs.Sheet.{sheet_of, sheet_fault, fault_in}
use Rattle.rules.specs.RunList.{Plan, list_ok, plan_of}
use Rattle.rules.specs.Plan.{IsPlan}
use Rattle.rules.specs.Wanted.{LeastList}
use Rattle.rules.specs.Class.{TwoSetters, WantedUnordered, UnwantedUnordered, Inside}
use Rattle.rules.specs.Answer.{Judged, Planned, Plannable}
use Rattle.rules.specs.Rewrite.{ToEdition2, ToEdition1}
use Rattle.rules.specs.Late.{delayed_of, Tried, Late, Run, Fresh, Moved, MovedOn}
use Rattle.rules.specs.Cost.{Costed}
use Rattle.rules.specs.Newer.{Which, Newer, part_of, NewerInC}
use Rattle.laws.specs.Limits.{AllBytes}
use Rattle.theory.specs.Why.Same.{SameRun}

-- ---- the numbers of the table

-- for a sheet that is none
abbrev pub BadSheet : ℕ → Type 0
BadSheet n = (10 ≤ n) × (n ≤ 14)

abbrev pub PlannerNumber : ℕ → Type 0
PlannerNumber n = (n ≡ 0) ⊎ BadSheet n ⊎ (n ≡ 20) ⊎ (n ≡ 21) ⊎ (n ≡ 22) ⊎ (n ≡ 1) ⊎ (n ≡ 30)

abbrev pub JudgeNumber : ℕ → Type 0
JudgeNumber n = (n ≡ 0) ⊎ BadSheet n ⊎ (n ≡ 40) ⊎ (n ≡ 41)

-- ---- the planner: given sheet b and buffer w it gives number n and detail d, and leaves o in the buffer

-- 1. "Whoever hands in a sheet, a list and a buffer, of whatever bytes and lengths, gets one of the numbered answers after a finite
-- run. No fault of the sheet is left to the caller to find; every answer but "plan" leaves the output bytes as they came."
pub record Demand1 (b w : List ℕ) (n d : ℕ) (o : List ℕ) : Type 0 where
  pub numbered : PlannerNumber n
  -- and one only
  pub one : (m e : ℕ) (x : List ℕ) → Planned b w m e x → (m ≡ n) × (e ≡ d) × (x ≡ o)
  pub faults : sheet_fault b ≢ 0 → n ≡ sheet_fault b
  pub faultless : sheet_fault b ≡ 0 → BadSheet n → ⊥
  pub unchanged : n ≢ 0 → o ≡ w
  -- the details that the table has as 0
  pub detail : BadSheet n ⊎ (n ≡ 1) → d ≡ 0

-- 2, its second sentence. "Where no earlier test refuses a sheet, the planner calls it outside its class exactly by the class rules",
-- each with the lowest fact that breaks it.
pub record Demand2 (b : List ℕ) (n d : ℕ) : Type 0 where
  pub first
      : sheet_fault b ≡ 0
      → (f : ℕ)
      → ((n ≡ 20) × (d ≡ f)) ↔ Lowest (TwoSetters (sheet_of b)) (sheet_of b).facts f
  pub second
      : sheet_fault b ≡ 0
      → None (TwoSetters (sheet_of b)) (sheet_of b).facts
      → (f : ℕ)
      → ((n ≡ 21) × (d ≡ f)) ↔ Lowest (WantedUnordered (sheet_of b)) (sheet_of b).facts f
  pub third
      : sheet_fault b ≡ 0
      → None (TwoSetters (sheet_of b)) (sheet_of b).facts
      → None (WantedUnordered (sheet_of b)) (sheet_of b).facts
      → (f : ℕ)
      → ((n ≡ 22) × (d ≡ f)) ↔ Lowest (UnwantedUnordered (sheet_of b)) (sheet_of b).facts f
  pub outside : sheet_fault b ≡ 0 → ((n ≡ 20) ⊎ (n ≡ 21) ⊎ (n ≡ 22)) ↔ (Inside (sheet_of b) → ⊥)

-- 3. "For a well-formed sheet inside the class: .. Otherwise "plan" exactly when the buffer has room for the least list, and "buffer too
-- short" exactly when it has not, either with that list's length and, after "plan", exactly its bytes." Of a least list l:
pub record Written (l w : List ℕ) (n d : ℕ) (o : List ℕ) : Type 0 where
  pub plan : (n ≡ 0) ↔ (length l ≤ length w)
  pub short : (n ≡ 30) ↔ (length w < length l)
  pub its_length : d ≡ length l
  -- the rest of the buffer is as it came
  pub its_bytes : n ≡ 0 → o ≡ l ++ drop (length l) w

-- "The judge's definition accepts it; no plan, however often it repeats jobs, lacks one of its jobs or has any of its steps earlier."
pub record LeastOfAll (b l : List ℕ) : Type 0 where
  pub accepted : Judged b l 0 0
  pub none_lacks
      : (p : Plan)
      → IsPlan (sheet_of b) p
      → (i : ℕ)
      → i < (plan_of (sheet_of b) l).count
      → (k : ℕ) × (k < p.count) × (p.job k ≡ (plan_of (sheet_of b) l).job i)
  pub none_earlier
      : (p : Plan)
      → IsPlan (sheet_of b) p
      → (i k e : ℕ)
      → i < (plan_of (sheet_of b) l).count
      → k < p.count
      → p.job k ≡ (plan_of (sheet_of b) l).job i
      → e < (sheet_of b).events
      → ((sheet_of b).event e).job ≡ p.job k
      → (plan_of (sheet_of b) l).time i e ≤ p.time k e
  -- which the header names as the length that is enough for every sheet
  pub short : length l ≤ 644

pub record Demand3 (b w : List ℕ) (n d : ℕ) (o : List ℕ) : Type 0 where
  -- "no plan" exactly when no finite list within the horizon is a plan, with any jobs any number of times: a Plan has any count of
  -- instances, and the horizon is point 1 of IsPlan
  pub no_plan : (n ≡ 1) ↔ ((p : Plan) → IsPlan (sheet_of b) p → ⊥)
  -- otherwise there is a least list
  pub otherwise : n ≢ 1 → (l : List ℕ) × LeastList (sheet_of b) l
  -- and only one: what is said of one is said of it
  pub only : (l m : List ℕ) → LeastList (sheet_of b) l → LeastList (sheet_of b) m → l ≡ m
  pub written : (l : List ℕ) → LeastList (sheet_of b) l → Written l w n d o
  pub least : (l : List ℕ) → LeastList (sheet_of b) l → LeastOfAll b l

-- a sheet of bytes, well formed and inside the class, that has a plan has a least list
abbrev pub LeastListExists : List ℕ → Type 0
LeastListExists b = AllBytes b → Plannable b → (p : Plan) → IsPlan (sheet_of b) p → (l : List ℕ) × LeastList (sheet_of b) l

pub record OfPlanner (b w : List ℕ) (n d : ℕ) (o : List ℕ) : Type 0 where
  pub first : Demand1 b w n d o
  pub second : Demand2 b n d
  pub third : Plannable b → Demand3 b w n d o

-- ---- the judge: given sheet b and list l it gives number n and detail d

pub record OfJudge (b l : List ℕ) (n d : ℕ) : Type 0 where
  -- 1
  pub numbered : JudgeNumber n
  pub one : (m e : ℕ) → Judged b l m e → (m ≡ n) × (e ≡ d)
  pub faults : sheet_fault b ≢ 0 → n ≡ sheet_fault b
  pub faultless : sheet_fault b ≡ 0 → BadSheet n → ⊥
  pub detail : d ≡ 0
  -- 2. "The judge says yes exactly to the lists that are plans."
  pub yes : (n ≡ 0) ↔ ((sheet_fault b ≡ 0) × (list_ok (sheet_of b) l ≡ true) × IsPlan (sheet_of b) (plan_of (sheet_of b) l))

-- ---- rewriting: given sheet b and buffer w it gives number n and detail d, and leaves o in the buffer

abbrev pub ThereNumber : ℕ → Type 0
ThereNumber n = (n ≡ 0) ⊎ BadSheet n ⊎ (n ≡ 30)

abbrev pub BackNumber : ℕ → Type 0
BackNumber n = (n ≡ 50) ⊎ ThereNumber n

-- of a sheet that has to be of edition e; Answer is ToEdition2 or ToEdition1
pub record OfRewriting (Answer : (number detail : ℕ) → List ℕ → Type 0) (e : ℕ) (b w : List ℕ) (n d : ℕ) (o : List ℕ) : Type 0 where
  pub one : (m c : ℕ) (x : List ℕ) → Answer m c x → (m ≡ n) × (c ≡ d) × (x ≡ o)
  pub faults : fault_in e b ≢ 0 → n ≡ fault_in e b
  pub faultless : fault_in e b ≡ 0 → BadSheet n → ⊥
  pub unchanged : n ≢ 0 → o ≡ w
  pub detail : BadSheet n ⊎ (n ≡ 50) → d ≡ 0

-- ---- late starts, given sheet b, list l and delays r

-- late gives number n and detail d; the judge's refusals of the list come first
pub record OfLate (b l r : List ℕ) (n d : ℕ) : Type 0 where
  pub numbered : JudgeNumber n
  pub one : (m e : ℕ) → Late b l r m e → (m ≡ n) × (e ≡ d)
  pub refused : (m : ℕ) → Judged b l m 0 → m ≢ 0 → (n ≡ m) × (d ≡ 0)
  pub detail : n ≢ 41 → d ≡ 0
  -- the delayed list can be written in bytes, and the answer is 0 exactly if the judge accepts it
  pub in_bytes
      : AllBytes b
      → Tried b l r
      → (m : List ℕ) × AllBytes m × SameRun (sheet_of b) (plan_of (sheet_of b) m) (delayed_of b l r) × ((n ≡ 0) ↔ Judged b m 0 0)

abbrev pub FreshNumber : ℕ → Type 0
FreshNumber n = (n ≡ 0) ⊎ BadSheet n

-- a fresh state's facts in the place of the facts old: number n, and the facts new
pub record OfFresh (b : List ℕ) (old n new : ℕ) : Type 0 where
  pub numbered : FreshNumber n
  pub one : (m x : ℕ) → Fresh b old m x → (m ≡ n) × (x ≡ new)
  pub faults : sheet_fault b ≢ 0 → n ≡ sheet_fault b
  pub unchanged : n ≢ 0 → new ≡ old
  -- "a fresh one stands before tick 0": with next 0 it is the state that no move was made from
  pub before : n ≡ 0 → (l r : List ℕ) → MovedOn b l r 0 (record { next = 0; held = new })

-- moving on from the state old to the state new
pub record OfMoved (b l r : List ℕ) (old : Run) (n : ℕ) (new : Run) : Type 0 where
  pub numbered : JudgeNumber n
  pub one : (m : ℕ) (x : Run) → Moved b l r old m x → (m ≡ n) × (x ≡ new)
  pub refused : (m : ℕ) → Judged b l m 0 → m ≢ 0 → n ≡ m
  pub unchanged : n ≢ 0 → new ≡ old

-- ---- what a run costs, given sheet b, list l and rates r

abbrev pub CostNumber : ℕ → Type 0
CostNumber n = JudgeNumber n ⊎ (n ≡ 51)

pub record OfCost (b l r : List ℕ) (n cents sixtieths : ℕ) : Type 0 where
  pub numbered : CostNumber n
  pub one : (m c x : ℕ) → Costed b l r m c x → (m ≡ n) × (c ≡ cents) × (x ≡ sixtieths)
  pub refused : (m : ℕ) → Judged b l m 0 → m ≢ 0 → n ≡ m
  pub nothing : n ≢ 0 → (cents ≡ 0) × (sixtieths ≡ 0)

-- ---- which of the sheets a and b counts

abbrev pub NewerNumber : ℕ → Type 0
NewerNumber n = (n ≡ 0) ⊎ BadSheet n ⊎ (n ≡ 56)

pub record OfNewer (a b : List ℕ) (n : ℕ) (w : Which) : Type 0 where
  pub numbered : NewerNumber n
  pub one : (m : ℕ) (x : Which) → Newer a b m x → (m ≡ n) × (x ≡ w)
  pub faults : fault_in 2 a ≢ 0 → n ≡ fault_in 2 a
  pub second_faults : fault_in 2 a ≡ 0 → fault_in 2 b ≢ 0 → n ≡ fault_in 2 b
  pub empty : n ≢ 0 → part_of a b w ≡ []
  pub whole : n ≡ 0 → (part_of a b w ≡ a) ⊎ (part_of a b w ≡ b)

-- in C: detail, which sheet it is, and its length
pub record OfNewerInC (a b : List ℕ) (n d which len : ℕ) : Type 0 where
  pub numbered : NewerNumber n
  pub one : (m e x y : ℕ) → NewerInC a b m e x y → (m ≡ n) × (e ≡ d) × (x ≡ which) × (y ≡ len)
  pub detail : d ≡ 0
  pub nothing : n ≢ 0 → (which ≡ 0) × (len ≡ 0)

-- ---- 15, which planners gave up to 0.5.0, is none of these numbers

pub record Never15 : Type 0 where
  pub planner : (n : ℕ) → PlannerNumber n → n ≢ 15
  -- late starts and moving on give the judge's numbers
  pub judge : (n : ℕ) → JudgeNumber n → n ≢ 15
  pub fresh : (n : ℕ) → FreshNumber n → n ≢ 15
  pub there : (n : ℕ) → ThereNumber n → n ≢ 15
  pub back : (n : ℕ) → BackNumber n → n ≢ 15
  pub cost : (n : ℕ) → CostNumber n → n ≢ 15
  pub newer : (n : ℕ) → NewerNumber n → n ≢ 15

-- ---- that all this holds

pub record Demands : Type 0 where
  pub planner : (b w : List ℕ) (n d : ℕ) (o : List ℕ) → Planned b w n d o → OfPlanner b w n d o
  pub least_list : (b : List ℕ) → LeastListExists b
  pub judge : (b l : List ℕ) (n d : ℕ) → Judged b l n d → OfJudge b l n d
  pub to_edition2
      : (b w : List ℕ) (n d : ℕ) (o : List ℕ) → ToEdition2 b w n d o → ThereNumber n × OfRewriting (ToEdition2 b w) 1 b w n d o
  pub to_edition1
      : (b w : List ℕ) (n d : ℕ) (o : List ℕ) → ToEdition1 b w n d o → BackNumber n × OfRewriting (ToEdition1 b w) 2 b w n d o
  pub late : (b l r : List ℕ) (n d : ℕ) → Late b l r n d → OfLate b l r n d
  pub fresh : (b : List ℕ) (old n new : ℕ) → Fresh b old n new → OfFresh b old n new
  pub moved : (b l r : List ℕ) (old : Run) (n : ℕ) (new : Run) → Moved b l r old n new → OfMoved b l r old n new
  pub cost : (b l r : List ℕ) (n c x : ℕ) → Costed b l r n c x → OfCost b l r n c x
  pub newer : (a b : List ℕ) (n : ℕ) (w : Which) → Newer a b n w → OfNewer a b n w
  pub newer_in_c : (a b : List ℕ) (n d x y : ℕ) → NewerInC a b n d x y → OfNewerInC a b n d x y
  pub never15 : Never15
