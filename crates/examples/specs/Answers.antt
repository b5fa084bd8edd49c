-- From tests of bytes to answers: one test and one law for each number that an example draws.
use Rattle.std.specs.Prelude.{ℕ, List}
use Rattle.std.proofs.Common.{arith}
use Rattle.rules.specs.Sheet.{sheet_of, sheet_fault}
use Rattle.rules.specs.RunList.{list_ok, plan_of}
use Rattle.rules.specs.Wanted.{LeastList}
use Rattle.rules.specs.Class.{Inside}
use Rattle.rules.specs.Answer.{Plannable, Planned, Judged}
use Rattle.laws.specs.Formed.{Formed, formed}
use Rattle.theory.specs.Why.Entries.{none_earlier_lem}
use Rattle.laws.specs.Faults.{well_formed_lem}
use Rattle.examples.specs.Test.{Test, eq, lt, on, ◌&◌, each, Passes}
use Rattle.examples.specs.Class.{Reasons, reasons, one_setter_lem, inside, lowest_unordered, lowest_unordered_lem}
use Rattle.examples.specs.Solution.{solves}
use Rattle.examples.specs.Least.{Path, below, too_long, least_solution_lem, no_plan_lem, writes, least_bytes}

-- a sheet without fault, and what is wanted and shown of it
unfoldable pub known : List ℕ → Reasons → Test
known b r = eq (sheet_fault b) 0 & reasons (sheet_of b) r

-- and every fact is shown cleared last
unfoldable pub orderly : List ℕ → Reasons → Test
orderly b r = known b r & each (sheet_of b).facts (λ f. lt 0 (r.last f))

-- 0 and 30: l is the least list, with the ticks t
unfoldable pub has_least : List ℕ → Reasons → (ℕ → ℕ) → (ℕ → Path) → List ℕ → Test
has_least b r t why l =
    orderly b r & solves (sheet_of b) r t & below (sheet_of b) r t why & writes (sheet_of b) r t l

-- 1
unfoldable pub has_none : List ℕ → Reasons → Path → Test
has_none b r p = orderly b r & too_long (sheet_of b) r p

-- 21
unfoldable pub unordered : List ℕ → Reasons → ℕ → Test
unordered b r f = known b r & lowest_unordered (sheet_of b) r f

-- 41: entry k of list m has event e earlier than entry i, of the same job, of list l
unfoldable pub ahead : List ℕ → (l m : List ℕ) → (i k e : ℕ) → Test
ahead b l m i k e =
    let s = sheet_of b in
    on (list_ok s m) & lt i (plan_of s l).count & lt k (plan_of s m).count & eq ((plan_of s m).job k) ((plan_of s l).job i)
    & lt e s.events & eq (s.event e).job ((plan_of s m).job k) & lt ((plan_of s m).time k e) ((plan_of s l).time i e)

module _ (b : List ℕ) where
  well : (r : Reasons) → Passes (known b r) → Formed (sheet_of b)
  unfolding known
  well r h = formed _ (well_formed_lem b h.0)

  is_inside : (r : Reasons) → Passes (orderly b r) → Inside (sheet_of b)
  unfolding known orderly
  is_inside r h = inside (sheet_of b) r (well r h.0) h.0.1 h.1

  plannable : (r : Reasons) → Passes (orderly b r) → Plannable b
  unfolding known orderly
  plannable r h =
      record { formed = h.0.0; inside = is_inside r h }

  pub planned
      : (r : Reasons) (t : ℕ → ℕ) (why : ℕ → Path) (l : List ℕ)
      → Passes (has_least b r t why l)
      → Plannable b × LeastList (sheet_of b) l
  unfolding known orderly has_least
  planned r t why l (h, (met, (low, bytes))) =
      let ok = well r h.0 in (
        plannable r h,
        least_bytes (sheet_of b) r t l ok h.0.1 (is_inside r h) (least_solution_lem (sheet_of b) r ok h.0.1 t why met low) bytes,
      )

  pub none_planned : (r : Reasons) (p : Path) → Passes (has_none b r p) → (w : List ℕ) → Planned b w 1 0 w
  unfolding known orderly has_none
  none_planned r p (h, past) w =
      Planned.no_plan (plannable r h) (no_plan_lem (sheet_of b) r (well r h.0) h.0.1 p (is_inside r h) past)

  pub unordered_planned : (r : Reasons) (f : ℕ) → Passes (unordered b r f) → (w : List ℕ) → Planned b w 21 f w
  unfolding known unordered
  unordered_planned r f (h, low) w =
      let ok = well r h in
      Planned.rule2 f h.0 (one_setter_lem (sheet_of b) r ok h.1)
      (lowest_unordered_lem (sheet_of b) r f ok h.1 low)

  pub ahead_judged
      : (l m : List ℕ) (i k e : ℕ) → Plannable b → LeastList (sheet_of b) l → Passes (ahead b l m i k e) → Judged b m 41 0
  unfolding ahead
  ahead_judged l m i k e ok least (form, (iIn, (kIn, (same, (eIn, (q, sooner)))))) =
      Judged.no_plan ok.formed form (λ plan. omega (arith, none_earlier_lem least plan i k e iIn kIn same eIn q))
