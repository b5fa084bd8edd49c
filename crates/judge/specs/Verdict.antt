-- What the judge answers: this paper's number for each case and its values, and that the tests are "What a plan is".
use Rattle.std.specs.Prelude.{ℕ, ◌+◌, ◌*◌, ◌≤◌, ◌<◌, ◌≡◌, ◌≢◌, ◌↔◌, true, List, Result, Ok, Err}
use Rattle.std.proofs.Common.{arith, sym, ◌∙◌}
use Rattle.rules.specs.Count.{two}
use Rattle.rules.specs.Sheet as rules
use Rattle.rules.specs.Sheet.{sheet_of, sheet_fault}
use Rattle.rules.specs.RunList.{rank, body_of, list_ok, plan_of}
use Rattle.rules.specs.Plan.{IsPlan, gap}
use Rattle.rules.specs.Answer.{Judged, bad_sheet}
use Rattle.laws.specs.Limits.{most_gap, AllBytes}
use Rattle.reader.specs.Reads as reads
use Rattle.reader.specs.Reads.{Reads, refused}
use Rattle.reader.specs.declared.Fault.{Fault}
use Rattle.plan_points.specs.Flat.{ticks}
use Rattle.list_reader.specs.Laws.{list_job, plan_count, plan_job}
use Rattle.instances.specs.Own.{AllOwn}
use Rattle.instances.specs.Rows.{EventRows}
use Rattle.judge.specs.declared.Refusal.{Refusal}
use Rattle.judge.specs.declared.Refusal.TheVariants as refusal
use Rattle.judge.specs.Points.{Points, Early}

-- the bytes b have no fault, the list l is well formed and a plan, and the first n rows are the events of its instances
pub record Accepts (b l rows : List ℕ) (n : ℕ) : Type 0 where
  pub faultless : sheet_fault b ≡ 0
  pub ok : list_ok (sheet_of b) l ≡ true
  pub plan : IsPlan (sheet_of b) (plan_of (sheet_of b) l)
  pub listed : EventRows (sheet_of b) (plan_of (sheet_of b) l) rows n

-- the answer number of each refusal
abbrev pub refusal_number : Refusal → ℕ
refusal_number (refusal.Sheet x) = reads.number_of x
refusal_number refusal.ListForm = 40
refusal_number refusal.NotAPlan = 41

-- of a well-formed list: 41, and it is no plan; or it is one, and the first n rows are the events of its instances
abbrev pub FormedVerdict : rules.Sheet → (l rows : List ℕ) → Result ℕ Refusal → Type 0
FormedVerdict s l rows (Err x) = (x ≡ refusal.NotAPlan) × (IsPlan s (plan_of s l) → ⊥)
FormedVerdict s l rows (Ok n) = IsPlan s (plan_of s l) × EventRows s (plan_of s l) rows n

-- the answer number of each case
abbrev pub number_of : {A : Type 0} → Result A Refusal → ℕ
number_of (Err x) = refusal_number x
number_of (Ok n) = 0

-- and its values
abbrev pub ValuesOf : (b l rows : List ℕ) → Result ℕ Refusal → Type 0
ValuesOf b l rows (Err x) = refusal_number x ≢ 0
ValuesOf b l rows (Ok n) = Accepts b l rows n

-- Err with the judge's number, which is not 0, or Ok exactly if the list is a plan
pub record Verdicts (b l rows : List ℕ) (r : Result ℕ Refusal) : Type 0 where
  pub judged : Judged b l (number_of r) 0
  pub values : ValuesOf b l rows r

-- a sheet that the reader refuses with fault x
pub judged_refused
    : (b l : List ℕ) (x : Fault) → Reads b (Err x) → Judged b l (reads.number_of x) 0 × (reads.number_of x ≢ 0)
judged_refused b l x h = (rw (sym h) (bad_sheet (refused b x h)), λ z. refused b x h (h ∙ z))

-- a list's ticks and a gap lie before the past of every tick
pub early_of : (s : rules.Sheet) (l : List ℕ) → s.gap ≤ most_gap → AllBytes l → Early s (plan_of s l)
unfolding plan_of gap two
early_of s l g h = record { early = λ k d x. omega (arith, below (body_of s l k + 2 * rank s d)) }
  where
    below : (i : ℕ) → two l i < ticks
    below i = omega (arith, h i, h (i + 1))

-- the tests are "What a plan is"
pub plan_iff : (s : rules.Sheet) (l : List ℕ) → list_ok s l ≡ true → (AllOwn s (plan_of s l) × Points s (plan_of s l)) ↔ IsPlan s (plan_of s l)
plan_iff s l ok = (
  λ t.
      record {
        jobs = λ i h. omega (arith, plan_job s l i, list_job s l ok i (omega (arith, plan_count s l)));
        own = t.0;
        apart = t.1.apart;
        served = t.1.served;
        held = t.1.held;
      },
  λ p. (p.own, record { apart = p.apart; served = p.served; held = p.held }),
)
