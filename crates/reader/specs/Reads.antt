-- What the sheet reader answers: this paper's number for each fault, and what each answer says of the bytes.
use Rattle.std.specs.Prelude.{ℕ, ◌+◌, ◌*◌, ◌/◌, ◌≤◌, ◌≡◌, refl, ◌≢◌, List, true, cond, ◌&&◌, eqb, leb, length, Result, Ok, Err, IfOk}
use mathlib.Core.HLevel.{is_prop→PathP}
use denote.Ref.{Bor}
use denote.Struct.Props.{props}
use Rattle.std.proofs.Common.{arith, sym, ap, subst, ◌∙◌, inl, inr, eqb-true}
use Rattle.rules.specs.Count.{byte, every}
use Rattle.rules.specs.Sheet.{
  edition,
  facts_head,
  job_row,
  length_of,
  start_of,
  sheet_of,
  edition_ok,
  entry_ok,
  contents_ok,
  facts_ok,
  facts_body_ok,
  sheet_fault,
  fault_in,
  well_formed,
}
use Rattle.laws.specs.Bools.{and_get}
use Rattle.laws.specs.Events.{Small}
use Rattle.laws.specs.Faults.{its_edition}
use Rattle.sheet.specs.declared.Sheet.{Sheet}
use Rattle.sheet.specs.declared.formed.WellFormed.{WellFormed}
use Rattle.sheet.specs.WellFormed.{said_by, formed_by}
use Rattle.sheet.specs.Props.{counted_prop, small_prop}
use Rattle.sheet.specs.View.{meaning, Counted, SheetIs, RowsInside, IsFormed, TwoRows}
use Rattle.sheet.specs.Laws.{sheet_means, row_of}
use Rattle.reader.specs.declared.Fault.{Fault}
use Rattle.reader.specs.declared.Fault.TheVariants.{Contents, Facts, Jobs, Events, Bounds}

-- the answer numbers of the sheet's faults
abbrev pub number_of : Fault → ℕ
number_of Contents = 10
number_of Facts = 11
number_of Jobs = 12
number_of Events = 13
number_of Bounds = 14

-- the bytes are well formed, and s is what they say, with them
pub record ReadAs (b : List ℕ) (s : WellFormed) : Type 0 where
  pub formed : sheet_fault b ≡ 0
  pub sheet : SheetIs b s.view
  pub bytes : s.bytes.now ≡ b

-- what the answer r says of the bytes b
abbrev pub Reads : List ℕ → Result WellFormed Fault → Type 0
Reads b (Err x) = sheet_fault b ≡ number_of x
Reads b (Ok s) = ReadAs b s

-- the bytes are a well-formed sheet of edition n, and s is what they say, with them
pub record ReadIn (n : ℕ) (b : List ℕ) (s : WellFormed) : Type 0 where
  pub edition : edition b ≡ n
  pub read : ReadAs b s

-- what the answer r says of the bytes b, which have to be of edition n
abbrev pub ReadsIn : ℕ → List ℕ → Result WellFormed Fault → Type 0
ReadsIn n b (Err x) = fault_in n b ≡ number_of x
ReadsIn n b (Ok s) = ReadIn n b s

-- an answer that is known
pub reading_formed : (b : List ℕ) {r : Result WellFormed Fault} {s : WellFormed} → r ≡ Ok s → Reads b r → ReadAs b s
reading_formed b e h = subst (Reads b) e h

pub reading_refused : (b : List ℕ) {r : Result WellFormed Fault} {x : Fault} → r ≡ Err x → Reads b r → sheet_fault b ≡ number_of x
reading_refused b e h = subst (Reads b) e h

module _ (n : ℕ) (b : List ℕ) {r : Result WellFormed Fault} where
  pub reading_in_formed : {s : WellFormed} → r ≡ Ok s → ReadsIn n b r → ReadIn n b s
  reading_in_formed e h = subst (ReadsIn n b) e h

  pub reading_in_refused : {x : Fault} → r ≡ Err x → ReadsIn n b r → fault_in n b ≡ number_of x
  reading_in_refused e h = subst (ReadsIn n b) e h

-- ---- it leaves no choice

fault_of : ℕ → Fault
fault_of n = cond (eqb n 10) Contents (cond (eqb n 11) Facts (cond (eqb n 12) Jobs (cond (eqb n 13) Events Bounds)))

fault_back : (x : Fault) → fault_of (number_of x) ≡ x
unfolding fault_of
fault_back Contents = refl
fault_back Facts = refl
fault_back Jobs = refl
fault_back Events = refl
fault_back Bounds = refl

number_same : (x y : Fault) → number_of x ≡ number_of y → x ≡ y
number_same x y h = sym (fault_back x) ∙ ap fault_of h ∙ fault_back y

number_high : (x : Fault) → 10 ≤ number_of x
number_high Contents = omega arith
number_high Facts = omega arith
number_high Jobs = omega arith
number_high Events = omega arith
number_high Bounds = omega arith

pub refused : (b : List ℕ) (x : Fault) → Reads b (Err x) → sheet_fault b ≢ 0
refused b x h e = omega (arith, number_high x)

pub refused_in : (n : ℕ) (b : List ℕ) (x : Fault) → ReadsIn n b (Err x) → fault_in n b ≢ 0
refused_in n b x h e = omega (arith, number_high x)

-- what is read is without a fault
pub read_in_fine : {n : ℕ} {b : List ℕ} {s : WellFormed} → ReadIn n b s → fault_in n b ≡ 0
read_in_fine {n} {b} r = its_edition n b r.edition ∙ r.read.formed

sheet_same : (b : List ℕ) (v u : Sheet) → SheetIs b v → SheetIs b u → v ≡ u
sheet_same b v u p q =
    λ i.
    record {
      facts = (p.facts ∙ sym q.facts) i;
      horizon = (p.horizon ∙ sym q.horizon) i;
      gap = (p.gap ∙ sym q.gap) i;
      jobs = (p.jobs ∙ sym q.jobs) i;
      events = (p.events ∙ sym q.events) i;
      bounds = (p.bounds ∙ sym q.bounds) i;
      marks_at = (p.marks_at ∙ sym q.marks_at) i;
      jobs_at = (p.jobs_at ∙ sym q.jobs_at) i;
      job_row = (p.job_row ∙ sym q.job_row) i;
      events_at = (p.events_at ∙ sym q.events_at) i;
      bounds_at = (p.bounds_at ∙ sym q.bounds_at) i;
    }

-- two well-formed sheets with the same view and the same bytes are one: their facts have one proof each
formed_same : (s t : WellFormed) → s.view ≡ t.view → s.bytes ≡ t.bytes → s ≡ t
formed_same s t p q =
    λ i.
    record {
      view = p i;
      bytes = q i;
      counted = is_prop→PathP (λ j. Counted (p j) (q j).now) (λ j. counted_prop (p j) (q j).now) s.counted t.counted i;
      few = is_prop→PathP (λ j. Small (meaning (p j) (q j).now)) (λ j. small_prop (meaning (p j) (q j).now)) s.few t.few i;
      well = is_prop→PathP (λ j. well_formed (meaning (p j) (q j).now) ≡ true) (λ j. hlevel props) s.well t.well i;
    }

-- what the reader answers to the bytes b that it is lent: what r says of them, and the sheet has those very bytes
abbrev pub Answered : Bor (List ℕ) → Result WellFormed Fault → Type 0
Answered b r = Reads b.now r × IfOk r (λ s. s.bytes ≡ b)

abbrev pub AnsweredIn : ℕ → Bor (List ℕ) → Result WellFormed Fault → Type 0
AnsweredIn n b r = ReadsIn n b.now r × IfOk r (λ s. s.bytes ≡ b)

-- two answers for the same bytes are equal
pub reads_same : (b : Bor (List ℕ)) (r q : Result WellFormed Fault) → Answered b r → Answered b q → r ≡ q
reads_same b (Err x) (Err y) h k = ap Err (number_same x y (sym h.0 ∙ k.0))
reads_same b (Err x) (Ok t) h k = absurd (refused b.now x h.0 k.0.formed)
reads_same b (Ok s) (Err y) h k = absurd (refused b.now y k.0 h.0.formed)
reads_same b (Ok s) (Ok t) h k =
    ap Ok (formed_same s t (sheet_same b.now s.view t.view h.0.sheet k.0.sheet) (h.1 ∙ sym k.1))

pub reads_in_same : (n : ℕ) (b : Bor (List ℕ)) (r q : Result WellFormed Fault) → AnsweredIn n b r → AnsweredIn n b q → r ≡ q
reads_in_same n b (Err x) (Err y) h k = ap Err (number_same x y (sym h.0 ∙ k.0))
reads_in_same n b (Err x) (Ok t) h k = absurd (refused_in n b.now x h.0 (read_in_fine k.0))
reads_in_same n b (Ok s) (Err y) h k = absurd (refused_in n b.now y k.0 (read_in_fine h.0))
reads_in_same n b (Ok s) (Ok t) h k =
    ap Ok (formed_same s t (sheet_same b.now s.view t.view h.0.read.sheet k.0.read.sheet) (h.1 ∙ sym k.1))

-- ---- what those behind the reader are given

-- rows of n bytes fill no more than n bytes
whole_rows : {row : ℕ} (n : ℕ) → TwoRows row → row * (n / row) ≤ n
whole_rows n (inl q) = rw q (omega arith)
whole_rows n (inr q) = rw q (omega arith)

-- the contents end with the sheet, and each body has whole rows: what v counts lies inside
pub inside : {b : List ℕ} {v : Sheet} → contents_ok b ≡ true → SheetIs b v → facts_body_ok b ≡ true → RowsInside v b
unfolding contents_ok facts_body_ok start_of sheet_of
inside {b} {v} h w p =
    let head = leb 26 (length b) && edition_ok b && eqb (byte b 1) 4 && every (entry_ok b) 4 in
    let ends : start_of b 4 ≡ length b = eqb-true (start_of b 4) (length b) (and_get head (eqb (start_of b 4) (length b)) h).1 in
    let marks = (and_get (eqb (length_of b 0) (facts_head (edition b) + (sheet_of b).facts)) (facts_ok (sheet_of b)) p).0 in
    let whole : length_of b 0 ≡ facts_head (edition b) + (sheet_of b).facts = eqb-true _ _ marks in
    let rows : job_row (edition b) * (length_of b 1 / job_row (edition b)) ≤ length_of b 1 = whole_rows (length_of b 1) (row_of (edition b)) in
    let jobs : v.job_row * v.jobs ≤ length_of b 1 = rw (w.job_row, w.jobs) rows in
    record {
      marks = omega (arith, w.marks_at, w.facts);
      jobs = omega (arith, w.jobs_at, jobs);
      events = omega (arith, w.events_at, w.events);
      bounds = omega (arith, w.bounds_at, w.bounds);
    }

module _ {b : List ℕ} {s : WellFormed} (r : ReadAs b s) where
  pub read_formed : IsFormed s.view s.bytes.now
  read_formed = formed_by s

  pub read_means : said_by s ≡ sheet_of b
  read_means = ap (meaning s.view) r.bytes ∙ sheet_means r.sheet

  -- the same, of the bytes that the value has
  pub read_own : ReadAs s.bytes.now s
  read_own = subst (λ (c : List ℕ). ReadAs c s) (sym r.bytes) r

pub read_in_own : {n : ℕ} {b : List ℕ} {s : WellFormed} → ReadIn n b s → ReadIn n s.bytes.now s
read_in_own {n} {s = s} r = subst (λ (c : List ℕ). ReadIn n c s) (sym r.read.bytes) r
