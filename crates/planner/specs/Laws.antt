-- Why each of the planner's answers is the one of the table.
use Rattle.std.specs.Prelude.{ℕ, Bool, List, ◌∷◌, [], Err}
use Rattle.std.proofs.Common.{arith, subst}
use Rattle.rules.specs.Sheet as rules
use Rattle.rules.specs.Sheet.{begins, sets, clears}
use Rattle.rules.specs.Answer.{Planned, bad_sheet}
use Rattle.laws.specs.Planned.{PlannedFor, planned_bytes}
use Rattle.sheet.specs.WellFormed.{said_by}
use Rattle.sheet.specs.declared.formed.WellFormed.{WellFormed}
use Rattle.reader.specs.Reads.{Reads, ReadAs, number_of, refused, read_means}
use Rattle.reader.specs.declared.Fault.{Fault}
use Rattle.laws.specs.Formed.{Formed}
use Rattle.index.specs.View.{AllByFact, PresentMarked, ByJobOf, IndexOf, of_type, KeysOf, JobsOf}
use Rattle.index.specs.Laws.{by_present}

-- ---- a sheet that the reader refuses, or does not

-- the answer to the sheet is that to its bytes
pub planned_read
    : (b w : List ℕ) {sheet : WellFormed} {n d : ℕ} {w' : List ℕ}
    → ReadAs b sheet
    → PlannedFor (said_by sheet) w n d w'
    → Planned b w n d w'
planned_read b w a p = planned_bytes a.formed (read_means a) p

pub planned_refused : (b w : List ℕ) (x : Fault) → Reads b (Err x) → Planned b w (number_of x) 0 w
planned_refused b w x h = subst (λ (m : ℕ). Planned b w m 0 w) h (bad_sheet (refused b x h))

-- ---- the index as columns: the jobs that count are the present ones

pub index_of
    : {s : rules.Sheet} {marks : List Bool} (starts event span jobs keys : List ℕ)
    → Formed s
    → PresentMarked s marks
    → AllByFact s marks starts event
    → ByJobOf s span
    → KeysOf s keys × JobsOf s jobs
    → IndexOf s (of_type begins starts ∷ of_type sets starts ∷ of_type clears starts ∷ event ∷ span ∷ jobs ∷ keys ∷ [])
index_of starts event span jobs keys formed present p q d =
    record {
      begins = by_present formed present (p.by begins (omega arith));
      sets = by_present formed present (p.by sets (omega arith));
      clears = by_present formed present (p.by clears (omega arith));
      spans = q;
      long = p.events;
      jobs = d.1;
      keys = d.0;
    }
