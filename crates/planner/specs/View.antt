-- The planner's answer numbers and details, and what writing the list asks.
use Rattle.std.specs.Prelude.{ℕ, ◌≡◌, Bool, true, false, List, get_or, Result, Ok, Err}
use Rattle.rules.specs.Sheet as rules
use Rattle.rules.specs.Wanted.{WantedJob}
use Rattle.rules.specs.Class.{Inside}
use Rattle.theory.specs.Statements.{LeastSolution}
use Rattle.index.specs.View.{IndexOf}
use Rattle.list_writer.specs.ListBytes.{tick_of}
use Rattle.reader.specs.Reads as reads
use Rattle.class.specs.Answer as class
use Rattle.planner.specs.declared.Refusal.{Refusal}
use Rattle.planner.specs.declared.Refusal.TheVariants as refusal

-- the answer number of a refusal, and its detail
abbrev pub refusal_number : Refusal → ℕ
refusal_number (refusal.Sheet x) = reads.number_of x
refusal_number (refusal.Outside o) = class.number_of o.rule
refusal_number refusal.NoPlan = 1
refusal_number (refusal.Short n) = 30

abbrev pub refusal_detail : Refusal → ℕ
refusal_detail (refusal.Sheet x) = 0
refusal_detail (refusal.Outside o) = o.fact
refusal_detail refusal.NoPlan = 0
refusal_detail (refusal.Short n) = n

-- those of what planning gives: with 0 the detail is the length of the list that is written
abbrev pub number_of : Result ℕ Refusal → ℕ
number_of (Ok n) = 0
number_of (Err x) = refusal_number x

abbrev pub detail_of : Result ℕ Refusal → ℕ
detail_of (Ok n) = n
detail_of (Err x) = refusal_detail x

-- the marks of the wanted jobs
pub record WantedMarks (s : rules.Sheet) (jobs : List Bool) : Type 0 where
  pub job_wanted : (j : ℕ) → get_or jobs j false ≡ true → WantedJob s j
  pub job_marked : (j : ℕ) → WantedJob s j → get_or jobs j false ≡ true

-- what writing asks: the sheet can be planned for, and x are the least ticks
pub record AsksWritten (s : rules.Sheet) (c : List (List ℕ)) (jobs : List Bool) (x : List ℕ) : Type 0 where
  pub inside : Inside s
  pub index : IndexOf s c
  pub wanted : WantedMarks s jobs
  pub best : LeastSolution s (tick_of x)
