-- What the code's Wanted holds: exactly the wanted facts and jobs; and what each marking asks and gives.
use Rattle.std.specs.Prelude.{ℕ, ◌≡◌, ◌⊎◌, true, false, List, length, get_or}
use Rattle.rules.specs.Sheet as rules
use Rattle.rules.specs.Sheet.{max_facts, max_jobs, initial, begins, sets}
use Rattle.rules.specs.Plan.{Is}
use Rattle.rules.specs.Wanted.{OfPresent, WantedFact, WantedJob}
use Rattle.index.specs.View.{IndexOf}
use Rattle.wanted.specs.declared.Wanted.{Wanted}

-- the mark of fact f, of job j
abbrev pub FactIn : Wanted → ℕ → Type 0
FactIn w f = get_or w.facts f false ≡ true

abbrev pub JobIn : Wanted → ℕ → Type 0
JobIn w j = get_or w.jobs j false ≡ true

-- the marks are the wanted facts and jobs, all of them and no other
pub record WantedOf (s : rules.Sheet) (w : Wanted) : Type 0 where
  pub fact_wanted : (f : ℕ) → FactIn w f → WantedFact s f
  pub fact_marked : (f : ℕ) → WantedFact s f → FactIn w f
  pub job_wanted : (j : ℕ) → JobIn w j → WantedJob s j
  pub job_marked : (j : ℕ) → WantedJob s j → JobIn w j

-- ---- marking

-- fact f is wanted, and what follows from it is marked: its present setters, unless it is initial
pub record FactFollowed (s : rules.Sheet) (w : Wanted) (f : ℕ) : Type 0 where
  pub wanted : WantedFact s f
  pub setters : initial s f ≡ false → (e j : ℕ) → OfPresent s e j sets f → JobIn w j

-- job j is wanted, and so its needs are marked
pub record JobFollowed (s : rules.Sheet) (w : Wanted) (j : ℕ) : Type 0 where
  pub wanted : WantedJob s j
  pub needs : (e f : ℕ) → Is s e j begins f → FactIn w f

pub record Sized (w : Wanted) : Type 0 where
  pub facts : length w.facts ≡ max_facts
  pub jobs : length w.jobs ≡ max_jobs

-- from w to r every mark stays, and each new one is done in r
pub record MarksGrow (s : rules.Sheet) (w r : Wanted) : Type 0 where
  pub sized : Sized r
  pub keeps_fact : (f : ℕ) → FactIn w f → FactIn r f
  pub keeps_job : (j : ℕ) → JobIn w j → JobIn r j
  pub new_fact : (f : ℕ) → FactIn r f → FactIn w f ⊎ FactFollowed s r f
  pub new_job : (j : ℕ) → JobIn r j → JobIn w j ⊎ JobFollowed s r j

-- what every marking is handed: the sheet's index, the marks w
pub record Marking (s : rules.Sheet) (c : List (List ℕ)) (w : Wanted) : Type 0 where
  pub index : IndexOf s c
  pub sized : Sized w

-- what marking fact f gives, marking its setters, marking the needs of job j
pub record MarksFact (s : rules.Sheet) (w : Wanted) (f : ℕ) (r : Wanted) : Type 0 where
  pub grown : MarksGrow s w r
  pub marked : FactIn r f

pub record MarksSetters (s : rules.Sheet) (w : Wanted) (f : ℕ) (r : Wanted) : Type 0 where
  pub grown : MarksGrow s w r
  pub marked : (e j : ℕ) → OfPresent s e j sets f → JobIn r j

pub record MarksNeeds (s : rules.Sheet) (w : Wanted) (j : ℕ) (r : Wanted) : Type 0 where
  pub grown : MarksGrow s w r
  pub marked : (e f : ℕ) → Is s e j begins f → FactIn r f
