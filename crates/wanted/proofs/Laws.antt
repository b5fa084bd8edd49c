-- Marking: how far marks have grown, that what is left unmarked falls, and that grown marks with every goal are the least sets.
use Prim.Native.Nat.{ℕ, zero, suc, ◌+◌, ◌≤◌, ◌<◌}
use native.Mathlib.Omega.{arith}
use mathlib.Core.Path.{◌≡◌, refl, sym, ap, subst, ◌∙◌}
use mathlib.Core.Logic.{◌⊎◌, inl, inr, ⊎_elim}
use mathlib.Core.Bool.{Bool, true, false, not, true≢false, false≢true}
use mathlib.Core.List.{List}
use lib.ListN.{length, get_or, set, replicate, length-set, length-replicate}
use lib.Seq.{get_or-set_same}
use Rattle.rules.specs.Count.{count}
use Rattle.rules.specs.Sheet.{Sheet, max_facts, max_jobs, initial, goal, begins, sets}
use Rattle.rules.specs.Wanted.{WantedFact, WantedJob, is_goal, is_need, is_setter}
use Rattle.laws.specs.Events.{wanted_fact_in, wanted_job_in}
use Rattle.laws.specs.Counts.{bit, count_more, count_fewer}
use Rattle.sheet.specs.View.{meaning, IsFormed, event_from}
use Rattle.sheet.specs.declared.Sheet as view
use Rattle.sheet.specs.declared.Event.{Event}
use Rattle.sheet.specs.declared.Event.TheVariants.{Begins}
use Rattle.laws.specs.Set.{same_or_not, set_cases}
use Rattle.index.specs.View.{ByFactOf, ByJobOf}
use Rattle.wanted.specs.declared.Wanted.{Wanted}
use Rattle.wanted.specs.View.{FactIn, JobIn, WantedOf, FactFollowed, JobFollowed, Sized, MarksGrow, MarksFact, MarksSetters, MarksNeeds}

-- ---- what is left unmarked

-- how many of n marks are not set
unset : List Bool → ℕ → ℕ
unset l n = count (λ i. not (get_or l i false)) n

-- the measure: unmarked facts and jobs
pub left : Wanted → ℕ
left w = unset w.facts max_facts + unset w.jobs max_jobs

bit_not : (a b : Bool) → (a ≡ true → b ≡ true) → bit (not b) ≤ bit (not a)
bit_not true b h = rw (h refl) (omega arith)
bit_not false true h = omega arith
bit_not false false h = omega arith

unset_more : (l m : List Bool) (n : ℕ) → ((i : ℕ) → get_or l i false ≡ true → get_or m i false ≡ true) → unset m n ≤ unset l n
unfolding unset
unset_more l m n h = count_more _ _ n (λ i. bit_not (get_or l i false) (get_or m i false) (h i))

-- a store of a mark keeps the others
set_keeps : (l : List Bool) (i j : ℕ) → i < length l → get_or l j false ≡ true → get_or (set l i true) j false ≡ true
set_keeps l i j small h = set_cases (λ k x. x ≡ true) false l i true j small refl (λ d. h)

set_new
    : (l : List Bool) (i j : ℕ) → i < length l → get_or (set l i true) j false ≡ true → (get_or l j false ≡ true) ⊎ (j ≡ i)
set_new l i j small =
    set_cases (λ k x. x ≡ true → (get_or l k false ≡ true) ⊎ (k ≡ i)) false l i true j small (λ h. inr refl) (λ d h. inl h)

unset_set : (l : List Bool) (i n : ℕ) → i < n → i < length l → get_or l i false ≡ false → unset (set l i true) n < unset l n
unfolding unset
unset_set l i n m small h =
    count_fewer _ _ i n m
    (λ j. bit_not (get_or l j false) (get_or (set l i true) j false) (set_keeps l i j small))
    (rw (get_or-set_same l i true false small, h) (omega arith))

-- a wanted fact and a wanted job have a mark
module _ {v : view.Sheet} {b : List ℕ} (formed : IsFormed v b) where
  pub fact_few : {f : ℕ} → WantedFact (meaning v b) f → f < max_facts
  fact_few h = omega (arith, wanted_fact_in formed.formed h, formed.formed.facts)

  pub job_few : {j : ℕ} → WantedJob (meaning v b) j → j < max_jobs
  job_few h = omega (arith, wanted_job_in formed.formed h, formed.formed.jobs)

-- ---- growing

-- w with fact f marked, with job j marked
abbrev pub with_fact : Wanted → ℕ → Wanted
with_fact w f = record { facts = set w.facts f true; jobs = w.jobs }

abbrev pub with_job : Wanted → ℕ → Wanted
with_job w j = record { facts = w.facts; jobs = set w.jobs j true }

pub sized_fact : (w : Wanted) (f : ℕ) → Sized w → Sized (with_fact w f)
sized_fact w f z = record { facts = length-set w.facts f true ∙ z.facts; jobs = z.jobs }

pub sized_job : (w : Wanted) (j : ℕ) → Sized w → Sized (with_job w j)
sized_job w j z = record { facts = z.facts; jobs = length-set w.jobs j true ∙ z.jobs }

pub left_fact : (w : Wanted) (f : ℕ) → Sized w → f < max_facts → get_or w.facts f false ≡ false → left (with_fact w f) < left w
unfolding left
left_fact w f z l h = omega (arith, unset_set w.facts f max_facts l (omega (arith, z.facts)) h)

pub left_job : (w : Wanted) (j : ℕ) → Sized w → j < max_jobs → get_or w.jobs j false ≡ false → left (with_job w j) < left w
unfolding left
left_job w j z l h = omega (arith, unset_set w.jobs j max_jobs l (omega (arith, z.jobs)) h)

module _ {s : Sheet} where
  pub left_grown : {w r : Wanted} → MarksGrow s w r → left r ≤ left w
  unfolding left
  left_grown {w} {r} g =
      omega (arith, unset_more w.facts r.facts max_facts g.keeps_fact, unset_more w.jobs r.jobs max_jobs g.keeps_job)

  pub marked_at_lem : {w r : Wanted} {f g : ℕ} → MarksFact s w f r → g ≡ f → FactIn r g
  marked_at_lem {r = r} h q = subst (FactIn r) (sym q) h.marked

  pub grown_none : {w : Wanted} → Sized w → MarksGrow s w w
  grown_none z =
      record {
        sized = z;
        keeps_fact = λ f h. h;
        keeps_job = λ j h. h;
        new_fact = λ f h. inl h;
        new_job = λ j h. inl h;
      }

  -- what is done stays done
  fact_stays : {w r : Wanted} {f : ℕ} → MarksGrow s w r → FactFollowed s w f → FactFollowed s r f
  fact_stays g d = record { wanted = d.wanted; setters = λ n e j i. g.keeps_job j (d.setters n e j i) }

  job_stays : {w r : Wanted} {j : ℕ} → MarksGrow s w r → JobFollowed s w j → JobFollowed s r j
  job_stays g d = record { wanted = d.wanted; needs = λ e f i. g.keeps_fact f (d.needs e f i) }

  grown_more : {w x r : Wanted} → MarksGrow s w x → MarksGrow s x r → MarksGrow s w r
  grown_more g k =
      record {
        sized = k.sized;
        keeps_fact = λ f h. k.keeps_fact f (g.keeps_fact f h);
        keeps_job = λ j h. k.keeps_job j (g.keeps_job j h);
        new_fact =
            λ f h. ⊎_elim (λ o. ⊎_elim inl (λ d. inr (fact_stays k d)) (g.new_fact f o)) inr (k.new_fact f h);
        new_job = λ j h. ⊎_elim (λ o. ⊎_elim inl (λ d. inr (job_stays k d)) (g.new_job j o)) inr (k.new_job j h);
      }

  -- a fact that is marked first, and done in the end
  grown_fact
      : {w r : Wanted} {f : ℕ} → Sized w → f < max_facts → MarksGrow s (with_fact w f) r → FactFollowed s r f → MarksFact s w f r
  grown_fact {w} {r} {f} z l g d =
      let small : f < length w.facts = omega (arith, z.facts) in
      record {
        grown =
            record {
              sized = g.sized;
              keeps_fact = λ k h. g.keeps_fact k (set_keeps w.facts f k small h);
              keeps_job = g.keeps_job;
              new_fact =
                  λ k h.
                  ⊎_elim
                  (λ o. ⊎_elim inl (λ e. inr (subst (FactFollowed s r) (sym e) d)) (set_new w.facts f k small o))
                  inr
                  (g.new_fact k h);
              new_job = g.new_job;
            };
        marked = g.keeps_fact f (get_or-set_same w.facts f true false small);
      }

  grown_job
      : {w r : Wanted} {j : ℕ}
      → Sized w
      → j < max_jobs
      → MarksGrow s (with_job w j) r
      → JobFollowed s r j
      → MarksGrow s w r × JobIn r j
  grown_job {w} {r} {j} z l g d =
      let small : j < length w.jobs = omega (arith, z.jobs) in (
        record {
          sized = g.sized;
          keeps_fact = g.keeps_fact;
          keeps_job = λ k h. g.keeps_job k (set_keeps w.jobs j k small h);
          new_fact = g.new_fact;
          new_job =
              λ k h.
              ⊎_elim
              (λ o. ⊎_elim inl (λ e. inr (subst (JobFollowed s r) (sym e) d)) (set_new w.jobs j k small o))
              inr
              (g.new_job k h);
        },
        g.keeps_job j (get_or-set_same w.jobs j true false small),
      )

  -- marking a fact that is marked; that is initial; any other
  pub fact_again : {w : Wanted} {f : ℕ} → Sized w → FactIn w f → MarksFact s w f w
  fact_again z h = record { grown = grown_none z; marked = h }

  pub fact_initial
      : {w : Wanted} {f : ℕ} → Sized w → f < max_facts → WantedFact s f → initial s f ≡ true → MarksFact s w f (with_fact w f)
  fact_initial {w} {f} z l h i =
      grown_fact z l
      (grown_none (sized_fact w f z))
      (record { wanted = h; setters = λ n e j k. absurd (true≢false (sym i ∙ n)) })

  pub fact_set
      : {w r : Wanted} {f : ℕ} → Sized w → f < max_facts → WantedFact s f → MarksSetters s (with_fact w f) f r → MarksFact s w f r
  fact_set z l h m = grown_fact z l m.grown (record { wanted = h; setters = λ n. m.marked })

  -- marking a job that is not marked
  pub job_new
      : {w r : Wanted} {j : ℕ} → Sized w → j < max_jobs → WantedJob s j → MarksNeeds s (with_job w j) j r → MarksGrow s w r × JobIn r j
  job_new z l h m = grown_job z l m.grown (record { wanted = h; needs = m.marked })

-- what an event's case says of its type and fact
pub begins_of : (x : Event) (k g f : ℕ) → x ≡ event_from k g → x ≡ Begins f → (k ≡ begins) × (g ≡ f)
unfolding event_from
begins_of x zero g f p q = (refl, cc)
begins_of x (suc zero) g f p q = absurd (let z : ◌≡◌ {A = ℕ} 0 1 = cc in omega arith)
begins_of x (suc (suc zero)) g f p q = absurd (let z : ◌≡◌ {A = ℕ} 0 1 = cc in omega arith)
begins_of x (suc (suc (suc k))) g f p q = absurd (let z : ◌≡◌ {A = ℕ} 0 1 = cc in omega arith)

pub not_begins : (x : Event) (k g : ℕ) → x ≡ event_from k g → ((f : ℕ) → x ≡ Begins f → ⊥) → k ≡ begins → ⊥
unfolding event_from
not_begins x k g p h q = h g (p ∙ ap (λ i. event_from i g) q)

-- ---- a loop that marks: P holds at the places passed
pub record Swept (s : Sheet) (P : Wanted → ℕ → Type 0) (w r : Wanted) (from to : ℕ) : Type 0 where
  pub grown : MarksGrow s w r
  pub each : (i : ℕ) → from ≤ i → i < to → P r i

module _ {s : Sheet} (P : Wanted → ℕ → Type 0) (stays : (w r : Wanted) → MarksGrow s w r → (i : ℕ) → P w i → P r i) where
  pub swept_none : {w : Wanted} (from : ℕ) → Sized w → Swept s P w w from from
  swept_none from z = record { grown = grown_none z; each = λ i l m. absurd (omega arith) }

  pub swept_next
      : {w x r : Wanted} {from i : ℕ} → Swept s P w x from i → MarksGrow s x r → P r i → Swept s P w r from (i + 1)
  swept_next {w} {x} {r} {from} {i} h g p =
      record {
        grown = grown_more h.grown g;
        each = λ k l m. same_or_not k i (λ e. subst (P r) (sym e) p) (λ d. stays x r g k (h.each k l (omega arith)));
      }

-- the three loops: a fact's setters, a job's needs, the goals
abbrev pub SetterAt : Sheet → List ℕ → Wanted → ℕ → Type 0
SetterAt s event w i = JobIn w (s.event (get_or event i 0)).job

abbrev pub NeedAt : Sheet → Wanted → ℕ → Type 0
NeedAt s w e = (s.event e).kind ≡ begins → FactIn w (s.event e).fact

abbrev pub GoalAt : Sheet → Wanted → ℕ → Type 0
GoalAt s w f = goal s f ≡ true → FactIn w f

pub setter_stays : (s : Sheet) (event : List ℕ) (w r : Wanted) → MarksGrow s w r → (i : ℕ) → SetterAt s event w i → SetterAt s event r i
setter_stays s event w r g i = g.keeps_job (s.event (get_or event i 0)).job

pub need_stays : (s : Sheet) (w r : Wanted) → MarksGrow s w r → (e : ℕ) → NeedAt s w e → NeedAt s r e
need_stays s w r g e h q = g.keeps_fact (s.event e).fact (h q)

pub goal_stays : (s : Sheet) (w r : Wanted) → MarksGrow s w r → (f : ℕ) → GoalAt s w f → GoalAt s r f
goal_stays s w r g f h q = g.keeps_fact f (h q)

module _ {s : Sheet} {w r : Wanted} where
  pub setters_end
      : {first event : List ℕ} {f m n : ℕ}
      → ByFactOf s sets first event
      → f < s.facts
      → Swept s (SetterAt s event) w r m n
      → m ≤ get_or first f 0
      → get_or first (f + 1) 0 ≤ n
      → MarksSetters s w f r
  setters_end {first} {event} {f} {m} {n} ix l h start last =
      record {
        grown = h.grown;
        marked =
            λ e j i.
            let (k, low, high, at) = ix.whole e j f l i in
            subst (JobIn r) (ap (λ d. (s.event d).job) at ∙ i.is.of_job) (h.each k (omega arith) (omega arith));
      }

  pub needs_end
      : {span : List ℕ} {j m n : ℕ}
      → ByJobOf s span
      → j < s.jobs
      → Swept s (NeedAt s) w r m n
      → m ≤ get_or span j 0
      → get_or span (j + 1) 0 ≤ n
      → MarksNeeds s w j r
  needs_end {span} {j} {m} {n} ix l h start last =
      record {
        grown = h.grown;
        marked =
            λ e f i.
            let low = ix.from e j i.in_sheet l i.of_job in
            let high = ix.to e j i.in_sheet l i.of_job in
            subst (FactIn r) i.of_fact (h.each e (omega arith) (omega arith) i.of_kind);
      }

-- each place of equal elements, and each behind them, has that element
pub same_everywhere : {A : Type 0} (n i : ℕ) (a : A) → get_or (replicate n a) i a ≡ a
same_everywhere zero i a = refl
same_everywhere (suc n) zero a = refl
same_everywhere (suc n) (suc i) a = same_everywhere n i a

-- ---- the least sets
abbrev pub none : Wanted
none = record { facts = replicate max_facts false; jobs = replicate max_jobs false }

pub none_sized : Sized none
none_sized = record { facts = length-replicate max_facts false; jobs = length-replicate max_jobs false }

module _ {s : Sheet} {w : Wanted} {n : ℕ} (h : Swept s (GoalAt s) none w 0 n) (last : s.facts ≤ n) where
  fact_done : (f : ℕ) → FactIn w f → FactFollowed s w f
  fact_done f m = ⊎_elim (λ o. absurd (false≢true (sym (same_everywhere max_facts f false) ∙ o))) (λ d. d) (h.grown.new_fact f m)

  job_done : (j : ℕ) → JobIn w j → JobFollowed s w j
  job_done j m = ⊎_elim (λ o. absurd (false≢true (sym (same_everywhere max_jobs j false) ∙ o))) (λ d. d) (h.grown.new_job j m)

  mutual
    fact_marked_lem : {f : ℕ} → WantedFact s f → FactIn w f
    fact_marked_lem {f} (is_goal l g) = h.each f (omega arith) (omega arith) g
    fact_marked_lem {f} (is_need {j} e a i) = (job_done j (job_marked_lem a)).needs e f i

    job_marked_lem : {j : ℕ} → WantedJob s j → JobIn w j
    job_marked_lem {j} (is_setter {f = f} e a n i) = (fact_done f (fact_marked_lem a)).setters n e j i

  pub least : WantedOf s w
  least =
      record {
        fact_wanted = λ f m. (fact_done f m).wanted;
        fact_marked = λ f a. fact_marked_lem a;
        job_wanted = λ j m. (job_done j m).wanted;
        job_marked = λ j a. job_marked_lem a;
      }
