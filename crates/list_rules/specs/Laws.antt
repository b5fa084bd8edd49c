-- What solves the rows: own times of every wanted job that meet the list rules. Their least solution above the least own times is
-- the least solution of the list rules, and where they have none there is no plan.
use Rattle.std.specs.Prelude.{ℕ, ◌+◌, ◌≤◌, ◌<◌, ◌≡◌, refl, true, List}
use Rattle.std.proofs.Common.{arith, sym, ap, subst, ◌∙◌, inl, inr, ⊎_elim}
use Rattle.std.proofs.Math.Logic.{dite, if_pos, if_neg}
use Rattle.rules.specs.Sheet.{Sheet, initial, well_formed}
use Rattle.rules.specs.RunList.{Plan}
use Rattle.rules.specs.Plan.{Is, OwnTimes, IsPlan, distance}
use Rattle.rules.specs.Wanted.{Absent, WantedFact, WantedJob}
use Rattle.rules.specs.Order.{ClearedLast, ClearedFirst}
use Rattle.rules.specs.Class.{ByWanted, Inside, ListRules, NoSource, ClearedGoal}
use Rattle.laws.specs.Formed.{Formed}
use Rattle.laws.specs.Events.{wanted_fact_in, wanted_job_in}
use Rattle.laws.specs.Present.{wanted_present}
use Rattle.kernel_least.specs.System.{System, Between, Solves, Least, Unsolvable, origin}
use Rattle.kernel_least.specs.Rows.{at}
use Rattle.own_times.specs.Rules.{Rules, Idle, Has}
use Rattle.own_times.specs.Times.{floor_of, same_job_lem, own_early, own_window, own_keeps, own_same, released_own}
use Rattle.own_times.specs.View.{LeastOwn, LeastOwns}
use Rattle.theory.specs.Statements.{LeastSolution}
use Rattle.theory.specs.Why.Alone.{alone_decided}
use Rattle.theory.specs.Theorem.{demand}
use Rattle.theory.specs.Computed.Pairs.{Linked}
use Rattle.list_rules.specs.Rules.{LinkRule, set_need, set_clear, need_clear, clear_set, ListedRule}
use Rattle.list_rules.specs.View.{Some}

-- ---- the rules between wanted jobs, and the list rules

abbrev KeepsLinks : Sheet → (ℕ → ℕ) → Type 0
KeepsLinks s t = (a b w : ℕ) → LinkRule s a b w → t a + w ≤ t b + origin

link
    : {s : Sheet} {k m e d i j f : ℕ} {A : ℕ → ℕ → Type 0}
    → WantedJob s i
    → Is s e i k f
    → WantedJob s j
    → Is s d j m f
    → A e d
    → Linked s k m A e d
link {s} w is w' is' a =
    record {
      in_sheet = is.in_sheet;
      in_sheet' = is'.in_sheet;
      of_kind = is.of_kind;
      of_kind' = is'.of_kind;
      one_fact = is'.of_fact ∙ sym is.of_fact;
      wanted = subst (WantedJob s) (sym is.of_job) w;
      wanted' = subst (WantedJob s) (sym is'.of_job) w';
      links = a;
    }

module _ (s : Sheet) (t : ℕ → ℕ) where
  first_is : {k m e d : ℕ} {A : ℕ → ℕ → Type 0} → Linked s k m A e d → Is s e (s.event e).job k (s.event e).fact
  first_is l = record { in_sheet = l.in_sheet; of_job = refl; of_kind = l.of_kind; of_fact = refl }

  second_is : {k m e d : ℕ} {A : ℕ → ℕ → Type 0} → Linked s k m A e d → Is s d (s.event d).job m (s.event e).fact
  second_is l = record { in_sheet = l.in_sheet'; of_job = refl; of_kind = l.of_kind'; of_fact = l.one_fact }

  far : {e d i j k m f g : ℕ} → Is s e i k f → Is s d j m g → distance s (s.event e).job (s.event d).job ≡ distance s i j
  far {e} {d} {i} is is' = ap (λ x. distance s x (s.event d).job) is.of_job ∙ ap (distance s i) is'.of_job

  rules_links : ListRules s t → KeepsLinks s t
  rules_links r a b w (set_need l x) =
      omega (arith, r.set_need _ _ a _ b l.links.0 l.links.1 l.wanted (first_is l) l.wanted' (second_is l))
  rules_links r a b w (set_clear l x) = omega (arith, r.set_clear _ _ a _ b l.links l.wanted (first_is l) l.wanted' (second_is l))
  rules_links r a b w (need_clear l x) =
      omega (arith, r.need_clear _ _ a _ b l.links l.wanted (first_is l) l.wanted' (second_is l))
  rules_links r a b w (clear_set l x) = omega (arith, r.clear_set _ _ b _ a l.links l.wanted' (second_is l) l.wanted (first_is l))

  links_rules : ((j : ℕ) → WantedJob s j → OwnTimes s j t) → KeepsLinks s t → ListRules s t
  links_rules own keeps =
      record {
        own = own;
        set_need =
            λ f i e j b wf q w is w' is'.
            let known = subst (WantedFact s) (sym is.of_fact) wf in
            let unset = ap (initial s) is.of_fact ∙ q in
            let z = keeps e b _ (set_need (link w is w' is' (known, unset)) refl) in
            omega (arith, far is is');
        set_clear =
            λ f i e j d c w is w' is'.
            let z = keeps e d _ (set_clear (link w is w' is' (subst (ClearedLast s) (sym is.of_fact) c)) refl) in
            omega arith;
        need_clear =
            λ f i e j d c w is w' is'.
            let z = keeps e d _ (need_clear (link w is w' is' (subst (ClearedLast s) (sym is.of_fact) c)) refl) in
            omega (arith, far is is');
        clear_set =
            λ f i e j d c w is w' is'.
            let z = keeps d e _ (clear_set (link w' is' w is (subst (ClearedFirst s) (sym is'.of_fact) c)) refl) in
            omega arith;
      }

-- ---- the rows

-- a system with the events as variables, the horizon as ceiling and the rules R
abbrev pub list_system : Sheet → Rules → System
list_system s R = record { lo = 0; hi = s.events; ceiling = s.horizon; rule = R }

module _ (s : Sheet) (formed : Formed s) (R : Rules) (has : Has s.horizon (ListedRule s) R) where
  link_in : {a b w : ℕ} → LinkRule s a b w → a < s.events
  link_in (set_need l x) = l.in_sheet
  link_in (set_clear l x) = l.in_sheet
  link_in (need_clear l x) = l.in_sheet
  link_in (clear_set l x) = l.in_sheet

  module _ (t : ℕ → ℕ) (within : (e : ℕ) → e < s.events → t e ≤ s.horizon) (keeps : (a b w : ℕ) → R a b w → t a + w ≤ t b + origin) where
    -- what always holds within the window need not be listed
    kept : (a b w : ℕ) → a < s.events → ListedRule s a b w → t a + w ≤ t b + origin
    kept a b w l x = ⊎_elim (λ (h : Idle s.horizon w). omega (arith, within a l)) (keeps a b w) (has.whole a b w x)

    -- ticks that keep the rows, none before its job's first, meet the list rules
    kept_rules : ((e : ℕ) → e < s.events → WantedJob s (s.event e).job → floor_of s e ≤ t e) → ListRules s t
    kept_rules above =
        links_rules s t
        (λ j want.
        released_own s formed j t
        (λ e l q. rw (sym q) (above e l (subst (WantedJob s) (sym q) want)))
        (λ e l q. within e l)
        (λ a b w x.
        kept a b w (same_job_lem s formed a b w x.rule).0 (inl (subst (WantedJob s) (sym x.of_job) want, x.rule))))
        (λ a b w x. kept a b w (link_in x) (inr x))

-- ---- above the least own times

-- the least own times of the wanted jobs, and ticks within the horizon for all events
pub record Floor (s : Sheet) (floor : ℕ → ℕ) : Type 0 where
  pub own : (j : ℕ) → WantedJob s j → LeastOwn s j floor
  pub within : (e : ℕ) → e < s.events → floor e ≤ s.horizon

pub floor_of_lem : {s : Sheet} (x : List ℕ) → Formed s → LeastOwns s x → Floor s (at x)
unfolding Absent
floor_of_lem {s} x formed least =
    record {
      own = λ j w. least.own j (wanted_job_in formed w) (wanted_present w);
      within =
          λ e l.
          dite (alone_decided formed (s.event e).job)
          (λ here. own_window s formed _ (at x) (least.own _ (formed.job e l) here).own e l refl)
          (λ gone. omega (arith, least.cleared e l gone));
    }

module _
    (s : Sheet) (formed : Formed s)
    (wanted : (j : ℕ) → Dec (WantedJob s j))
    (floor : ℕ → ℕ) (lowest : Floor s floor)
    (u : ℕ → ℕ) (rules : ListRules s u)
  where
    -- ticks that meet the list rules, and the floor for the jobs that are not wanted
    joined : ℕ → ℕ
    joined e = dite (wanted (s.event e).job) (λ w. u e) (λ g. floor e)

    at_wanted : (e : ℕ) → WantedJob s (s.event e).job → joined e ≡ u e
    unfolding joined
    at_wanted e w = if_pos (wanted (s.event e).job) w (u e) (floor e)

    at_other : (e : ℕ) → (WantedJob s (s.event e).job → ⊥) → joined e ≡ floor e
    unfolding joined
    at_other e g = if_neg (wanted (s.event e).job) g (u e) (floor e)

    own_joined : (j : ℕ) → WantedJob s j → OwnTimes s j joined
    own_joined j w = own_same s formed j u joined (λ e l q. at_wanted e (subst (WantedJob s) (sym q) w)) (rules.own j w)

    links_joined : KeepsLinks s joined
    links_joined a b w x = let (p, q) = ends_wanted x in omega (arith, at_wanted a p, at_wanted b q, rules_links s u rules a b w x)
      where
        ends_wanted : LinkRule s a b w → WantedJob s (s.event a).job × WantedJob s (s.event b).job
        ends_wanted (set_need l z) = (l.wanted, l.wanted')
        ends_wanted (set_clear l z) = (l.wanted, l.wanted')
        ends_wanted (need_clear l z) = (l.wanted, l.wanted')
        ends_wanted (clear_set l z) = (l.wanted, l.wanted')

    rows_joined : (a b w : ℕ) → ListedRule s a b w → joined a + w ≤ joined b + origin
    rows_joined a b w (inl x) = own_keeps s formed _ joined (own_joined _ x.0) a b w (record { of_job = refl; rule = x.1 })
    rows_joined a b w (inr x) = links_joined a b w x

    above_floor : (e : ℕ) → e < s.events → floor e ≤ joined e
    above_floor e l =
        dite (wanted (s.event e).job)
        (λ w. omega (arith, at_wanted e w, (lowest.own (s.event e).job w).least u (rules.own _ w) e l refl))
        (λ g. omega (arith, at_other e g))

    below_horizon : (e : ℕ) → e < s.events → joined e ≤ s.horizon
    below_horizon e l =
        dite (wanted (s.event e).job)
        (λ w. own_window s formed _ joined (own_joined _ w) e l refl)
        (λ g. omega (arith, at_other e g, lowest.within e l))

    joined_solves
        : (R : Rules)
        → Has s.horizon (ListedRule s) R
        → (y : ℕ → ℕ) × Solves (list_system s R) floor y × ((e : ℕ) → WantedJob s (s.event e).job → y e ≡ u e)
    joined_solves R has = (
      joined,
      record {
        above = λ v o. above_floor v o.below;
        below = λ v o. below_horizon v o.below;
        kept = λ a b w x. rows_joined a b w (has.sound a b w x);
      },
      at_wanted,
    )

module _
    (s : Sheet) (formed : Formed s) (R : Rules) (has : Has s.horizon (ListedRule s) R)
    (wanted : (j : ℕ) → Dec (WantedJob s j))
    (floor : ℕ → ℕ) (lowest : Floor s floor)
  where
    -- what lies above the least own times lies above the first ticks
    released : (x : ℕ → ℕ) → ((v : ℕ) → Between 0 s.events v → floor v ≤ x v) → (e : ℕ) → e < s.events → WantedJob s (s.event e).job → floor_of
        s e ≤ x e
    released x above e l w =
        omega (
          arith,
          above e (record { from = omega arith; below = l }),
          own_early s formed _ floor (lowest.own _ w).own e l refl,
        )

    -- the least solution of the rows is that of the list rules
    pub least_ticks_lem
        : (x : ℕ → ℕ)
        → Least (list_system s R) floor x
        → ((f : ℕ) → NoSource s f → ⊥)
        → ((f : ℕ) → ClearedGoal s f → ⊥)
        → LeastSolution s x
    least_ticks_lem x p sources goals =
        record {
          solution =
              record {
                rules =
                    kept_rules s formed R has x
                    (λ e l. p.solves.below e (record { from = omega arith; below = l }))
                    p.solves.kept
                    (released x p.solves.above);
                sources = sources;
                goals = goals;
              };
          least =
              λ u rules e l w.
              let (y, solves, same) = joined_solves s formed wanted floor lowest u rules R has in
              omega (arith, same e w, p.least y solves e (record { from = omega arith; below = l }));
        }

    -- where the rows have no solution, the list rules have none
    pub no_ticks : Unsolvable (list_system s R) floor → (u : ℕ → ℕ) → ListRules s u → ⊥
    no_ticks p u rules = let (y, solves, same) = joined_solves s formed wanted floor lowest u rules R has in p y solves

-- ---- the two other reasons, of any fact

pub sources : {s : Sheet} → Formed s → (Some (NoSource s) s.facts → ⊥) → (f : ℕ) → NoSource s f → ⊥
sources formed h f p = h (record { fact = f; exists = wanted_fact_in formed p.is_wanted; has = p })

pub goals : {s : Sheet} → Formed s → (Some (ClearedGoal s) s.facts → ⊥) → (f : ℕ) → ClearedGoal s f → ⊥
unfolding ByWanted
goals {s} formed h f p =
    let (e, j, is, w) = p.is_cleared in
    h (record { fact = f; exists = subst (λ f. f < s.facts) is.of_fact (formed.fact e is.in_sheet); has = p })

-- ---- hence there is no plan

pub no_plan_lem
    : {s : Sheet} → well_formed s ≡ true → Inside s → ((u : ℕ → ℕ) → ListRules s u → ⊥) → (p : Plan) → IsPlan s p → ⊥
no_plan_lem form inside h p plan = let (t, solved) = (demand form inside).exactly.0 (p, plan) in h t solved.rules

pub no_source : {s : Sheet} → well_formed s ≡ true → Inside s → (f : ℕ) → NoSource s f → (p : Plan) → IsPlan s p → ⊥
no_source form inside f h p plan = let (t, solved) = (demand form inside).exactly.0 (p, plan) in solved.sources f h

pub cleared_goal : {s : Sheet} → well_formed s ≡ true → Inside s → (f : ℕ) → ClearedGoal s f → (p : Plan) → IsPlan s p → ⊥
cleared_goal form inside f h p plan = let (t, solved) = (demand form inside).exactly.0 (p, plan) in solved.goals f h
