-- How it is computed: the list rules as difference rules, found by going through the bounds and the pairs of events,
-- and that they have a least solution whenever they have one.
use Rattle.std.specs.Prelude.{ℕ, ◌+◌, ◌≤◌, ◌<◌, ◌≡◌, refl, ◌⊎◌, false}
use Rattle.std.proofs.Math.Path.{sym, ap}
use Rattle.std.proofs.Common.{◌∙◌, inl, inr, ⊎_elim, arith}
use Rattle.std.proofs.Math.Logic.{dite}
use Rattle.std.proofs.Math.Logic.Dec.{and as dec_and}
use Rattle.std.proofs.Math.Bool.{Bool-discrete}
use Rattle.std.proofs.Math.Decide.{dec_lt, ℕ_discrete, map_dec}
use Rattle.rules.specs.Count.{None}
use Rattle.rules.specs.Sheet.{Sheet, origin, initial, begins, ends, sets, clears}
use Rattle.rules.specs.Plan.{Is, OwnTimes, earliest, latest, distance}
use Rattle.rules.specs.Wanted.{WantedFact, WantedJob}
use Rattle.rules.specs.Order.{ClearedLast, ClearedFirst}
use Rattle.rules.specs.Class.{ListRules}
use Rattle.laws.specs.Formed.{Formed}
use Rattle.theory.specs.Statements.{Solution, LeastSolution}
use Rattle.theory.specs.Why.Places.{find, some_dec}
use Rattle.theory.specs.Computed.Decided.{job_decided, fact_decided}
use Rattle.theory.specs.Computed.Raise.{Rule, rule_of, Keeps, Broken, raise_ends}

-- events e, of type k, and d, of type m, are of one fact and of wanted jobs, and A holds of them
pub record Linked (s : Sheet) (k m : ℕ) (A : ℕ → ℕ → Type 0) (e d : ℕ) : Type 0 where
  pub in_sheet : e < s.events
  pub in_sheet' : d < s.events
  pub of_kind : (s.event e).kind ≡ k
  pub of_kind' : (s.event d).kind ≡ m
  pub one_fact : (s.event d).fact ≡ (s.event e).fact
  pub wanted : WantedJob s (s.event e).job
  pub wanted' : WantedJob s (s.event d).job
  pub links : A e d

abbrev SameJob : Sheet → ℕ → ℕ → Type 0
SameJob s e d = (s.event e).job ≡ (s.event d).job

abbrev pub Sourced : Sheet → ℕ → ℕ → Type 0
Sourced s e d = WantedFact s (s.event e).fact × (initial s (s.event e).fact ≡ false)

abbrev pub Last : Sheet → ℕ → ℕ → Type 0
Last s e d = ClearedLast s (s.event e).fact

abbrev pub First : Sheet → ℕ → ℕ → Type 0
First s e d = ClearedFirst s (s.event e).fact

-- bound i is of a wanted job
record Bounds (s : Sheet) (i : ℕ) : Type 0 where
  pub in_sheet : i < s.bounds
  pub wanted : WantedJob s (s.event (s.bound i).later).job

-- the rules: a bound's two sides; d not before e; e before d, by one tick; e before d, in one job not after
abbrev pub low_of : Sheet → ℕ → Rule
low_of s i = rule_of (s.bound i).earlier (s.bound i).low (s.bound i).later origin

abbrev pub high_of : Sheet → ℕ → Rule
high_of s i = rule_of (s.bound i).later origin (s.bound i).earlier (s.bound i).high

abbrev not_after : ℕ → ℕ → Rule
not_after e d = rule_of e 0 d 0

abbrev before : ℕ → ℕ → Rule
before e d = rule_of e 1 d 0

abbrev pub apart : Sheet → ℕ → ℕ → Rule
apart s e d = rule_of e (distance s (s.event e).job (s.event d).job) d 0

data PairRule (s : Sheet) : Rule → Type 0 where
  low : (i : ℕ) → Bounds s i → PairRule s (low_of s i)
  high : (i : ℕ) → Bounds s i → PairRule s (high_of s i)
  need : (e d : ℕ) → Linked s begins ends (SameJob s) e d → PairRule s (not_after e d)
  set_need : (e d : ℕ) → Linked s sets begins (Sourced s) e d → PairRule s (apart s e d)
  set_clear : (e d : ℕ) → Linked s sets clears (Last s) e d → PairRule s (before e d)
  need_clear : (e d : ℕ) → Linked s ends clears (Last s) e d → PairRule s (apart s e d)
  clear_set : (e d : ℕ) → Linked s clears sets (First s) e d → PairRule s (before e d)

-- ---- they are the list rules

-- e is an event of a wanted job
record OfWanted (s : Sheet) (e : ℕ) : Type 0 where
  pub in_sheet : e < s.events
  pub wanted : WantedJob s (s.event e).job

module _ {s : Sheet} where
  link
      : {k m e d i j f : ℕ} {A : ℕ → ℕ → Type 0}
      → WantedJob s i
      → Is s e i k f
      → WantedJob s j
      → Is s d j m f
      → A e d
      → Linked s k m A e d
  link w is w' is' a =
      record {
        in_sheet = is.in_sheet;
        in_sheet' = is'.in_sheet;
        of_kind = is.of_kind;
        of_kind' = is'.of_kind;
        one_fact = is'.of_fact ∙ sym is.of_fact;
        wanted = rw is.of_job w;
        wanted' = rw is'.of_job w';
        links = a;
      }

  first_is : {k m e d : ℕ} {A : ℕ → ℕ → Type 0} → Linked s k m A e d → Is s e (s.event e).job k (s.event e).fact
  first_is l = record { in_sheet = l.in_sheet; of_job = refl; of_kind = l.of_kind; of_fact = refl }

  second_is : {k m e d : ℕ} {A : ℕ → ℕ → Type 0} → Linked s k m A e d → Is s d (s.event d).job m (s.event e).fact
  second_is l = record { in_sheet = l.in_sheet'; of_job = refl; of_kind = l.of_kind'; of_fact = l.one_fact }

  far : {e d i j k m f g : ℕ} → Is s e i k f → Is s d j m g → distance s (s.event e).job (s.event d).job ≡ distance s i j
  far {e} {d} {i} is is' = ap (λ x. distance s x (s.event d).job) is.of_job ∙ ap (distance s i) is'.of_job

  linked_ends : {k m e d : ℕ} {A : ℕ → ℕ → Type 0} → Linked s k m A e d → OfWanted s e × OfWanted s d
  linked_ends l = (record { in_sheet = l.in_sheet; wanted = l.wanted }, record { in_sheet = l.in_sheet'; wanted = l.wanted' })

  module _ (ok : Formed s) where
    -- the two ends of bound i
    later_of : {i : ℕ} → Bounds s i → OfWanted s (s.bound i).later
    later_of {i} b = record { in_sheet = (ok.bound i b.in_sheet).later; wanted = b.wanted }

    earlier_of : {i : ℕ} → Bounds s i → OfWanted s (s.bound i).earlier
    earlier_of {i} b = record { in_sheet = (ok.bound i b.in_sheet).earlier; wanted = rw (ok.bound i b.in_sheet).same_job at b.wanted }

    pair_ends : (r : Rule) → PairRule s r → OfWanted s r.from × OfWanted s r.to
    pair_ends r (low i b) = (earlier_of b, later_of b)
    pair_ends r (high i b) = (later_of b, earlier_of b)
    pair_ends r (need e d l) = linked_ends l
    pair_ends r (set_need e d l) = linked_ends l
    pair_ends r (set_clear e d l) = linked_ends l
    pair_ends r (need_clear e d l) = linked_ends l
    pair_ends r (clear_set e d l) = linked_ends l

  list_keeps : {r : Rule} {t : ℕ → ℕ} → ListRules s t → PairRule s r → Keeps r t
  unfolding Keeps
  list_keeps rules (low i b) = ((rules.own _ b.wanted).bounds i b.in_sheet refl).low
  list_keeps rules (high i b) = ((rules.own _ b.wanted).bounds i b.in_sheet refl).high
  list_keeps rules (need e d l) =
      omega (arith, (rules.own _ l.wanted).needs e d _ (first_is l) (rw l.links (second_is l)))
  list_keeps rules (set_need e d l) =
      omega (arith, rules.set_need _ _ e _ d l.links.0 l.links.1 l.wanted (first_is l) l.wanted' (second_is l))
  list_keeps rules (set_clear e d l) =
      omega (arith, rules.set_clear _ _ e _ d l.links l.wanted (first_is l) l.wanted' (second_is l))
  list_keeps rules (need_clear e d l) =
      omega (arith, rules.need_clear _ _ e _ d l.links l.wanted (first_is l) l.wanted' (second_is l))
  list_keeps rules (clear_set e d l) =
      omega (arith, rules.clear_set _ _ d _ e l.links l.wanted' (second_is l) l.wanted (first_is l))

  -- kept within the windows of the wanted jobs they are the list rules
  module _ (t : ℕ → ℕ) (above : (e : ℕ) → OfWanted s e → earliest s (s.event e).job ≤ t e)
      (under : (e : ℕ) → OfWanted s e → t e ≤ latest s (s.event e).job) (keeps : (r : Rule) → PairRule s r → Keeps r t) where
    own_kept : (j : ℕ) → WantedJob s j → OwnTimes s j t
    unfolding Keeps
    own_kept j w =
        record {
          early = λ e l q. rw q at (above e (record { in_sheet = l; wanted = rw q w }));
          late = λ e l q. rw q at (under e (record { in_sheet = l; wanted = rw q w }));
          bounds = λ i l q.
              let b : Bounds s i = record { in_sheet = l; wanted = rw q w } in
              record { low = keeps _ (low i b); high = keeps _ (high i b) };
          needs = λ b e f p q. let h = keeps _ (need b e (link w p w q (p.of_job ∙ sym q.of_job))) in omega arith;
        }

    list_kept : ListRules s t
    unfolding Keeps
    list_kept =
        record {
          own = own_kept;
          set_need = λ f i e j b wf q w is w' is'.
              let h = keeps _ (set_need e b (link w is w' is' (rw is.of_fact wf, ap (initial s) is.of_fact ∙ q))) in
              omega (arith, far is is');
          set_clear = λ f i e j d c w is w' is'.
              let h = keeps _ (set_clear e d (link w is w' is' (rw is.of_fact c))) in
              omega arith;
          need_clear = λ f i e j d c w is w' is'.
              let h = keeps _ (need_clear e d (link w is w' is' (rw is.of_fact c))) in
              omega (arith, far is is');
          clear_set = λ f i e j d c w is w' is'.
              let h = keeps _ (clear_set d e (link w' is' w is (rw is'.of_fact c))) in
              omega arith;
        }

-- ---- a broken one is found, or none is

-- the first, or what is found after it
◌>>=◌ : {A B C : Type 0} → A ⊎ B → (A → C ⊎ B) → C ⊎ B
◌>>=◌ (inl a) f = f a
◌>>=◌ (inr b) f = inr b

record AllKept (s : Sheet) (x : ℕ → ℕ) : Type 0 where
  pub low : (i : ℕ) → Bounds s i → Keeps (low_of s i) x
  pub high : (i : ℕ) → Bounds s i → Keeps (high_of s i) x
  pub need : (e d : ℕ) → Linked s begins ends (SameJob s) e d → Keeps (not_after e d) x
  pub set_need : (e d : ℕ) → Linked s sets begins (Sourced s) e d → Keeps (apart s e d) x
  pub set_clear : (e d : ℕ) → Linked s sets clears (Last s) e d → Keeps (before e d) x
  pub need_clear : (e d : ℕ) → Linked s ends clears (Last s) e d → Keeps (apart s e d) x
  pub clear_set : (e d : ℕ) → Linked s clears sets (First s) e d → Keeps (before e d) x

kept : {s : Sheet} {x : ℕ → ℕ} {r : Rule} → AllKept s x → PairRule s r → Keeps r x
kept k (low i b) = k.low i b
kept k (high i b) = k.high i b
kept k (need e d l) = k.need e d l
kept k (set_need e d l) = k.set_need e d l
kept k (set_clear e d l) = k.set_clear e d l
kept k (need_clear e d l) = k.need_clear e d l
kept k (clear_set e d l) = k.clear_set e d l

-- all rules of a kind are kept, or one is broken
abbrev Tested : (ℕ → ℕ) → (Rule → Type 0) → Type 0
Tested x P = ((r : Rule) → P r → Keeps r x) ⊎ ((r : Rule) × P r × Broken r x)

keeps : (r : Rule) (x : ℕ → ℕ) → (Broken r x → ⊥) → Keeps r x
unfolding Broken Keeps
keeps r x h = dite (dec_lt (x r.to + r.minus) (x r.from + r.plus)) (λ b. absurd (h b)) (λ g. omega arith)

broken_dec : (r : Rule) (x : ℕ → ℕ) → Dec (Broken r x)
unfolding Broken
broken_dec r x = dec_lt (x r.to + r.minus) (x r.from + r.plus)

-- a rule for each i below n that has C
test_each
    : (n : ℕ) (C : ℕ → Type 0)
    → ((i : ℕ) → C i → i < n)
    → ((i : ℕ) → Dec (C i))
    → (rule : ℕ → Rule) (x : ℕ → ℕ)
    → ((i : ℕ) → C i → Keeps (rule i) x) ⊎ ((i : ℕ) × C i × Broken (rule i) x)
unfolding None
test_each n C under dec rule x =
    ⊎_elim (λ r. inr (r.0, r.2.0, r.2.1)) (λ g. inl (λ i c. keeps (rule i) x (λ b. g i (under i c) (c, b))))
    (find (λ i. dec_and (dec i) (broken_dec (rule i) x)) n)

-- a rule for each two of them
test_pairs
    : (n : ℕ) (C : ℕ → ℕ → Type 0)
    → ((e d : ℕ) → C e d → (e < n) × (d < n))
    → ((e d : ℕ) → Dec (C e d))
    → (rule : ℕ → ℕ → Rule) (x : ℕ → ℕ)
    → ((e d : ℕ) → C e d → Keeps (rule e d) x) ⊎ ((e : ℕ) × (d : ℕ) × C e d × Broken (rule e d) x)
unfolding None
test_pairs n C under dec rule x =
    ⊎_elim (λ r. let (e, eIn, (d, dIn, h)) = r in inr (e, d, h.0, h.1))
    (λ g. inl (λ e d c. keeps (rule e d) x (λ b. g e (under e d c).0 (d, (under e d c).1, (c, b)))))
    (find (λ e. some_dec (λ d. dec_and (dec e d) (broken_dec (rule e d) x)) n) n)

module _
    {s : Sheet} (ok : Formed s)
    (last : (f : ℕ) → Dec (ClearedLast s f))
    (first : (f : ℕ) → Dec (ClearedFirst s f))
  where
    linked_dec : (k m : ℕ) (A : ℕ → ℕ → Type 0) → ((e d : ℕ) → Dec (A e d)) → (e d : ℕ) → Dec (Linked s k m A e d)
    linked_dec k m A dec e d =
        map_dec
        (λ h.
        record {
          in_sheet = h.0.0;
          in_sheet' = h.0.1;
          of_kind = h.1.0.0;
          of_kind' = h.1.0.1;
          one_fact = h.1.1.0;
          wanted = h.1.1.1.0.0;
          wanted' = h.1.1.1.0.1;
          links = h.1.1.1.1;
        })
        (λ l.
        ((l.in_sheet, l.in_sheet'), ((l.of_kind, l.of_kind'), (l.one_fact, ((l.wanted, l.wanted'), l.links)))))
        (dec_and (dec_and (dec_lt e s.events) (dec_lt d s.events))
        (dec_and (dec_and (ℕ_discrete (s.event e).kind k) (ℕ_discrete (s.event d).kind m))
        (dec_and (ℕ_discrete (s.event d).fact (s.event e).fact)
        (dec_and (dec_and (job_decided ok (s.event e).job) (job_decided ok (s.event d).job)) (dec e d)))))

    bounds_dec : (i : ℕ) → Dec (Bounds s i)
    bounds_dec i =
        map_dec (λ h. record { in_sheet = h.0; wanted = h.1 }) (λ b. (b.in_sheet, b.wanted))
        (dec_and (dec_lt i s.bounds) (job_decided ok (s.event (s.bound i).later).job))

    test_bounds
        : (rule : ℕ → Rule) (x : ℕ → ℕ)
        → ((i : ℕ) → Bounds s i → PairRule s (rule i))
        → ((i : ℕ) → Bounds s i → Keeps (rule i) x) ⊎ ((r : Rule) × PairRule s r × Broken r x)
    test_bounds rule x is =
        ⊎_elim (λ k. inl k) (λ b. let (i, c, h) = b in inr (rule i, is i c, h))
        (test_each s.bounds (Bounds s) (λ i b. b.in_sheet) bounds_dec rule x)

    test_linked
        : (k m : ℕ) (A : ℕ → ℕ → Type 0)
        → ((e d : ℕ) → Dec (A e d))
        → (rule : ℕ → ℕ → Rule) (x : ℕ → ℕ)
        → ((e d : ℕ) → Linked s k m A e d → PairRule s (rule e d))
        → ((e d : ℕ) → Linked s k m A e d → Keeps (rule e d) x) ⊎ ((r : Rule) × PairRule s r × Broken r x)
    test_linked k m A dec rule x is =
        ⊎_elim (λ k. inl k) (λ b. let (e, d, c, h) = b in inr (rule e d, is e d c, h))
        (test_pairs s.events (Linked s k m A) (λ e d l. (l.in_sheet, l.in_sheet')) (linked_dec k m A dec) rule x)

    sourced : (e d : ℕ) → Dec (Sourced s e d)
    sourced e d = dec_and (fact_decided ok (s.event e).fact) (Bool-discrete (initial s (s.event e).fact) false)

    pair_test : (x : ℕ → ℕ) → Tested x (PairRule s)
    pair_test x =
        do
          k₁ ← test_bounds (low_of s) x low
          k₂ ← test_bounds (high_of s) x high
          k₃ ← test_linked begins ends (SameJob s) (λ e d. ℕ_discrete (s.event e).job (s.event d).job) not_after x need
          k₄ ← test_linked sets begins (Sourced s) sourced (apart s) x set_need
          k₅ ← test_linked sets clears (Last s) (λ e d. last (s.event e).fact) before x set_clear
          k₆ ← test_linked ends clears (Last s) (λ e d. last (s.event e).fact) (apart s) x need_clear
          k₇ ← test_linked clears sets (First s) (λ e d. first (s.event e).fact) before x clear_set
          inl
              (λ r.
              kept
              (record { low = k₁; high = k₂; need = k₃; set_need = k₄; set_clear = k₅; need_clear = k₆; clear_set = k₇ }))

    -- the list rules have a least solution whenever they have one
    pub least_exists : (u : ℕ → ℕ) → Solution s u → (t : ℕ → ℕ) × LeastSolution s t
    least_exists u solved =
        let (t, best) =
        raise_ends (OfWanted s) s.events (λ e w. w.in_sheet) (PairRule s) (pair_ends ok) pair_test
        (λ e. earliest s (s.event e).job) (ListRules s)
        (λ v rules e w. (rules.own _ w.wanted).early e w.in_sheet refl)
        (λ v rules r p. list_keeps rules p) u solved.rules
        in
        let under : (e : ℕ) → OfWanted s e → t e ≤ latest s (s.event e).job =
        λ e w. omega (arith, best.least u solved.rules e w, (solved.rules.own _ w.wanted).late e w.in_sheet refl)
        in (
          t,
          record {
            solution =
                record { rules = list_kept t best.above under best.keeps; sources = solved.sources; goals = solved.goals };
            least = λ v rules e eIn w. best.least v rules e (record { in_sheet = eIn; wanted = w });
          },
        )
