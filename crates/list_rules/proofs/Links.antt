-- The rules that start at one event, by its type: which groups they are.
use Prim.Native.Nat.{ℕ, ◌+◌, ◌-◌, ◌≤◌, ◌<◌}
use native.Mathlib.Omega.{arith}
use native.Mathlib.Decide.{ℕ_discrete}
use mathlib.Core.Path.{◌≡◌, refl, sym, ap, subst, ◌∙◌}
use mathlib.Core.Logic.{◌⊎◌, inl, inr, dite}
use mathlib.Core.Bool.{Bool, true, false}
use mathlib.Core.List.{List}
use lib.ListN.{length, get_or}
use Rattle.rules.specs.Sheet as rules
use Rattle.rules.specs.Sheet.{initial, begins, ends, sets, clears}
use Rattle.rules.specs.Plan.{Is, gap, distance_by, distance}
use Rattle.laws.specs.Distance.{distance_by_within, distance_by_lem}
use Rattle.rules.specs.Wanted.{WantedJob}
use Rattle.laws.specs.Test.{Says, said}
use Rattle.laws.specs.Rise.{up_size}
use Rattle.sheet.specs.WellFormed.{said_by, formed_by}
use Rattle.sheet.specs.View.{type_of, fact_of, event_from}
use Rattle.sheet.specs.declared.formed.WellFormed.{WellFormed}
use Rattle.sheet.specs.declared.Event.{Event}
use Rattle.index.specs.View.{ByFactOf}
use Rattle.laws.specs.Formed.{Formed}
use Rattle.laws.specs.Events.{small, by_job_lem, one_event}
use Rattle.laws.specs.Present.{of_wanted}
use Rattle.laws.specs.Limits.{most_gap}
use Rattle.theory.specs.Computed.Pairs.{Linked, Sourced, Last, First}
use Rattle.laws.specs.Columns.{col}
use Rattle.index.specs.View.{events_in}
use Rattle.marks.specs.View.{MarksOf, WantedJobs, MarkedSheet, begin_column, set_column, clear_column, last_starts, job_marks, last_marks, first_marks}
use Rattle.marks.specs.Sweep.{in_column}
use Rattle.kernel_least.specs.System.{origin}
use Rattle.numbers.specs.Size.{word}
use Rattle.own_times.specs.Laws.{decoded}
use Rattle.list_rules.specs.declared.Link.{Link}
use Rattle.list_rules.specs.Rules.{one_tick, LinkRule, set_need, set_clear, need_clear, clear_set}
use Rattle.list_rules.specs.View.{group_most, links_most, Links, Extended, apart_link, strict_link, link_from, link_end, LinkGroup, AsksLink, On, SetSourced}
use Rattle.list_rules.proofs.Laws.{grown_as, grown_then, grown_none}

-- what holds is said
says : {A : Type 0} (t : Bool) → Says A t → A → t ≡ true
says true a x = refl
says false a x = absurd (a x)

-- ---- a job has one event of a type and a fact at most, so that a fact has no more of one type than there are jobs
pub few
    : (s : rules.Sheet) (kind f : ℕ) (first event : List ℕ)
    → Formed s
    → ByFactOf s kind first event
    → f < s.facts
    → get_or first (f + 1) 0 ≤ get_or first f 0 + group_most
few s kind f first event formed by l =
    let n = up_size job (get_or first (f + 1) 0 - get_or first f 0) rise group_most under in omega arith
  where
    place : ℕ → ℕ
    place k = get_or event (get_or first f 0 + k) 0

    job : ℕ → ℕ
    job k = (s.event (get_or event (get_or first f 0 + k) 0)).job

    is
        : (k : ℕ)
        → k < get_or first (f + 1) 0 - get_or first f 0
        → Is s (get_or event (get_or first f 0 + k) 0) (s.event (get_or event (get_or first f 0 + k) 0)).job kind f
    is k h = (by.sound f (get_or first f 0 + k) l (omega arith) (omega arith)).is

    rise
        : (i k : ℕ)
        → i < k
        → k < get_or first (f + 1) 0 - get_or first f 0
        → (s.event (get_or event (get_or first f 0 + i) 0)).job < (s.event (get_or event (get_or first f 0 + k) 0)).job
    rise i k h m =
        let up = by.ascending f (get_or first f 0 + i) (get_or first f 0 + k) l (omega arith) (omega arith) (omega arith) in
        let e = is i (omega arith) in
        let d = is k m in
        let le = by_job_lem s formed (get_or event (get_or first f 0 + i) 0) (get_or event (get_or first f 0 + k) 0) (omega arith) d.in_sheet in
        dite (ℕ_discrete (s.event (get_or event (get_or first f 0 + i) 0)).job (s.event (get_or event (get_or first f 0 + k) 0)).job)
        (λ q.
        absurd
        (omega (
          arith,
          one_event s formed _ _ _ _ _ e
              (subst (λ j. Is s (get_or event (get_or first f 0 + k) 0) j kind f) (sym q) d),
        )))
        (λ q. omega arith)

    under : (k : ℕ) → k < get_or first (f + 1) 0 - get_or first f 0 → (s.event (get_or event (get_or first f 0 + k) 0)).job < group_most
    under k h = omega (arith, formed.job _ (is k h).in_sheet, (small s formed).jobs)

-- where a link's events stand
pub record LinkSpan (s : rules.Sheet) (c : List (List ℕ)) (link : Link) : Type 0 where
  pub there : link.fact + 1 < length (col c link.column)
  pub rises : link_from c link ≤ link_end c link
  pub few : link_end c link ≤ link_from c link + group_most
  pub ends : link_end c link ≤ length (events_in c)
  pub in_sheet : (r : ℕ) → link_from c link ≤ r → r < link_end c link → get_or (events_in c) r 0 < s.events

module _ {sheet : WellFormed} {c : List (List ℕ)} {m : List (List Bool)} {link : Link} (h : AsksLink sheet c m link) where
  pub link_span : LinkSpan (said_by sheet) c link
  link_span =
      let by = in_column h.index link.column h.starts in
      record {
        there = omega (arith, by.long, h.exists);
        rises = by.rises link.fact h.exists;
        few = few (said_by sheet) _ link.fact _ _ (formed_by sheet).formed by h.exists;
        ends = omega (arith, by.within (link.fact + 1) (omega (arith, h.exists)), h.index.long);
        in_sheet = λ r p q. (by.sound link.fact r h.exists p q).is.in_sheet;
      }

  -- an event there, and its job
  pub link_event : (r e : ℕ) → e ≡ get_or (events_in c) r 0 → link_from c link ≤ r → r < link_end c link → e < (said_by sheet).events
  link_event r e q p l = omega (arith, link_span.in_sheet r p l)

-- ---- a link's group, as rules of event e

-- the links of event e, of type k, to events of type m, where A; with their weight
abbrev Part : (s : rules.Sheet) (k m : ℕ) (A : ℕ → ℕ → Type 0) (base g e : ℕ) → Links
Part s k m A base g e b w = Linked s k m A e b × (w ≡ base + distance_by g (s.event e).job (s.event b).job)

-- the weight by the job of the event that a link starts from, and by the gap of the sheet
weight_same
    : (s : rules.Sheet) (link : Link) (i g d : ℕ)
    → link.job ≡ i
    → link.gap ≡ g
    → link.base + distance_by link.gap link.job (s.event d).job ≡ link.base + distance_by g i (s.event d).job
weight_same s link i g d p q =
    ap (λ a. link.base + distance_by a link.job (s.event d).job) q
    ∙ ap (λ a. link.base + distance_by g a (s.event d).job) p

module _
    {s : rules.Sheet} {k m e g : ℕ} {jobs : List Bool} {c : List (List ℕ)} {link : Link}
    (formed : Formed s)
    (A : ℕ → ℕ → Type 0)
    (is : Is s e link.job k link.fact)
    (exists : link.fact < s.facts)
    (by : ByFactOf s m (col c link.column) (events_in c))
    (wanted : WantedJobs s jobs)
    (here : WantedJob s link.job)
    (shows : link.shown ≡ true → (d : ℕ) → A e d)
    (hides : (d : ℕ) → A e d → link.shown ≡ true)
    (same : link.gap ≡ g)
  where
    link_of : (b w : ℕ) → LinkGroup s c jobs link b w → Part s k m A link.base g e b w
    link_of b w x =
        let at = by.sound link.fact x.spot.place exists x.spot.from x.spot.below in
        let to = subst (λ d. Is s d (s.event d).job m link.fact) x.spot.stands at.is in (
          record {
            in_sheet = is.in_sheet;
            in_sheet' = to.in_sheet;
            of_kind = is.of_kind;
            of_kind' = to.of_kind;
            one_fact = to.of_fact ∙ sym is.of_fact;
            wanted = subst (WantedJob s) (sym is.of_job) here;
            wanted' = wanted.means _ (formed.job b to.in_sheet) x.spot.wanted;
            links = shows x.shows b;
          },
          x.spot.weighs ∙ weight_same s link _ g b (sym is.of_job) same,
        )

    of_link : (b w : ℕ) → Part s k m A link.base g e b w → LinkGroup s c jobs link b w
    of_link b w x =
        let l = x.0 in
        let r = by.whole b (s.event b).job link.fact exists
        (of_wanted l.wanted' (record { in_sheet = l.in_sheet'; of_job = refl; of_kind = l.of_kind'; of_fact = l.one_fact ∙ is.of_fact })) in
        record {
          shows = hides b l.links;
          spot =
              record {
                place = r.0;
                from = r.1;
                below = r.2;
                stands = r.3;
                wanted = wanted.marked _ (formed.job b l.in_sheet') l.wanted';
                weighs = x.1 ∙ sym (weight_same s link _ g b (sym is.of_job) same);
              };
        }

    group_links
        : {to weight to' weight' : List ℕ} {n r : ℕ}
        → Extended group_most (LinkGroup s c jobs link) to weight n to' weight' r
        → Extended group_most (Part s k m A link.base g e) to weight n to' weight' r
    group_links x = grown_as x group_most (omega arith) link_of of_link

-- ---- the rules that start at event e, by its type

near : (i k : ℕ) → distance_by 0 i k ≡ 0
near i k = omega (arith, distance_by_within 0 i k)

far : (s : rules.Sheet) (i k : ℕ) → distance_by (gap s) i k ≡ distance s i k
far s i k = sym (distance_by_lem s i k)

one : {s : rules.Sheet} {k m e b : ℕ} {A : ℕ → ℕ → Type 0} {x : ℕ} → Linked s k m A e b → (s.event e).kind ≡ x → k ≡ x
one l q = sym l.of_kind ∙ q

module _ {s : rules.Sheet} {e b w : ℕ} where
  links_begin : (s.event e).kind ≡ begins → LinkRule s e b w → ⊥
  links_begin q (set_need l x) = omega (arith, one l q)
  links_begin q (set_clear l x) = omega (arith, one l q)
  links_begin q (need_clear l x) = omega (arith, one l q)
  links_begin q (clear_set l x) = omega (arith, one l q)

  end_link : Part s ends clears (Last s) origin (gap s) e b w → LinkRule s e b w
  end_link x = need_clear x.0 (x.1 ∙ ap (λ a. origin + a) (far s _ _))

  link_end_lem : (s.event e).kind ≡ ends → LinkRule s e b w → Part s ends clears (Last s) origin (gap s) e b w
  link_end_lem q (set_need l x) = absurd (omega (arith, one l q))
  link_end_lem q (set_clear l x) = absurd (omega (arith, one l q))
  link_end_lem q (need_clear l x) = (l, x ∙ ap (λ a. origin + a) (sym (far s _ _)))
  link_end_lem q (clear_set l x) = absurd (omega (arith, one l q))

  clear_link : Part s clears sets (First s) one_tick 0 e b w → LinkRule s e b w
  clear_link x = clear_set x.0 (omega (arith, x.1, near (s.event e).job (s.event b).job))

  link_clear : (s.event e).kind ≡ clears → LinkRule s e b w → Part s clears sets (First s) one_tick 0 e b w
  link_clear q (set_need l x) = absurd (omega (arith, one l q))
  link_clear q (set_clear l x) = absurd (omega (arith, one l q))
  link_clear q (need_clear l x) = absurd (omega (arith, one l q))
  link_clear q (clear_set l x) = (l, omega (arith, x, near (s.event e).job (s.event b).job))

  need_link : Part s sets begins (Sourced s) origin (gap s) e b w → LinkRule s e b w
  need_link x = set_need x.0 (x.1 ∙ ap (λ a. origin + a) (far s _ _))

  set_link : Part s sets clears (Last s) one_tick 0 e b w → LinkRule s e b w
  set_link x = set_clear x.0 (omega (arith, x.1, near (s.event e).job (s.event b).job))

  Link-set
      : (s.event e).kind ≡ sets
      → LinkRule s e b w
      → Part s sets begins (Sourced s) origin (gap s) e b w ⊎ Part s sets clears (Last s) one_tick 0 e b w
  Link-set q (set_need l x) = inl (l, x ∙ ap (λ a. origin + a) (sym (far s _ _)))
  Link-set q (set_clear l x) = inr (l, omega (arith, x, near (s.event e).job (s.event b).job))
  Link-set q (need_clear l x) = absurd (omega (arith, one l q))
  Link-set q (clear_set l x) = absurd (omega (arith, one l q))

gap_small : (s : rules.Sheet) → s.gap ≤ most_gap → gap s ≤ most_gap
unfolding gap
gap_small s h = h

-- ---- event e, decoded as x

fact_of_lem
    : (sheet : WellFormed) {e : ℕ} (x : Event)
    → e < (said_by sheet).events
    → x ≡ event_from ((said_by sheet).event e).kind ((said_by sheet).event e).fact
    → fact_of x < (said_by sheet).facts
fact_of_lem sheet {e} x l q =
    let formed = (formed_by sheet).formed in
    omega (arith, (decoded x _ _ (formed.kind e l) q).1, formed.fact e l)

module _
    {sheet : WellFormed} {c : List (List ℕ)} {m : List (List Bool)}
    (given : MarkedSheet sheet c m)
    {e i : ℕ} {x : Event}
    (in_sheet : e < (said_by sheet).events)
    (told : x ≡ event_from ((said_by sheet).event e).kind ((said_by sheet).event e).fact)
    (job : i ≡ ((said_by sheet).event e).job)
  where
    is_event : (k f : ℕ) → type_of x ≡ k → fact_of x ≡ f → Is (said_by sheet) e i k f
    is_event k f p q =
        let d = decoded x _ _ ((formed_by sheet).formed.kind e in_sheet) told in
        record { in_sheet = in_sheet; of_job = sym job; of_kind = sym d.0 ∙ p; of_fact = sym d.1 ∙ q }

    pub fact_exists : {f : ℕ} → fact_of x ≡ f → f < (said_by sheet).facts
    fact_exists q = omega (arith, fact_of_lem sheet x in_sheet told)

    pub job_exists : i < (said_by sheet).jobs
    job_exists = omega (arith, (formed_by sheet).formed.job e in_sheet)

    -- what writing a link asks
    pub asks_link
        : {link : Link}
        → link.column ≤ last_starts
        → fact_of x ≡ link.fact
        → link.base + link.gap < word
        → AsksLink sheet c m link
    asks_link l q h =
        record {
          index = given.index;
          jobs = given.marks.jobs;
          starts = l;
          exists = fact_exists q;
          small = h;
        }

    -- the mark of a wanted job
    pub job_on : WantedJob (said_by sheet) ((said_by sheet).event e).job → get_or (job_marks m) i false ≡ true
    job_on want = given.marks.jobs.marked i job_exists (subst (WantedJob (said_by sheet)) (sym job) want)

    pub on_job : get_or (job_marks m) i false ≡ true → WantedJob (said_by sheet) ((said_by sheet).event e).job
    on_job on = subst (WantedJob (said_by sheet)) job (given.marks.jobs.means i job_exists on)

    pub begin_row
        : (to weight : List ℕ) (n : ℕ) → type_of x ≡ begins → Extended links_most (LinkRule (said_by sheet) e) to weight n to weight n
    begin_row to weight n p = grown_none to weight n (λ d w. links_begin (is_event begins (fact_of x) p refl).of_kind)

    module _ {f : ℕ} (fact : fact_of x ≡ f) (here : On (job_marks m) i) where
      wanted_here : WantedJob (said_by sheet) i
      wanted_here = given.marks.jobs.means i job_exists here

      -- the fact of event e is f, so that what is shown of f holds of e
      at_fact : (P : ℕ → Type 0) (k : ℕ) → type_of x ≡ k → P f → P ((said_by sheet).event e).fact
      at_fact P k p = subst P (sym (is_event k f p fact).of_fact)

      from_fact : (P : ℕ → Type 0) (k : ℕ) → type_of x ≡ k → P ((said_by sheet).event e).fact → P f
      from_fact P k p = subst P (is_event k f p fact).of_fact

      -- where the mark of f says what is shown, the mark and the statement on e agree
      module _ {P : ℕ → Type 0} {marks : List Bool} (h : MarksOf P (said_by sheet).facts marks) (k : ℕ) (p : type_of x ≡ k) {shown : Bool}
          (q : shown ≡ get_or marks f false) where
        mark_shows : shown ≡ true → P ((said_by sheet).event e).fact
        mark_shows z = at_fact P k p (h.means f (fact_exists fact) (sym q ∙ z))

        mark_hides : P ((said_by sheet).event e).fact → shown ≡ true
        mark_hides z = q ∙ h.marked f (fact_exists fact) (from_fact P k p z)

      pub End-row
          : {to weight to' weight' : List ℕ} {n r g : ℕ} {shown : Bool}
          → g ≡ gap (said_by sheet)
          → type_of x ≡ ends
          → shown ≡ get_or (last_marks m) f false
          → Extended group_most (LinkGroup (said_by sheet) c (job_marks m) (apart_link clear_column shown f i g)) to weight n to' weight' r
          → Extended links_most (LinkRule (said_by sheet) e) to weight n to' weight' r
      End-row far p q x =
          grown_as
          (group_links (formed_by sheet).formed (Last (said_by sheet)) (is_event ends f p fact) (fact_exists fact) given.index.clears
          given.marks.jobs wanted_here
          (λ z d. mark_shows given.marks.last ends p q z)
          (λ d. mark_hides given.marks.last ends p q)
          far x)
          links_most (omega arith)
          (λ c w. end_link)
          (λ c w. link_end_lem (is_event ends f p fact).of_kind)

      pub clear_row
          : {to weight to' weight' : List ℕ} {n r : ℕ} {shown : Bool}
          → type_of x ≡ clears
          → shown ≡ get_or (first_marks m) f false
          → Extended group_most (LinkGroup (said_by sheet) c (job_marks m) (strict_link set_column shown f i)) to weight n to' weight' r
          → Extended links_most (LinkRule (said_by sheet) e) to weight n to' weight' r
      clear_row p q x =
          grown_as
          (group_links (formed_by sheet).formed (First (said_by sheet)) (is_event clears f p fact) (fact_exists fact) given.index.sets
          given.marks.jobs wanted_here
          (λ z d. mark_shows given.marks.first clears p q z)
          (λ d. mark_hides given.marks.first clears p q)
          refl x)
          links_most (omega arith)
          (λ c w. clear_link)
          (λ c w. link_clear (is_event clears f p fact).of_kind)

      pub set_row
          : {to weight to' weight' to'' weight'' : List ℕ} {n r k g : ℕ} {sourced shown : Bool}
          → g ≡ gap (said_by sheet)
          → type_of x ≡ sets
          → Says (SetSourced (said_by sheet) f) sourced
          → shown ≡ get_or (last_marks m) f false
          → Extended group_most (LinkGroup (said_by sheet) c (job_marks m) (apart_link begin_column sourced f i g)) to weight n to' weight' r
          → Extended group_most (LinkGroup (said_by sheet) c (job_marks m) (strict_link clear_column shown f i)) to' weight' r to'' weight'' k
          → Extended links_most (LinkRule (said_by sheet) e) to weight n to'' weight'' k
      set_row {sourced = sourced} far p u q x y =
          grown_then
          (group_links (formed_by sheet).formed (Sourced (said_by sheet)) (is_event sets f p fact) (fact_exists fact) given.index.begins
          given.marks.jobs wanted_here
          (λ z d.
          let o = at_fact (SetSourced (said_by sheet)) sets p (said sourced u z) in
          (o.is_wanted, o.not_initial))
          (λ d z. says sourced u (from_fact (SetSourced (said_by sheet)) sets p (record { is_wanted = z.0; not_initial = z.1 })))
          far x)
          links_most
          (group_links (formed_by sheet).formed (Last (said_by sheet)) (is_event sets f p fact) (fact_exists fact) given.index.clears
          given.marks.jobs wanted_here
          (λ z d. mark_shows given.marks.last sets p q z)
          (λ d. mark_hides given.marks.last sets p q)
          refl y)
          (omega arith)
          (λ c w. need_link)
          (λ c w. set_link)
          (λ c w. Link-set (is_event sets f p fact).of_kind)

pub gap_fits : (s : rules.Sheet) (g : ℕ) → s.gap ≤ most_gap → g ≡ gap s → origin + g < word
gap_fits s g h q = omega (arith, gap_small s h)
