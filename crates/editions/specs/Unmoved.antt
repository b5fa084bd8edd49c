-- Nothing moved for edition 1: bytes whose byte 0 is not 2 have the fault they had, and those of edition 1 say what they said. Of the faults
-- that was said before a pair could stand several times (fault_unmoved); today it holds of all but those that N4 let in (fault_now).
use Prim.Native.Nat.{ℕ, zero, suc, ◌+◌, ◌*◌, ◌/◌}
use Rattle.std.specs.Prelude.{◌≡◌, ◌≢◌, ◌⊎◌, Bool, true, false, cond, not, ◌&&◌, List, length, leb, eqb}
use Rattle.std.proofs.Math.Path.{refl, ap}
use Rattle.std.proofs.Common.{◌∙◌, inl, inr, ⊎_elim, eqb-true, ne_eqb}
use Rattle.std.proofs.Math.Bool.{and-true, or-false}
use Rattle.rules.specs.Count.{every, byte, two}
use Rattle.rules.specs.Sheet as rules
use Rattle.rules.specs.Sheet.{
  Sheet,
  sheet_of,
  edition,
  facts_head,
  job_row,
  added,
  job_at,
  length_of,
  facts_at,
  jobs_at,
  events_at,
  bounds_at,
  event_at,
  bound_at,
  max_gap,
  edition_ok,
  sheet_fault,
}
use Rattle.laws.specs.Bools.{and_get}
use Rattle.laws.specs.Below.{every_below}
use Rattle.sheet_bytes.specs.OtherEdition.{Plain, plain_1}
use Rattle.repeated_bounds.specs.FormerPairs.{pairs_rise, strict_bounds_ok, strict_body_ok, strict_fault}
use Rattle.repeated_bounds.specs.Unmoved.{OrderAlone, only_these}
use Rattle.editions.specs.Former as former
use Rattle.editions.specs.Former.{FormerSheet, former_sheet, former_fault}

-- s says what t said, as edition 1 says it
pub record SaysFormer (s : Sheet) (t : FormerSheet) : Type 0 where
  pub facts : s.facts ≡ t.facts
  pub horizon : s.horizon ≡ t.horizon
  pub marks : s.mark ≡ t.mark
  pub jobs : s.jobs ≡ t.jobs
  pub codes : s.code ≡ t.code
  pub events : s.events ≡ t.events
  pub event_rows : s.event ≡ t.event
  pub bounds : s.bounds ≡ t.bounds
  pub bound_rows : s.bound ≡ t.bound
  pub gap : s.gap ≡ 1
  pub revision : s.revision ≡ 0
  pub releases : (j : ℕ) → s.release j ≡ 0

-- what s says, as it was said
abbrev forget : Sheet → FormerSheet
forget s =
    record {
      facts = s.facts;
      horizon = s.horizon;
      mark = s.mark;
      jobs = s.jobs;
      code = s.code;
      events = s.events;
      event = s.event;
      bounds = s.bounds;
      bound = s.bound;
    }

module _ (b : List ℕ) (e : byte b 0 ≡ 1) where
  forgotten : forget (sheet_of b) ≡ former_sheet b
  unfolding
      sheet_of former_sheet edition facts_head job_row job_at rules.start_of former.start_of rules.length_of former.length_of rules.event_at
      former.event_at rules.bound_at former.bound_at rules.signed former.signed rules.origin former.origin
  forgotten =
      ap
      (λ (n : ℕ). record {
        facts = byte b (facts_at b);
        horizon = two b (facts_at b + 1);
        mark = λ f. byte b (facts_at b + facts_head n + f);
        jobs = length_of b 1 / job_row n;
        code = λ j. two b (jobs_at b + job_row n * j);
        events = length_of b 2 / 3;
        event = λ e. event_at b (events_at b + 3 * e);
        bounds = length_of b 3 / 6;
        bound = λ i. bound_at b (bounds_at b + 6 * i);
      }) e

  plain : Plain (sheet_of b)
  unfolding edition
  plain = plain_1 b e

  no_release : (j : ℕ) → (sheet_of b).release j ≡ 0
  unfolding sheet_of edition added
  no_release j = rw e

  -- ---- the rules of the bodies

  facts_unmoved : rules.facts_body_ok b ≡ former.facts_body_ok b
  unfolding
      rules.facts_body_ok former.facts_body_ok rules.facts_ok former.facts_ok rules.length_of former.length_of rules.max_facts former.max_facts
      rules.max_horizon former.max_horizon edition facts_head max_gap
  facts_unmoved = rw (← forgotten, e, plain.gap, and-true)

  jobs_unmoved : rules.jobs_body_ok b ≡ former.jobs_body_ok b
  unfolding
      rules.jobs_body_ok former.jobs_body_ok rules.jobs_ok former.jobs_ok rules.length_of former.length_of rules.max_jobs former.max_jobs edition
      job_row
  jobs_unmoved = rw (← forgotten, e)

  events_unmoved : rules.events_body_ok b ≡ former.events_body_ok b
  unfolding
      rules.events_body_ok former.events_body_ok rules.events_ok former.events_ok rules.event_ok former.event_ok rules.length_of former.length_of
      rules.max_events former.max_events rules.event_key former.event_key rules.two_ends former.two_ends
  events_unmoved = rw (← forgotten)

  bounds_unmoved : strict_body_ok b ≡ former.bounds_body_ok b
  unfolding
      strict_body_ok former.bounds_body_ok strict_bounds_ok pairs_rise former.bounds_ok rules.bound_ok former.bound_ok rules.length_of former.length_of
      rules.max_bounds former.max_bounds rules.bound_key former.bound_key rules.within_horizon former.within_horizon rules.origin former.origin
      rules.max_horizon former.max_horizon
  bounds_unmoved = rw (← forgotten)

pub sheet_unmoved : (b : List ℕ) → byte b 0 ≡ 1 → SaysFormer (sheet_of b) (former_sheet b)
sheet_unmoved b e =
    let same = forgotten b e in
    record {
      facts = ap (λ (t : FormerSheet). t.facts) same;
      horizon = ap (λ (t : FormerSheet). t.horizon) same;
      marks = ap (λ (t : FormerSheet). t.mark) same;
      jobs = ap (λ (t : FormerSheet). t.jobs) same;
      codes = ap (λ (t : FormerSheet). t.code) same;
      events = ap (λ (t : FormerSheet). t.events) same;
      event_rows = ap (λ (t : FormerSheet). t.event) same;
      bounds = ap (λ (t : FormerSheet). t.bounds) same;
      bound_rows = ap (λ (t : FormerSheet). t.bound) same;
      gap = (plain b e).gap;
      revision = (plain b e).revision;
      releases = no_release b e;
    }

-- ---- the faults

-- the edition is 1, or not: what is not 2
edition_unmoved : (b : List ℕ) → byte b 0 ≢ 2 → edition_ok b ≡ eqb (byte b 0) 1
unfolding edition_ok edition
edition_unmoved b not2 = rw (ne_eqb (byte b 0) 2 not2) (or-false (eqb (byte b 0) 1))

module _ (b : List ℕ) where
  start_unmoved : (i : ℕ) → rules.start_of b i ≡ former.start_of b i
  unfolding rules.start_of former.start_of rules.length_of former.length_of
  start_unmoved zero = refl
  start_unmoved (suc i) = rw (start_unmoved i)

  entry_unmoved : (i : ℕ) → rules.entry_ok b i ≡ former.entry_ok b i
  unfolding rules.entry_ok former.entry_ok rules.kind_of former.kind_of rules.zero_of former.zero_of rules.offset_of former.offset_of
  entry_unmoved i = rw (start_unmoved i)

contents_unmoved : (b : List ℕ) → byte b 0 ≢ 2 → rules.contents_ok b ≡ former.contents_ok b
unfolding rules.contents_ok former.contents_ok
contents_unmoved b not2 =
    rw (edition_unmoved b not2, start_unmoved b 4, every_below (rules.entry_ok b) (former.entry_ok b) 4 (λ i l. entry_unmoved b i))

of_edition1 : (b : List ℕ) → former.contents_ok b ≡ true → byte b 0 ≡ 1
unfolding former.contents_ok
of_edition1 b h =
    let p4 = and_get (leb 26 (length b) && eqb (byte b 0) 1 && eqb (byte b 1) 4 && every (former.entry_ok b) 4) _ h in
    let p3 = and_get (leb 26 (length b) && eqb (byte b 0) 1 && eqb (byte b 1) 4) _ p4.0 in
    let p2 = and_get (leb 26 (length b) && eqb (byte b 0) 1) _ p3.0 in
    eqb-true (byte b 0) 1 (and_get (leb 26 (length b)) _ p2.0).1

-- the tests after the first are asked of edition 1 alone
after : (t : Bool) {x y : ℕ} → (t ≡ true → x ≡ y) → cond (not t) 10 x ≡ cond (not t) 10 y
after true h = h refl
after false h = refl

pub fault_unmoved : (b : List ℕ) → byte b 0 ≢ 2 → strict_fault b ≡ former_fault b
unfolding strict_fault former_fault
fault_unmoved b not2 =
    rw (contents_unmoved b not2)
    (after (former.contents_ok b)
    (λ ok. let e = of_edition1 b ok in rw (facts_unmoved b e, jobs_unmoved b e, events_unmoved b e, bounds_unmoved b e)))

-- today: that, or the order of the pairs alone was wrong, and no pair falls
pub fault_now : (b : List ℕ) → byte b 0 ≢ 2 → (sheet_fault b ≡ former_fault b) ⊎ (OrderAlone b × (sheet_fault b ≡ 0))
fault_now b not2 = ⊎_elim (λ q. inl (q ∙ fault_unmoved b not2)) inr (only_these b)
