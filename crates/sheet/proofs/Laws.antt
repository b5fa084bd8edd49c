-- Where the definitions read a sheet's bytes, in the places that the code's Sheet holds.
use Prim.Native.Nat.{ℕ, zero, suc, ◌+◌, ◌*◌, ◌-◌, ◌/◌, ◌%◌, ◌≤◌, ◌<◌}
use native.Mathlib.Omega.{arith}
use mathlib.Core.Path.{◌≡◌, refl, sym, ap, ap₂, ◌∙◌}
use mathlib.Core.Logic.{inl, inr}
use mathlib.Core.List.{List}
use lib.ListN.{length, get_or-eq_default}
use Rattle.rules.specs.Count.{byte, two}
use borrow.Author.Tests.{eq-eqb, ne_eqb}
use Rattle.rules.specs.Sheet.{sheet_of, edition, facts_head, job_row, gap_ticks, gap_byte, start_of, length_of, event_at, bound_at, signed, origin}
use Rattle.sheet.specs.View.{meaning, PlacesAre, SheetIs, RowIs, BoundIs, RowOf, event_from, revision_place, row1, row2, TwoRows, in_row2}
use Rattle.sheet.specs.declared.Places.{Places}
use Rattle.sheet.specs.declared.Sheet.{Sheet}
use Rattle.sheet.specs.declared.Event.TheVariants.{Clears}

pub past : (b : List ℕ) (i : ℕ) → length b ≤ i → 0 ≡ byte b i
unfolding byte
past b i h = sym (get_or-eq_default b 0 h)

pub two_past : (b : List ℕ) (i : ℕ) → length b ≤ i → 0 ≡ two b i
unfolding two
two_past b i h = omega (arith, past b i h, past b (i + 1) (omega arith))

pub two_at : (b : List ℕ) (i x y : ℕ) → x ≡ byte b i → y ≡ byte b (i + 1) → x + 256 * y ≡ two b i
unfolding two
two_at b i x y p q = omega arith

pub signed_at_lem : (b : List ℕ) (i x : ℕ) → x ≡ two b i → (x + 32768) % 65536 ≡ signed b i
unfolding signed origin
signed_at_lem b i x p = rw p refl

pub length_at : (b : List ℕ) (i : ℕ) → two b (6 + 6 * i) ≡ length_of b i
unfolding length_of
length_at b i = refl

pub clears_from : (k f : ℕ) → (k ≡ 0 → ⊥) → (k ≡ 1 → ⊥) → (k ≡ 2 → ⊥) → Clears f ≡ event_from k f
unfolding event_from
clears_from zero f p q r = absurd (p refl)
clears_from (suc zero) f p q r = absurd (q refl)
clears_from (suc (suc zero)) f p q r = absurd (r refl)
clears_from (suc (suc (suc k))) f p q r = refl

-- ---- the editions

module _ {n : ℕ} where
  pub head_2 : n ≡ 2 → 6 ≡ facts_head n
  unfolding facts_head
  head_2 q = rw (eq-eqb n 2 q) refl

  pub head_1 : (n ≡ 2 → ⊥) → 3 ≡ facts_head n
  unfolding facts_head
  head_1 q = rw (ne_eqb n 2 q) refl

  pub row_2 : n ≡ 2 → row2 ≡ job_row n
  unfolding job_row
  row_2 q = rw (eq-eqb n 2 q) refl

  pub row_1 : (n ≡ 2 → ⊥) → row1 ≡ job_row n
  unfolding job_row
  row_1 q = rw (ne_eqb n 2 q) refl

  pub ticks_1 : (g : ℕ) → (n ≡ 2 → ⊥) → 1 ≡ gap_ticks n g
  unfolding gap_ticks
  ticks_1 g q = rw (ne_eqb n 2 q) refl

  pub ticks_none : (g : ℕ) → n ≡ 2 → g ≡ 0 → 2 ≡ gap_ticks n g
  unfolding gap_ticks
  ticks_none g q z = rw (eq-eqb n 2 q, eq-eqb g 0 z) refl

  pub ticks_2 : (g : ℕ) → n ≡ 2 → (g ≡ 0 → ⊥) → g ≡ gap_ticks n g
  unfolding gap_ticks
  ticks_2 g q z = rw (eq-eqb n 2 q, ne_eqb g 0 z) refl

in_row2_lem : {row : ℕ} (x : ℕ) → row ≡ row2 → x ≡ in_row2 row x
unfolding in_row2
in_row2_lem {row} x q = rw (eq-eqb row row2 q) refl

in_row1 : {row : ℕ} (x : ℕ) → (row ≡ row2 → ⊥) → 0 ≡ in_row2 row x
unfolding in_row2
in_row1 {row} x q = rw (ne_eqb row row2 q) refl

-- the row of job j lies within the rows of n jobs
pub record RowRoom (row j n : ℕ) : Type 0 where
  pub ends : row * j + row ≤ row * n
  pub least : row1 ≤ row
  pub most : row ≤ row2

row_room : {row j n : ℕ} → TwoRows row → j < n → RowRoom row j n
row_room (inl q) l = rw q (record { ends = omega arith; least = omega arith; most = omega arith })
row_room (inr q) l = rw q (record { ends = omega arith; least = omega arith; most = omega arith })

pub row_some : {row : ℕ} → TwoRows row → 0 < row
row_some (inl q) = omega arith
row_some (inr q) = omega arith

pub job_room_lem : {v : Sheet} {b : List ℕ} {j : ℕ} → RowOf v b v.jobs j → RowRoom v.job_row j v.jobs
job_room_lem r = row_room r.sheet.near.row r.below

-- what stands at the places that v has
module _ (v : Sheet) (b : List ℕ) where
  pub mark_at : (f : ℕ) → byte b (v.marks_at + f) ≡ (meaning v b).mark f
  unfolding meaning
  mark_at f = refl

  pub code_at : (j : ℕ) → two b (v.jobs_at + v.job_row * j) ≡ (meaning v b).code j
  unfolding meaning
  code_at j = refl

  pub release_at : (j : ℕ) → v.job_row ≡ row2 → two b (v.jobs_at + v.job_row * j + 2) ≡ (meaning v b).release j
  unfolding meaning
  release_at j q = in_row2_lem _ q

  pub release_none : (j : ℕ) → (v.job_row ≡ row2 → ⊥) → 0 ≡ (meaning v b).release j
  unfolding meaning
  release_none j q = in_row1 _ q

  pub revision_at_lem : v.job_row ≡ row2 → two b revision_place ≡ (meaning v b).revision
  unfolding meaning
  revision_at_lem q = in_row2_lem _ q

  pub revision_none : (v.job_row ≡ row2 → ⊥) → 0 ≡ (meaning v b).revision
  unfolding meaning
  revision_none q = in_row1 _ q

  pub job_at_lem : (e : ℕ) → byte b (v.events_at + 3 * e) ≡ ((meaning v b).event e).job
  unfolding meaning event_at
  job_at_lem e = refl

  pub kind_at : (e : ℕ) → byte b (v.events_at + 3 * e + 1) ≡ ((meaning v b).event e).kind
  unfolding meaning event_at
  kind_at e = refl

  pub fact_at : (e : ℕ) → byte b (v.events_at + 3 * e + 2) ≡ ((meaning v b).event e).fact
  unfolding meaning event_at
  fact_at e = refl

  pub event_at_lem : (e : ℕ) → event_at b (v.events_at + 3 * e) ≡ (meaning v b).event e
  unfolding meaning
  event_at_lem e = refl

  pub bound_at_lem : (i : ℕ) → bound_at b (v.bounds_at + 6 * i) ≡ (meaning v b).bound i
  unfolding meaning
  bound_at_lem i = refl

-- rows made of the bytes at their places
pub row_is
    : (b : List ℕ) (at : ℕ) {x y z : ℕ}
    → (x ≡ byte b at) × (x < 256)
    → (y ≡ byte b (at + 1)) × (y < 256)
    → (z ≡ byte b (at + 2)) × (z < 256)
    → RowIs (event_at b at) (record { job = x; kind = y; fact = z })
unfolding event_at
row_is b at p q r =
    record { job = p.0; kind = q.0; fact = r.0; small_job = p.1; small_kind = q.1; small_fact = r.1 }

pub bound_is
    : (b : List ℕ) (at : ℕ) {x y l h : ℕ}
    → (x ≡ byte b at) × (x < 256)
    → (y ≡ byte b (at + 1)) × (y < 256)
    → (l ≡ signed b (at + 2)) × (l < 65536)
    → (h ≡ signed b (at + 4)) × (h < 65536)
    → BoundIs (bound_at b at) (record { later = x; earlier = y; low = l; high = h })
unfolding bound_at
bound_is b at p q r t =
    record {
      later = p.0;
      earlier = q.0;
      low = r.0;
      high = t.0;
      small_later = p.1;
      small_earlier = q.1;
      small_low = r.1;
      small_high = t.1;
    }

-- the places made of the first three lengths
module _ (b : List ℕ) (n0 n1 n2 : ℕ) where
  abbrev pub placed : Places
  placed = record { facts = 26; jobs = 26 + n0; events = 26 + n0 + n1; bounds = 26 + n0 + n1 + n2 }

  pub places_are
      : (n0 ≡ length_of b 0) × (n0 < 65536)
      → (n1 ≡ length_of b 1) × (n1 < 65536)
      → (n2 ≡ length_of b 2) × (n2 < 65536)
      → PlacesAre b placed
  unfolding start_of
  places_are p0 p1 p2 =
      record {
        facts = refl;
        jobs = omega (arith, p0);
        events = omega (arith, p0, p1);
        bounds = omega (arith, p0, p1, p2);
        near = omega (arith, p0, p1, p2);
      }

-- the sheet made of the places
module _ (b : List ℕ) (p : Places) (s : PlacesAre b p) where
  pub facts_early : p.facts ≡ 26
  unfolding start_of
  facts_early = s.facts

  pub jobs_length : p.events ≡ p.jobs + length_of b 1
  unfolding start_of
  jobs_length = omega (arith, s.jobs, s.events)

  pub events_length : p.bounds ≡ p.events + length_of b 2
  unfolding start_of
  events_length = omega (arith, s.events, s.bounds)

  pub of_is
      : (f h g n head row : ℕ) {ed at : ℕ}
      → ed ≡ byte b 0
      → f ≡ byte b p.facts
      → h ≡ two b (p.facts + 1)
      → at ≡ gap_byte b
      → g ≡ gap_ticks ed at
      → n ≡ length_of b 3
      → (head ≡ facts_head ed) × (head < 7)
      → (row ≡ job_row ed) × TwoRows row
      → SheetIs
      b
      (record {
        facts = f;
        horizon = h;
        gap = g;
        jobs = (p.events - p.jobs) / row;
        events = (p.bounds - p.events) / 3;
        bounds = n / 6;
        marks_at = p.facts + head;
        jobs_at = p.jobs;
        job_row = row;
        events_at = p.events;
        bounds_at = p.bounds;
      })
  unfolding sheet_of edition
  of_is f h g n head row pe pf ph pa pg pn head_is row_is =
      let jobs : p.events - p.jobs ≡ length_of b 1 = omega (arith, jobs_length) in
      let events : p.bounds - p.events ≡ length_of b 2 = omega (arith, events_length) in
      record {
        facts = pf ∙ ap (byte b) s.facts;
        horizon = ph ∙ ap (λ (a : ℕ). two b (a + 1)) s.facts;
        gap = pg ∙ ap₂ gap_ticks pe pa;
        jobs = ap₂ (λ (m r : ℕ). m / r) jobs (row_is.0 ∙ ap job_row pe);
        events = ap (λ (m : ℕ). m / 3) events;
        bounds = ap (λ (m : ℕ). m / 6) pn;
        marks_at = ap₂ (λ (a m : ℕ). a + m) s.facts (head_is.0 ∙ ap facts_head pe);
        jobs_at = s.jobs;
        job_row = row_is.0 ∙ ap job_row pe;
        events_at = s.events;
        bounds_at = s.bounds;
        near =
            record {
              marks = omega (arith, facts_early, head_is.1);
              row = row_is.1;
              jobs = omega (arith, s.near, jobs_length, events_length);
              events = omega (arith, s.near, events_length);
              bounds = s.near;
            };
      }
