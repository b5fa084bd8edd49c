-- P1 in edition 2 beside other versions of it: which of the two counts.
use Rattle.std.specs.Prelude.{ℕ, ◌≡◌, refl, List, [], ◌∷◌}
use Rattle.std.proofs.Common.{arith, ap}
use Rattle.rules.specs.Count.{every, any, rises, never_falls, byte, two}
use Rattle.rules.specs.Sheet.{
  max_facts,
  max_horizon,
  max_gap,
  max_jobs,
  max_events,
  max_bounds,
  origin,
  facts_head,
  job_row,
  gap_ticks,
  added,
  edition,
  kind_of,
  zero_of,
  offset_of,
  length_of,
  start_of,
  event_at,
  signed,
  bound_at,
  gap_byte,
  revision_at,
  job_at,
  sheet_of,
  edition_ok,
  entry_ok,
  contents_ok,
  facts_ok,
  jobs_ok,
  event_key,
  two_ends,
  event_ok,
  events_ok,
  bound_key,
  within_horizon,
  bound_ok,
  bounds_ok,
  facts_body_ok,
  jobs_body_ok,
  events_body_ok,
  bounds_body_ok,
  sheet_fault,
  fault_in,
}
use Rattle.rules.specs.Newer.{Which, Newer, part_of, which_in_c, NewerInC}
use Rattle.revisions.specs.Answers.{both, edition_second}
use Rattle.revisions.specs.Exchange.{itself}

-- ---- the sheets

-- P1's events and bounds, which are the same in both editions
rows : List ℕ
rows =
    -- events: job, type, fact
    0 ∷ 0 ∷ 0 ∷ 0 ∷ 1 ∷ 0 ∷ 0 ∷ 2 ∷ 1 ∷ 1 ∷ 0 ∷ 1 ∷ 1 ∷ 1 ∷ 1 ∷ 1 ∷ 2 ∷ 2
    -- bounds: e, d, low, high
    ∷ 1 ∷ 0 ∷ 5 ∷ 0 ∷ 5 ∷ 0
    ∷ 2 ∷ 1 ∷ 0 ∷ 0 ∷ 0 ∷ 0
    ∷ 4 ∷ 3 ∷ 3 ∷ 0 ∷ 3 ∷ 0
    ∷ 5 ∷ 4 ∷ 0 ∷ 0 ∷ 0 ∷ 0
    ∷ []

-- in edition 2, with the low byte of the horizon, the gap byte and the revision's two bytes: 85 bytes
sheet : (horizon gap low high : ℕ) → List ℕ
sheet horizon gap low high =
    -- contents: edition, parts; kind, 0, offset, length
    2 ∷ 4
    ∷ 1 ∷ 0 ∷ 26 ∷ 0 ∷ 9 ∷ 0
    ∷ 2 ∷ 0 ∷ 35 ∷ 0 ∷ 8 ∷ 0
    ∷ 3 ∷ 0 ∷ 43 ∷ 0 ∷ 18 ∷ 0
    ∷ 4 ∷ 0 ∷ 61 ∷ 0 ∷ 24 ∷ 0
    -- facts: count, horizon, gap, revision, marks
    ∷ 3 ∷ horizon ∷ 0 ∷ gap ∷ low ∷ high ∷ 1 ∷ 0 ∷ 2
    -- jobs: code, release
    ∷ 10 ∷ 0 ∷ 0 ∷ 0 ∷ 20 ∷ 0 ∷ 0 ∷ 0
    ∷ rows

-- in edition 1: 78 bytes
old : List ℕ
old =
    1 ∷ 4
    ∷ 1 ∷ 0 ∷ 26 ∷ 0 ∷ 6 ∷ 0
    ∷ 2 ∷ 0 ∷ 32 ∷ 0 ∷ 4 ∷ 0
    ∷ 3 ∷ 0 ∷ 36 ∷ 0 ∷ 18 ∷ 0
    ∷ 4 ∷ 0 ∷ 54 ∷ 0 ∷ 24 ∷ 0
    ∷ 3 ∷ 100 ∷ 0 ∷ 1 ∷ 0 ∷ 2
    ∷ 10 ∷ 0 ∷ 20 ∷ 0
    ∷ rows

-- H 100, gap byte 1
version : (low high : ℕ) → List ℕ
version = sheet 100 1

-- ---- which counts

record Counts : Type 0 where
  pub later : Newer (version 1 0) (version 2 0) 0 Which.second
  pub earlier : Newer (version 2 0) (version 1 0) 0 Which.first
  pub same : Newer (version 1 0) (version 1 0) 0 Which.first
  -- one revision, H 100 and H 99
  pub horizons : Newer (version 1 0) (sheet 99 1 1 0) 56 Which.none
  -- gap bytes 0 and 2 mean the same, and are other bytes
  pub gaps : Newer (sheet 100 0 1 0) (sheet 100 2 1 0) 56 Which.none
  -- a well-formed sheet of edition 1 as the second
  pub old_formed : sheet_fault old ≡ 0
  pub edition1 : Newer (version 1 0) old 10 Which.none
  -- 32,768 and 32,767; 256 and 255
  pub unsigned : Newer (version 0 128) (version 255 127) 0 Which.first
  pub low_first : Newer (version 0 1) (version 255 0) 0 Which.first

counts : Counts
unfolding
    rows sheet old version every any rises never_falls byte two max_facts max_horizon max_gap max_jobs max_events max_bounds origin
    facts_head job_row gap_ticks added edition kind_of zero_of offset_of length_of start_of event_at signed bound_at gap_byte revision_at job_at
    sheet_of edition_ok entry_ok contents_ok facts_ok jobs_ok event_key two_ends event_ok events_ok
    bound_key within_horizon bound_ok bounds_ok facts_body_ok jobs_body_ok events_body_ok bounds_body_ok sheet_fault fault_in
counts =
    record {
      later = Newer.second_higher (both refl refl) (omega arith);
      earlier = Newer.first_higher (both refl refl) (omega arith);
      same = itself _ refl;
      horizons = Newer.other_bytes (both refl refl) refl (λ e. omega (arith, ap (λ (b : List ℕ). (sheet_of b).horizon) e));
      gaps = Newer.other_bytes (both refl refl) refl (λ e. omega (arith, ap gap_byte e));
      old_formed = refl;
      edition1 = edition_second _ _ refl (λ e. omega (arith, e));
      unsigned = Newer.first_higher (both refl refl) (omega arith);
      low_first = Newer.first_higher (both refl refl) (omega arith);
    }

-- what C is told: the second sheet, 85 bytes; no sheet
in_c : NewerInC (version 1 0) (version 2 0) 0 0 1 85 × NewerInC (version 1 0) (sheet 99 1 1 0) 56 0 0 0
unfolding rows sheet version part_of which_in_c
in_c = (NewerInC.told 0 Which.second counts.later, NewerInC.told 56 Which.none counts.horizons)
