-- That P1 to P10 hold: for each sheet the reasons, and one test of them all that is computed.
use Rattle.std.specs.Prelude.{ℕ, ◌≡◌, refl, true, List, [], ◌∷◌, take, get_or}
use Rattle.std.proofs.Common.{arith}
use Rattle.rules.specs.Count.{every, any, count, or_here, first, rises, never_falls, byte, two}
use Rattle.rules.specs.Sheet.{
  max_facts,
  max_horizon,
  max_gap,
  max_jobs,
  max_events,
  max_bounds,
  origin,
  initial,
  goal,
  facts_head,
  job_row,
  gap_ticks,
  added,
  edition,
  kind_of,
  zero_of,
  offset_of,
  length_of,
  start_of,
  event_at,
  signed,
  bound_at,
  gap_byte,
  revision_at,
  job_at,
  sheet_of,
  edition_ok,
  entry_ok,
  contents_ok,
  facts_ok,
  jobs_ok,
  event_key,
  two_ends,
  event_ok,
  events_ok,
  bound_key,
  within_horizon,
  bound_ok,
  bounds_ok,
  facts_body_ok,
  jobs_body_ok,
  events_body_ok,
  bounds_body_ok,
  sheet_fault,
}
use Rattle.rules.specs.RunList.{max_instances, max_times, events_of, rank, instances, code_of, place_of, job_of, body_of, entry_fits, list_ok, plan_of}
use Rattle.rules.specs.Plan.{earliest, latest, gap, apart, distance_by, distance}
use Rattle.rules.specs.Answer.{Planned}
use Rattle.theory.specs.Why.Answers.{judge_accepts}
use Rattle.examples.specs.Test.{Test, ◌&◌, passes, exact}
use Rattle.examples.specs.Own.{at, is, own, alone, Step, low, high, link, rule_at, along, chain, of_job}
use Rattle.examples.specs.Marks.{wanted_job, wanted_before, asked, wanted_fact, wanted_marks, Reason, guarded, last_marks}
use Rattle.examples.specs.Class.{Reasons, one_setter, reasons, unguarded, not_last, not_first, lowest_unordered}
use Rattle.examples.specs.Solution.{linked, pairs, before, meets, solves}
use Rattle.examples.specs.Least.{of_list, Path, path, below, too_long, writes}
use Rattle.examples.specs.Answers.{known, orderly, has_least, has_none, unordered, ahead, planned, none_planned, unordered_planned, ahead_judged}
use Rattle.examples.specs.Sheets.{
  line,
  p1_sheet,
  p1_list,
  p2_sheet,
  p3_sheet,
  p5_sheet,
  p5_list,
  relay,
  p6_sheet,
  p6_list,
  p7_sheet,
  p8_sheet,
  p9_sheet,
  p10_list,
}
use Rattle.examples.specs.Examples.{Examples}

-- no guard is asked for
no_guard : ℕ → ℕ → Reason
no_guard v y = record { from = 0; to_clear = []; to_end = [] }

from : ℕ → List Step → Path
from e r = record { from = e; steps = r }

-- ---- P1 to P5: job 20 is wanted for the goal, then job 10 for job 20's need; in P5 no job is

line_reasons : List ℕ → Reasons
line_reasons wanted =
    record {
      wanted = at wanted;
      alone = at (0 ∷ 5 ∷ 5 ∷ 0 ∷ 3 ∷ 3 ∷ []);
      last = at (1 ∷ 1 ∷ 1 ∷ []);
      guards = no_guard;
    }

both_wanted : List ℕ
both_wanted = 2 ∷ 1 ∷ []

-- each event after the one before it: 9 ticks from the first to the last
line_steps : List Step
line_steps = low 0 ∷ low 1 ∷ link 2 3 ∷ low 2 ∷ low 3 ∷ []

line_ticks : ℕ → ℕ
line_ticks = at (0 ∷ 5 ∷ 5 ∷ 6 ∷ 9 ∷ 9 ∷ [])

line_path : ℕ → Path
line_path e = from 0 (take e line_steps)

-- ---- P6 and P7: fact 0 is never set, fact 2 never cleared; fact 1 is guarded by 0, which job 10 clears before it clears 1,
-- and whose need ends on the tick of its set of 1

relay_reasons : ℕ → Reasons
relay_reasons n =
    record {
      wanted = at both_wanted;
      alone = at (0 ∷ 0 ∷ 0 ∷ 0 ∷ n ∷ 0 ∷ 4 ∷ 4 ∷ []);
      last = at (1 ∷ 2 ∷ 1 ∷ []);
      guards = λ v y. record { from = 2; to_clear = high 1 ∷ low 2 ∷ low 3 ∷ []; to_end = high 2 ∷ low 0 ∷ [] };
    }

relay_ticks : ℕ → ℕ
relay_ticks = at (0 ∷ 0 ∷ 0 ∷ 0 ∷ 6 ∷ 1 ∷ 5 ∷ 5 ∷ [])

-- from the set of 1: its clear, and job 20's events
relay_path : ℕ → Path
relay_path e =
    get_or
    (from 0 [] ∷ from 1 [] ∷ from 2 [] ∷ from 3 [] ∷ from 3 (low 3 ∷ [])
    ∷ from 3 (link 3 5 ∷ []) ∷ from 3 (link 3 5 ∷ low 4 ∷ []) ∷ from 3 (link 3 5 ∷ low 4 ∷ low 5 ∷ []) ∷ [])
    e (from 0 [])

-- P7: from the set of 1 to job 20's need, to its end, to the clear of 1, and back to the set: 6 ticks there, 5 back
relay_cycle : Path
relay_cycle = from 3 (link 3 5 ∷ low 4 ∷ link 6 4 ∷ high 3 ∷ [])

-- ---- P8: nothing guards 1; P9: nothing guards 0, and job 20 is not wanted

p8_reasons : Reasons
p8_reasons =
    record {
      wanted = at both_wanted;
      alone = at (0 ∷ 0 ∷ 0 ∷ 6 ∷ 0 ∷ 4 ∷ 4 ∷ []);
      last = at (1 ∷ 0 ∷ 1 ∷ []);
      guards = no_guard;
    }

p9_reasons : Reasons
p9_reasons = record { wanted = at (1 ∷ []); alone = at []; last = at (0 ∷ 1 ∷ []); guards = no_guard }

-- ---- the test

all : Test
all =
    has_least p1_sheet (line_reasons both_wanted) line_ticks line_path p1_list
    & has_least p2_sheet (line_reasons both_wanted) line_ticks line_path p1_list
    & has_none p3_sheet (line_reasons both_wanted) (from 0 line_steps)
    & has_least p5_sheet (line_reasons []) line_ticks line_path p5_list
    & has_least p6_sheet (relay_reasons 6) relay_ticks relay_path p6_list
    & has_none p7_sheet (relay_reasons 5) relay_cycle
    & unordered p8_sheet p8_reasons 1
    & unordered p9_sheet p9_reasons 0
    & ahead p1_sheet p1_list p10_list 1 1 3

tested : passes all ≡ true
unfolding
    line p1_sheet p1_list p2_sheet p3_sheet p5_sheet p5_list relay p6_sheet p6_list p7_sheet p8_sheet p9_sheet p10_list
    every any count or_here first rises never_falls byte two max_facts max_horizon max_gap max_jobs max_events max_bounds origin initial goal
    facts_head job_row gap_ticks added edition kind_of zero_of offset_of length_of start_of event_at signed bound_at gap_byte revision_at job_at
    sheet_of edition_ok entry_ok contents_ok facts_ok jobs_ok event_key two_ends event_ok events_ok
    bound_key within_horizon bound_ok bounds_ok facts_body_ok jobs_body_ok events_body_ok bounds_body_ok sheet_fault max_instances max_times
    events_of rank instances code_of place_of job_of body_of entry_fits list_ok plan_of earliest latest gap apart distance_by distance
    passes at is own alone rule_at along chain of_job wanted_job wanted_before asked wanted_fact wanted_marks guarded last_marks
    one_setter reasons unguarded not_last not_first lowest_unordered linked pairs before meets solves of_list path below too_long writes
    known orderly has_least has_none unordered ahead
    no_guard from both_wanted line_reasons line_steps line_ticks line_path relay_reasons relay_ticks relay_path relay_cycle p8_reasons p9_reasons all
tested = refl

-- ---- the examples

pub examples : Examples
unfolding all line p1_sheet p1_list p5_list p6_list
examples =
    let (one, (two, (three, (five, (six, (seven, (eight, (nine, ten)))))))) = (exact all).0 tested in
    let (ok₁, least₁) = planned p1_sheet _ _ _ _ one in
    let (ok₂, least₂) = planned p2_sheet _ _ _ _ two in
    let (ok₅, least₅) = planned p5_sheet _ _ _ _ five in
    let (ok₆, least₆) = planned p6_sheet _ _ _ _ six in
    record {
      p1_sheet_size = refl;
      p1_list_size = refl;
      p1_bytes = refl;
      p5_bytes = refl;
      p1 = λ w h. Planned.plan p1_list ok₁ least₁ h;
      p2 = λ w h. Planned.plan p1_list ok₂ least₂ h;
      p3 = none_planned p3_sheet _ _ three;
      p4 = λ w q. Planned.short p1_list ok₁ least₁ (omega arith);
      p5 = λ w h. Planned.plan p5_list ok₅ least₅ h;
      p6 = λ w h. Planned.plan p6_list ok₆ least₆ h;
      p7 = none_planned p7_sheet _ _ seven;
      p8 = unordered_planned p8_sheet _ 1 eight;
      p9 = unordered_planned p9_sheet _ 0 nine;
      p10 = ahead_judged p1_sheet p1_list p10_list 1 1 3 ok₁ least₁ ten;
      p1_judged = judge_accepts ok₁ least₁;
    }
