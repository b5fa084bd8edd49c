use Rattle.std.proofs.Common.{◌<◌, ◌≡◌, ◌∙◌, sym, subst, false, map, ℕ, ◌+◌, ◌≤◌, List, get_or, arith}
use Rattle.rules.specs.Sheet.{initial, max_jobs}
use Rattle.rules.specs.Wanted.{WantedFact, WantedJob, is_setter, is_need}
use Rattle.laws.specs.Events.{wanted_fact_in, wanted_job_in}
use Rattle.sheet.specs.WellFormed.{said_by, formed_by}
use Rattle.index.specs.View.{events_in, set_starts}
use Rattle.sheet.specs.declared.formed.WellFormed.{WellFormed}
use Rattle.wanted.specs.declared.Wanted.{Wanted}
use Rattle.wanted.specs.View.{JobIn, MarksGrow, Marking}
use Rattle.wanted.proofs.Laws.{begins_of, not_begins, fact_few, job_few, sized_fact, sized_job, left_fact, left_job}
use Rattle.wanted.proofs.Laws.{left_grown, fact_initial, fact_set, marked_at_lem, job_new, grown_none}
use Rattle.wanted.proofs.Laws.{swept_next, NeedAt, setter_stays, need_stays, setters_end, needs_end}
use Rattle.wanted.proofs.Progress.+marking.Goals as goal
use Rattle.wanted.proofs.Progress.+marking.Goals.{mark_needs-in-Begins, mark_needs-in_default, mark_setters-then-not-self-j, mark_setters-else-not-self-j}

-- ---- marking a fact

pub mark_fact-bounds-self-f : goal.mark_fact-bounds-self-f
mark_fact-bounds-self-f t c =
    let p = c.requires in
    omega (arith, wanted_fact_in (formed_by c.args.sheet.now).formed p.1, (formed_by c.args.sheet.now).few.facts)

pub mark_fact-bounds-self-f-2 : goal.mark_fact-bounds-self-f-2
mark_fact-bounds-self-f-2 t c =
    let p = c.requires in
    omega (arith, wanted_fact_in (formed_by c.args.sheet.now).formed p.1, (formed_by c.args.sheet.now).few.facts)

pub mark_fact-initial-requires : goal.mark_fact-initial-requires
mark_fact-initial-requires t c =
    let p = c.requires in
    wanted_fact_in (formed_by c.args.sheet.now).formed p.1

pub mark_fact-returns-then-initial : goal.mark_fact-returns-then-initial
mark_fact-returns-then-initial t c =
    let p = c.requires in
    fact_initial p.0.sized (fact_few (formed_by c.args.sheet.now) p.1) p.1 (sym c.initial.ensures ∙ c.if-initial.true)

pub mark_fact-mark_setters-requires : goal.mark_fact-mark_setters-requires
mark_fact-mark_setters-requires t c =
    let p = c.requires in
    let w = c.args.self.now.wanted in (
      omega (arith, left_fact w c.args.f p.0.sized (fact_few (formed_by c.args.sheet.now) p.1) c.if-self-f.false),
      (
        record { index = p.0.index; sized = sized_fact _ _ p.0.sized },
        p.1,
        sym c.initial.ensures ∙ c.if-initial.false,
      ),
    )

pub mark_fact-returns : goal.mark_fact-returns
mark_fact-returns t c =
    let p = c.requires in
    fact_set p.0.sized (fact_few (formed_by c.args.sheet.now) p.1) p.1 c.mark_setters.ensures

-- ---- marking the needs of a job

pub mark_needs-overflow_add-j : goal.mark_needs-overflow_add-j
mark_needs-overflow_add-j t c = let p = c.requires in omega (arith, wanted_job_in (formed_by c.args.sheet.now).formed p.1, (formed_by c.args.sheet.now).few.jobs)

pub mark_needs-at-end-requires : goal.mark_needs-at-end-requires
mark_needs-at-end-requires t c =
    let p = c.requires in
    (omega arith, omega (arith, wanted_job_in (formed_by c.args.sheet.now).formed p.1, (formed_by c.args.sheet.now).few.jobs, p.0.index.spans.long))

pub mark_needs-at-start-requires : goal.mark_needs-at-start-requires
mark_needs-at-start-requires t c =
    let p = c.requires in
    (omega arith, omega (arith, wanted_job_in (formed_by c.args.sheet.now).formed p.1, (formed_by c.args.sheet.now).few.jobs, p.0.index.spans.long))

pub mark_needs-event-requires : goal.mark_needs-event-requires
mark_needs-event-requires t c =
    let p = c.requires in
    let last = p.0.index.spans.within (c.args.j + 1) (omega (arith, wanted_job_in (formed_by c.args.sheet.now).formed p.1)) in
    (p.0.index.keys, omega (arith, last, c.at-end.ensures.0))

pub mark_needs-mark_fact-requires : goal.mark_needs-mark_fact-requires
mark_needs-mark_fact-requires t c =
    let p = c.requires in
    let s = said_by c.args.sheet.now in
    let l = c.loop-e in
    let h = l.invariant in
    let j = wanted_job_in (formed_by c.args.sheet.now).formed p.1 in
    let spans = p.0.index.spans in
    let low = c.at-start.ensures.0 in
    let high = c.at-end.ensures.0 in
    let of_job : (s.event l.e).job ≡ c.args.j = spans.of_job _ _ j (omega arith) (omega arith) in
    let in_sheet : l.e < s.events = omega (arith, spans.within (c.args.j + 1) (omega arith)) in
    let k = begins_of _ _ _ _ c.event.ensures c.in-Begins.is in (
      omega (arith, left_grown h.grown),
      (
        record { index = p.0.index; sized = h.grown.sized },
        is_need l.e p.1 (record { in_sheet = in_sheet; of_job = of_job; of_kind = k.0; of_fact = k.1 }),
      ),
    )

pub mark_needs-loop-e-preserved : goal.mark_needs-loop-e-preserved
mark_needs-loop-e-preserved t c =
    let s = said_by c.args.sheet.now in
    let l = c.loop-e in
    let m = c.match-event in
    let w = m.self.wanted in
    let h = l.invariant in
    -- after a turn its need, if it begins one, is marked
    let turn : MarksGrow s l.self.wanted w × NeedAt s w l.e =
    elim m.branch [
      | mark_needs-in-Begins w ↦
          rw w.self-is (
            w.mark_fact.ensures.grown,
            (λ q. marked_at_lem w.mark_fact.ensures (begins_of _ _ _ _ c.event.ensures w.in-Begins.is).1),
          )
      | mark_needs-in_default w ↦
          rw w.self-is (
            grown_none h.grown.sized,
            (λ q. absurd (not_begins _ _ _ c.event.ensures w.in_default.not-Begins q)),
          )
    ] in
    swept_next _ (need_stays _) h turn.0 turn.1

pub mark_needs-returns : goal.mark_needs-returns
mark_needs-returns t c =
    let p = c.requires in
    let h = c.loop-e.invariant in
    let low = c.at-start.ensures.0 in
    let high = c.at-end.ensures.0 in
    needs_end p.0.index.spans (wanted_job_in (formed_by c.args.sheet.now).formed p.1) h (omega arith) (omega arith)

-- ---- marking the setters of a fact

pub mark_setters-overflow_add-f : goal.mark_setters-overflow_add-f
mark_setters-overflow_add-f t c = let p = c.requires in omega (arith, wanted_fact_in (formed_by c.args.sheet.now).formed p.1, (formed_by c.args.sheet.now).few.facts)

pub mark_setters-at-end-requires : goal.mark_setters-at-end-requires
mark_setters-at-end-requires t c =
    let p = c.requires in
    (omega arith, omega (arith, wanted_fact_in (formed_by c.args.sheet.now).formed p.1, p.0.index.sets.long))

pub mark_setters-at-start-requires : goal.mark_setters-at-start-requires
mark_setters-at-start-requires t c =
    let p = c.requires in
    (omega arith, omega (arith, wanted_fact_in (formed_by c.args.sheet.now).formed p.1, p.0.index.sets.long))

pub mark_setters-job_at-j-requires-clause-jobs_of : goal.mark_setters-job_at-j-requires-clause-jobs_of
mark_setters-job_at-j-requires-clause-jobs_of t c =
    let p = c.requires in
    let last = p.0.index.sets.within (c.args.f + 1) (omega (arith, wanted_fact_in (formed_by c.args.sheet.now).formed p.1)) in
    (p.0.index.jobs, omega (arith, last, p.0.index.long, c.at-end.ensures.0))

pub mark_setters-job_at-j-requires-clause-r_bound : goal.mark_setters-job_at-j-requires-clause-r_bound
mark_setters-job_at-j-requires-clause-r_bound t c =
    let p = c.requires in
    let low = c.at-start.ensures.0 in
    let high = c.at-end.ensures.0 in
    (p.0.index.sets.sound _ _ (wanted_fact_in (formed_by c.args.sheet.now).formed p.1) (omega arith) (omega arith)).is.in_sheet

-- the job of an event in f's group is wanted, and so it is one of the sheet
setter_job
    : (sheet : WellFormed) {c : List (List ℕ)} {w : Wanted} {f j : ℕ} (r : ℕ)
    → Marking (said_by sheet) c w
    → WantedFact (said_by sheet) f
    → initial (said_by sheet) f ≡ false
    → get_or (set_starts c) f 0 ≤ r
    → r < get_or (set_starts c) (f + 1) 0
    → j ≡ ((said_by sheet).event (get_or (events_in c) r 0)).job
    → WantedJob (said_by sheet) j × (j < max_jobs)
setter_job sheet r p a n low high q =
    let is = p.index.sets.sound _ r (wanted_fact_in (formed_by sheet).formed a) low high in
    let j = subst (WantedJob (said_by sheet)) (sym q) (is_setter _ a n is) in
    (j, job_few (formed_by sheet) j)

pub mark_setters-bounds-self-j : goal.mark_setters-bounds-self-j
unfolding max_jobs
mark_setters-bounds-self-j t c =
    let p = c.requires in
    let h = c.loop-r.invariant in
    let low = c.at-start.ensures.0 in
    let high = c.at-end.ensures.0 in
    (setter_job c.args.sheet.now c.loop-r.r p.0 p.1 p.2 (omega arith) (omega arith) c.job_at-j.ensures.0).1

pub mark_setters-bounds-self-j-then-not-self-j : goal.mark_setters-bounds-self-j-then-not-self-j
unfolding max_jobs
mark_setters-bounds-self-j-then-not-self-j t c =
    let p = c.requires in
    let h = c.loop-r.invariant in
    let low = c.at-start.ensures.0 in
    let high = c.at-end.ensures.0 in
    (setter_job c.args.sheet.now c.loop-r.r p.0 p.1 p.2 (omega arith) (omega arith) c.job_at-j.ensures.0).1

pub mark_setters-mark_needs-requires : goal.mark_setters-mark_needs-requires
mark_setters-mark_needs-requires t c =
    let p = c.requires in
    let l = c.loop-r in
    let h = l.invariant in
    let g = h.grown in
    let low = c.at-start.ensures.0 in
    let high = c.at-end.ensures.0 in
    let j = setter_job c.args.sheet.now l.r p.0 p.1 p.2 (omega arith) (omega arith) c.job_at-j.ensures.0 in
    let less = left_job l.self.wanted c.job_at-j.result g.sized j.1 c.if-not-self-j.true in (
      omega (arith, left_grown g, less),
      (record { index = p.0.index; sized = sized_job _ _ g.sized }, j.0),
    )

pub mark_setters-note-requires : goal.mark_setters-note-requires
mark_setters-note-requires t c =
    let p = c.requires in
    let h = c.loop-r.invariant in
    let low = c.at-start.ensures.0 in
    let high = c.at-end.ensures.0 in
    let j = setter_job c.args.sheet.now c.loop-r.r p.0 p.1 p.2 (omega arith) (omega arith) c.job_at-j.ensures.0 in
    j.1

pub mark_setters-loop-r-preserved : goal.mark_setters-loop-r-preserved
mark_setters-loop-r-preserved t c =
    let p = c.requires in
    let s = said_by c.args.sheet.now in
    let events = events_in (map (λ x. x.now) c.args.columns) in
    let l = c.loop-r in
    let m = c.if-not-self-j in
    let w = m.self.wanted in
    let h = l.invariant in
    let z = h.grown.sized in
    let low = c.at-start.ensures.0 in
    let high = c.at-end.ensures.0 in
    let j = setter_job c.args.sheet.now l.r p.0 p.1 p.2 (omega arith) (omega arith) c.job_at-j.ensures.0 in
    -- after a turn its job is marked
    let turn : MarksGrow s l.self.wanted w × JobIn w c.job_at-j.result =
    elim m.branch [
      | mark_setters-then-not-self-j w ↦
          let n = job_new z j.1 j.0 w.mark_needs.ensures in
          rw w.self-is n
      | mark_setters-else-not-self-j w ↦
          rw w.self-is (grown_none z, w.if-not-self-j.false)
    ] in
    let marked = subst (JobIn w) c.job_at-j.ensures.0 turn.1 in
    swept_next _ (setter_stays _ events) h turn.0 marked

pub mark_setters-returns : goal.mark_setters-returns
mark_setters-returns t c =
    let p = c.requires in
    let h = c.loop-r.invariant in
    let low = c.at-start.ensures.0 in
    let high = c.at-end.ensures.0 in
    setters_end p.0.index.sets (wanted_fact_in (formed_by c.args.sheet.now).formed p.1) h (omega arith) (omega arith)
