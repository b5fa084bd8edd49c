use Rattle.std.proofs.Common.{arith, sym, ap, ◌∙◌, ◌≡◌, ◌≤◌, true, false, get_or, map}
use borrow.Author.Count.{below_more}
use Rattle.marks.proofs.Laws.{near, here_in, here_long, by_wanted_says}
use Rattle.marks.specs.View.{job_marks}
use Rattle.index.specs.View.{events_in}
use Rattle.sheet.specs.WellFormed.{said_by}
use Rattle.marks.proofs.by_wanted.Goals as goal

pub job_at-j-requires : goal.job_at-j-requires
job_at-j-requires c =
    let p = c.requires in
    record {
      jobs_of = (p.index.jobs, omega (arith, near p, c.at-end.ensures.0, c.loop-r-test.true));
      r_bound = here_in p (omega (arith, c.at-start.ensures.0)) (omega (arith, c.at-end.ensures.0));
    }

pub on-requires : goal.on-requires
on-requires c =
    let p = c.requires in
    let long = here_long p {r = c.loop-r.r} (omega (arith, c.at-start.ensures.0)) (omega (arith, c.at-end.ensures.0)) in
    (omega arith, omega (arith, long, c.job_at-j.ensures.0))

pub returns-then-on : goal.returns-then-on
returns-then-on c =
    let marks = job_marks (map (λ x. x.now) c.args.marks) in
    let on = ap (λ j. get_or marks j false) (sym c.job_at-j.ensures.0) ∙ sym c.on.ensures ∙ c.if-on.true in
    by_wanted_says c.requires _ _ c.at-start.ensures.0 c.at-end.ensures.0 true
    (c.loop-r.r, omega arith, omega arith, on)

pub loop-r-preserved : goal.loop-r-preserved
loop-r-preserved c =
    let marks = job_marks (map (λ x. x.now) c.args.marks) in
    let off = ap (λ j. get_or marks j false) (sym c.job_at-j.ensures.0) ∙ sym c.on.ensures ∙ c.if-on.false in
    let s = said_by c.args.sheet.now in
    let events = events_in (map (λ x. x.now) c.args.columns) in
    λ i from to.
    below_more (λ i. c.at-start.result ≤ i → get_or marks (s.event (get_or events i 0)).job false ≡ false) c.loop-r.r
    (λ j l f. c.loop-r.invariant j f l)
    (λ f. off)
    i to from

pub returns : goal.returns
returns c =
    by_wanted_says c.requires _ _ c.at-start.ensures.0 c.at-end.ensures.0 false
    (λ i from to. c.loop-r.invariant i from (omega arith))
