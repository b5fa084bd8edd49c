use Rattle.rules.specs.Sheet.{max_jobs}
use Rattle.sheet.specs.Laws.{counted}
use Rattle.reader.proofs.Laws.{jobs_over, jobs_is}
use Rattle.reader.proofs.jobs_ok.Goals as goal

pub returns-then-v-gt-MAX_JOBS : goal.returns-then-v-gt-MAX_JOBS
unfolding max_jobs
returns-then-v-gt-MAX_JOBS c =
    jobs_over _ _ c.requires.0 c.if-v-gt-MAX_JOBS.true

pub codes_rise-requires : goal.codes_rise-requires
codes_rise-requires c =
    counted c.requires.0.near c.requires.1

pub returns : goal.returns
unfolding max_jobs
returns c =
    jobs_is _ _ c.requires.0 _ _ c.if-v-gt-MAX_JOBS.false
    c.length_of.ensures.0 c.codes_rise.ensures
