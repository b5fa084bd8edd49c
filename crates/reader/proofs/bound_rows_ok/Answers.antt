use Rattle.reader.specs.Adjacent.{bound_rows_ok}
use Rattle.reader.specs.Loop.{before_start, before_step, never_falls_before}
use Rattle.reader.specs.Loop.{rising_start, Rising-step, rising_broken, rising_end}
use Rattle.reader.proofs.bound_rows_ok.Goals as goal

pub loop-i-init : goal.loop-i-init
loop-i-init c =
    rising_start _ _ _ _ (before_start _)

pub returns-then-not-bound_ok-last : goal.returns-then-not-bound_ok-last
unfolding bound_rows_ok
returns-then-not-bound_ok-last c =
    rising_broken _ _ _ _ (never_falls_before _ _) c.loop-i.invariant c.loop-i-test.true
    c.bound_ok.ensures c.pair_key-pair.ensures.0
    c.if-not-bound_ok-last.true

pub loop-i-preserved : goal.loop-i-preserved
loop-i-preserved c =
    Rising-step _ _ _ _ c.loop-i.invariant c.loop-i-test.true
    c.bound_ok.ensures c.pair_key-pair.ensures.0
    c.if-not-bound_ok-last.false (before_step _ _ _ c.pair_key-pair.ensures.0)

pub returns : goal.returns
unfolding bound_rows_ok
returns c =
    rising_end _ _ _ _ (never_falls_before _ _) c.loop-i.invariant c.loop-i-test.false
