use Rattle.rules.specs.Sheet.{max_bounds}
use Rattle.sheet.specs.Laws.{counted}
use Rattle.reader.proofs.Laws.{bounds_over, bounds_is}
use Rattle.reader.proofs.bounds_ok.Goals as goal

pub returns-then-v-gt-MAX_BOUNDS : goal.returns-then-v-gt-MAX_BOUNDS
unfolding max_bounds
returns-then-v-gt-MAX_BOUNDS c =
    bounds_over _ _ c.requires.0 c.if-v-gt-MAX_BOUNDS.true

pub bound_rows_ok-requires : goal.bound_rows_ok-requires
bound_rows_ok-requires c =
    counted c.requires.0.near c.requires.1

pub returns : goal.returns
unfolding max_bounds
returns c =
    bounds_is _ _ c.requires.0 _ _ c.if-v-gt-MAX_BOUNDS.false
    c.length_of.ensures.0 c.bound_rows_ok.ensures
