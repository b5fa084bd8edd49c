use Rattle.rules.specs.Sheet.{max_events}
use Rattle.sheet.specs.Laws.{counted}
use Rattle.reader.proofs.Laws.{events_over, events_is}
use Rattle.reader.proofs.events_ok.Goals as goal

pub returns-then-v-gt-MAX_EVENTS : goal.returns-then-v-gt-MAX_EVENTS
unfolding max_events
returns-then-v-gt-MAX_EVENTS c =
    events_over _ _ c.requires.0 c.if-v-gt-MAX_EVENTS.true

pub event_rows_ok-requires : goal.event_rows_ok-requires
event_rows_ok-requires c =
    counted c.requires.0.near c.requires.1

pub returns : goal.returns
unfolding max_events
returns c =
    events_is _ _ c.requires.0 _ _
    c.requires.2 c.if-v-gt-MAX_EVENTS.false
    c.length_of.ensures.0 c.event_rows_ok.ensures
