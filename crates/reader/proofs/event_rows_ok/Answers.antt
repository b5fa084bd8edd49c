use Rattle.reader.proofs.Laws.{linking_start, linking_step, linking_broken, linking_loose, linking_end}
use Rattle.reader.proofs.event_rows_ok.Goals as goal

pub loop-e-init : goal.loop-e-init
loop-e-init c =
    linking_start _ _

pub returns-then-not-event_ok-next : goal.returns-then-not-event_ok-next
returns-then-not-event_ok-next c =
    linking_broken c.loop-e.invariant c.loop-e-test.true
    c.key-key.ensures.0 c.event-event.ensures c.event_ok.ensures
    c.if-not-event_ok-next.true

pub returns-then-not-linked : goal.returns-then-not-linked
returns-then-not-linked c =
    linking_loose c.loop-e.invariant
    c.loop-e-test.true c.key-key.ensures.0
    c.event-event.ensures c.event_ok.ensures
    c.linked.ensures
    c.if-not-linked.true

pub loop-e-preserved : goal.loop-e-preserved
loop-e-preserved c =
    linking_step c.loop-e.invariant
    c.loop-e-test.true
    c.key-key.ensures.0 c.event-event.ensures
    c.event_ok.ensures
    c.if-not-event_ok-next.false
    c.linked.ensures
    c.if-not-linked.false
    c.kind-before.ensures

pub returns : goal.returns
returns c =
    linking_end c.loop-e.invariant c.loop-e-test.false
