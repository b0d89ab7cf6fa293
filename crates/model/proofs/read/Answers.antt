-- The fields are read in their order, and the first fault is the answer. The loop keeps that the events before a have none, and that their
-- arrow numbers stand first; these go to the slice when the end field has none either.
use Rattle.model.proofs.FileRead.{refuses_front, refuses_event, refuses_end, reads}
use Rattle.model.proofs.read.Goals as goal

pub returns-in_default : goal.returns-in_default
returns-in_default c = rw c.in_default.is (refuses_front _ _ c.in_default.ensures)

pub returns-in_default-event : goal.returns-in_default-event
returns-in_default-event c =
    refuses_event _ _ c.in-Ok.ensures c.loop-a.invariant c.loop-a-test.true
    (rw c.unwrap_err.ensures at c.event_at-event.ensures)

pub returns-in_default-end : goal.returns-in_default-end
returns-in_default-end c =
    refuses_end _ _ c.in-Ok.ensures c.loop-a.invariant c.loop-a-test.false c.event_offset.ensures.0
    (rw c.unwrap_err-in_default-end.ensures at c.end_at-end.ensures)

pub returns : goal.returns
returns c =
    reads _ _ c.in-Ok.ensures c.loop-a.invariant c.loop-a-test.false
    c.event_offset.ensures.0 c.in-Ok-end.ensures (rw c.copy_from_slice.ensures.after)
