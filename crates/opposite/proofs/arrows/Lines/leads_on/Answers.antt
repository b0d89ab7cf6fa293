-- Each turn writes the arrows of one event. The loop keeps that those of the events from a on are left to write.
use Rattle.opposite.proofs.Lines.{begin, room_next, write_next, left_as, all_written}
use Rattle.opposite.proofs.Leading.{leads_first, leads_next, leads_last}
use Rattle.opposite.proofs.arrows.Lines.leads_on.Goals as goal

pub loop-a-init : goal.loop-a-init
loop-a-init c = left_as (begin c.requires.room) (leads_first 8 _ _ _ _ _ _ _)

pub onto-requires-clause-room : goal.onto-requires-clause-room
onto-requires-clause-room c =
    room_next c.loop-a.invariant _ _ (leads_next 8 _ _ _ _ _ _ _ _ c.loop-a-test.true _ c.next_on-y.ensures)

pub loop-a-preserved : goal.loop-a-preserved
loop-a-preserved c =
    write_next c.loop-a.invariant _ _ (leads_next 8 _ _ _ _ _ _ _ _ c.loop-a-test.true _ c.next_on-y.ensures) c.onto.ensures

pub returns : goal.returns
returns c = all_written c.loop-a.invariant (leads_last 8 _ _ _ _ _ _ _ _ c.loop-a-test.false)
