-- Each turn writes the arrows of one event. The loop keeps that those of the events from a on are what is left to write.
use native.Mathlib.Omega.{arith}
use Rattle.opposite.proofs.Rows.{profile_within}
use Rattle.opposite.proofs.Leaving.{leaving_begins, leaving_done, next_room, next_within, entries_room, event_left}
use Rattle.opposite.proofs.arrows.Lines.from_set.Goals as goal

pub loop-a-init : goal.loop-a-init
loop-a-init c = leaving_begins _ _ _ _ _ _ c.requires.room

pub put-requires-clause-room : goal.put-requires-clause-room
put-requires-clause-room c =
    next_room _ _ _ _ _ _ c.args.shown.tables.now.asked.unrefused c.loop-a.invariant c.loop-a-test.true c.image.ensures
    c.place_of_set.ensures

pub put-requires-clause-p_bound : goal.put-requires-clause-p_bound
put-requires-clause-p_bound c =
    let fits = c.args.shown.fits in
    let within =
    next_within _ _ _ _ _ _ c.args.shown.tables.now.asked.unrefused c.loop-a.invariant c.loop-a-test.true c.image.ensures
    c.place_of_set.ensures in
    omega arith

pub into_blocks-requires-clause-i_bound : goal.into_blocks-requires-clause-i_bound
into_blocks-requires-clause-i_bound c = omega (arith, profile_within _ _ c.args.shown.tables.now.profiles.alike _ c.place-e.ensures)

pub into_blocks-requires-clause-room : goal.into_blocks-requires-clause-room
into_blocks-requires-clause-room c =
    entries_room _ _ _ _ _ _ c.args.shown.tables.now.asked.unrefused c.loop-a.invariant c.loop-a-test.true c.image.ensures
    c.place_of_set.ensures c.put.ensures _ c.of_event.ensures c.place-e.ensures

pub loop-a-preserved : goal.loop-a-preserved
loop-a-preserved c =
    event_left _ _ _ _ _ _ c.args.shown.tables.now.asked.unrefused c.loop-a.invariant c.loop-a-test.true c.image.ensures
    c.place_of_set.ensures c.put.ensures _ c.of_event.ensures c.place-e.ensures c.into_blocks.ensures

pub returns : goal.returns
returns c = leaving_done _ _ _ _ _ _ c.loop-a.invariant c.loop-a-test.false
