-- Each turn writes the arrows of one set. The loop keeps that those of the sets from number i on are what is left to write.
use Rattle.opposite.proofs.Lines.{begin}
use Rattle.opposite.proofs.Leaving.{room_of_set, set_left, sets_done}
use Rattle.opposite.proofs.arrows.Lines.sets.Goals as goal

pub loop-i-init : goal.loop-i-init
loop-i-init c = begin c.requires.room

pub from_set-requires-clause-room : goal.from_set-requires-clause-room
from_set-requires-clause-room c = room_of_set _ _ _ _ c.loop-i.invariant c.loop-i-test.true

pub loop-i-preserved : goal.loop-i-preserved
loop-i-preserved c = set_left _ _ _ _ c.loop-i.invariant c.loop-i-test.true c.from_set.ensures

pub returns : goal.returns
returns c = sets_done _ _ _ _ c.loop-i.invariant c.loop-i-test.false
