-- Each turn passes one block. The loop keeps that the arrows into those of the walk are left to write.
use Rattle.opposite.proofs.Entering.{entering_begins, entry_room, entered, not_entered, entering_done}
use Rattle.opposite.proofs.arrows.Lines.into_blocks.Goals as goal

pub loop-block-init : goal.loop-block-init
loop-block-init c =
    rw c.into_iter-block-iterator.ensures.into_iter_gives (entering_begins c.blocks-block-items.ensures c.requires.room)

pub put-requires-clause-room : goal.put-requires-clause-room
put-requires-clause-room c =
    entry_room c.loop-block.invariant c.in-Some.ensures.steps c.stays_unmarked.ensures c.if-stays_unmarked.true

pub loop-block-preserved-then-stays_unmarked : goal.loop-block-preserved-then-stays_unmarked
loop-block-preserved-then-stays_unmarked c =
    entered c.loop-block.invariant c.in-Some.ensures.steps c.stays_unmarked.ensures c.if-stays_unmarked.true c.put.ensures

pub loop-block-preserved : goal.loop-block-preserved
loop-block-preserved c =
    not_entered c.loop-block.invariant c.in-Some.ensures.steps c.stays_unmarked.ensures c.if-stays_unmarked.false

pub returns : goal.returns
returns c = entering_done c.loop-block.invariant c.in-None.ensures.steps
