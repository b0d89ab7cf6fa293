-- Each turn writes one block. The loop keeps that those of the walk are left to write.
use Rattle.opposite.proofs.Lines.{begin, room_next, write_next, left_as, all_written}
use Rattle.opposite.proofs.Leading.{blocks_first, blocks_next, blocks_last}
use Rattle.opposite.proofs.arrows.Lines.blocks.Goals as goal

pub loop-block-init : goal.loop-block-init
loop-block-init c =
    rw c.into_iter-block-iterator.ensures.into_iter_gives
    (left_as (begin c.requires.room) (blocks_first c.args.shown.tables.now.asked c.blocks-block-items.ensures))

pub block-requires : goal.block-requires
block-requires c =
    record { room = room_next c.loop-block.invariant _ _ (blocks_next c.args.shown.tables.now.asked c.in-Some.ensures.steps) }

pub loop-block-preserved : goal.loop-block-preserved
loop-block-preserved c =
    write_next c.loop-block.invariant _ _ (blocks_next c.args.shown.tables.now.asked c.in-Some.ensures.steps) c.block.ensures

pub returns : goal.returns
returns c =
    all_written c.loop-block.invariant
    (blocks_last c.args.shown.tables.now.asked c.loop-block.block-iterator c.in-None.ensures.steps)
