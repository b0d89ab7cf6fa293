-- The flags of the sets are written, and then each turn those of one block. The loop keeps that the flags of the blocks from number b on
-- are left to write.
use native.Mathlib.Omega.{arith}
use Rattle.opposite.proofs.Flagging.{blocks_begin, blocks_next, blocks_done}
use Rattle.opposite.proofs.flags.write.Goals as goal

pub loop-b-init : goal.loop-b-init
loop-b-init c =
    blocks_begin c.args.profiles c.args.blocks _ c.args.flags.now c.requires c.set_flags.auto.flags

pub loop-b-preserved : goal.loop-b-preserved
loop-b-preserved c =
    blocks_next c.args.profiles c.args.blocks _ c.loop-b.invariant c.loop-b-test.true
    c.block_flags.ensures

pub returns : goal.returns
returns c =
    blocks_done c.args.masks.now c.args.profiles c.args.blocks c.args.flags.now c.loop-b.invariant
    c.loop-b-test.false c.set_flags.ensures (omega (arith, c.requires))
