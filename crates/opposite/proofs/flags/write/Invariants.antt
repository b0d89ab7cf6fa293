use lib.ListN.{length}
use Rattle.opposite.proofs.Flagging.{BlocksLeft}
use Rattle.opposite.proofs.flags.write.Given as goal

abbrev pub invariant-loop-b : goal.invariant-loop-b
invariant-loop-b l = BlocksLeft l.profiles l.blocks (length l.masks) l.initial.flags l.flags l.b
