use Rattle.opposite.proofs.Flagging.{SetsLeft}
use Rattle.opposite.proofs.flags.set_flags.Given as goal

abbrev pub invariant-loop-i : goal.invariant-loop-i
invariant-loop-i l = SetsLeft l.masks l.initial.flags l.flags l.i
