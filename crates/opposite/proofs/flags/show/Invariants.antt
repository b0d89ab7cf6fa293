use Rattle.opposite.proofs.Flagging.{ShownLeft}
use Rattle.opposite.proofs.flags.show.Given as goal

abbrev pub invariant-loop-j : goal.invariant-loop-j
invariant-loop-j l = ShownLeft 8 l.masks l.profiles l.initial.shown l.shown l.j
