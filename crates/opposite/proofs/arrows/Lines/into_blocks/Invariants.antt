use Rattle.opposite.proofs.Entering.{Entering}
use Rattle.opposite.proofs.arrows.Lines.into_blocks.Given as goal

abbrev pub invariant-loop-block : goal.invariant-loop-block
invariant-loop-block l = Entering l.shown l.set l.i l.a l.e l.initial.self l.self l.block-iterator
