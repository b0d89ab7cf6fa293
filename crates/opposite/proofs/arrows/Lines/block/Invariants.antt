use Rattle.opposite.specs.Lines.{each_left}
use Rattle.opposite.proofs.Leading.{StatesLeading}
use Rattle.opposite.proofs.arrows.Lines.block.Given as goal

abbrev pub invariant-loop-i : goal.invariant-loop-i
invariant-loop-i l = StatesLeading l.asked l.block l.initial.self l.self l.i (each_left l.x-iterator)
