use Rattle.opposite.specs.Lines.{blocks_lines}
use Rattle.opposite.proofs.Leading.{left_blocks}
use Rattle.opposite.proofs.Lines.{Left}
use Rattle.opposite.proofs.arrows.Lines.blocks.Given as goal

abbrev pub invariant-loop-block : goal.invariant-loop-block
invariant-loop-block l = Left (blocks_lines l.shown) l.initial.self l.self (left_blocks l.shown.tables.now.asked l.block-iterator)
