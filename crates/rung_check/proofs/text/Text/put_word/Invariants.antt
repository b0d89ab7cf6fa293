use lib.ListN.{take}
use Rattle.laws.specs.Program.{letters}
use Rattle.rung_check.specs.Putting.{Adds}
use Rattle.rung_check.proofs.text.Text.put_word.Given as goal

abbrev pub invariant-loop-letter : goal.invariant-loop-letter
invariant-loop-letter l = Adds (letters (take l.letter-index l.word)) l.initial.self l.self
