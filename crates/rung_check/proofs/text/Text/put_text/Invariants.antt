use lib.ListN.{take}
use Rattle.rung_check.specs.Putting.{Adds}
use Rattle.rung_check.proofs.text.Text.put_text.Given as goal

abbrev pub invariant-loop-byte : goal.invariant-loop-byte
invariant-loop-byte l = Adds (take l.byte-index l.text) l.initial.self l.self
