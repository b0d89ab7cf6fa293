use Rattle.model.proofs.EventsRead.{Gathered}
use Rattle.model.proofs.read.Given as goal

abbrev pub invariant-loop-a : goal.invariant-loop-a
invariant-loop-a l = Gathered l.file l.n l.k l.numbers l.a
