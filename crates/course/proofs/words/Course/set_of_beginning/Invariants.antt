-- What is left to read, from the set so far, gives the set of the word.
use Rattle.course.proofs.Judging.{SetFrom}
use Rattle.course.proofs.words.Course.set_of_beginning.Given as goal

abbrev pub invariant-loop-a : goal.invariant-loop-a
invariant-loop-a l = SetFrom l.self l.set l.a-index
