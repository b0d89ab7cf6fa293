-- What is left to read after the first letter, from the profile so far, gives the profile of the word.
use Rattle.profile.specs.Values.{profile}
use Rattle.course.proofs.Judging.{ProfileFrom}
use Rattle.course.proofs.words.Course.profile_of_round.Given as goal

abbrev pub invariant-loop-a : goal.invariant-loop-a
invariant-loop-a l = ProfileFrom l.self (profile l.t) l.a-index
