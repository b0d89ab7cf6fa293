-- A number is outside where the range does not contain it.
use native.Mathlib.Omega.{arith}
use Rattle.std.proofs.lemmas.Bool.Decides.{nat_tests}
use Rattle.laws.specs.Refusals.{outside}
use Rattle.model.proofs.bounds.is_outside.Goals as goal

pub returns : goal.returns
unfolding outside
returns c = rw (c.contains.ensures.value, c.new.ensures.exhausted, c.new.ensures.start, c.new.ensures.end) (grind (arith, nat_tests))
