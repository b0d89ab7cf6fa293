-- Each number of the answer is the "or" of two numbers below 2^64, which is packed from the bits that one of the two has.
use native.Mathlib.Omega.{arith}
use Rattle.laws.specs.Profiles.{leads_to, marked}
use Rattle.laws.specs.Repeats.{union}
use Rattle.laws.proofs.Packing.{or_grid}
use Rattle.profile.proofs.union.Goals as goal

pub returns : goal.returns
unfolding union leads_to marked
returns c =
    let a = c.args in
    cc (or_grid 8 a.s.arrows a.t.arrows (omega arith) (omega arith), or_grid 8 a.s.marks a.t.marks (omega arith) (omega arith))
