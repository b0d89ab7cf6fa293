use Rattle.laws.specs.Bits.{counted}
use Rattle.laws.specs.Profiles.{same_profile, next_profile}
use Rattle.model.specs.Lent.{machine_of}
use Rattle.profile.specs.Values.{profile, before as before_of}
use Rattle.opposite.proofs.Adding.{Counting}
use Rattle.opposite.proofs.counts.returns_of.Given as goal

abbrev pub invariant-loop-a : goal.invariant-loop-a
invariant-loop-a l = Counting (λ b. same_profile (next_profile 8 (machine_of l.asked) (before_of l.x) b) (profile l.t)) (counted 0 l.asked.model.k) l.found l.a
