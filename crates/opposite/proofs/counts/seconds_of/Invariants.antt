use lib.ListN.{length}
use Rattle.model.specs.Lent.{machine_of}
use Rattle.profile.specs.Values.{profile}
use Rattle.opposite.specs.Lent.{profiles_of}
use Rattle.opposite.proofs.Adding.{Seconds}
use Rattle.opposite.proofs.counts.seconds_of.Given as goal

abbrev pub invariant-loop-arrows : goal.invariant-loop-arrows
invariant-loop-arrows l =
    Seconds 8 (machine_of l.tables.asked) l.tables.asked.model.k (profile l.t) (profiles_of l.tables.profiles) l.found (length l.yielded)
