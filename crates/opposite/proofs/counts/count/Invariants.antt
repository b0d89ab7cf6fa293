use lib.ListN.{length}
use Rattle.opposite.proofs.Sizes.{SizedOf}
use Rattle.opposite.proofs.counts.count.Given as goal

abbrev pub invariant-loop-arrows : goal.invariant-loop-arrows
invariant-loop-arrows l = SizedOf l.tables l.counts (length l.yielded)
