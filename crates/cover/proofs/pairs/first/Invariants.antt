-- both loops keep that nothing is stored, and that no pair before i and j rejects
use Rattle.std.proofs.Common.{◌≡◌, None, length}
use Rattle.cover.specs.Pairs.{NoneBefore}
use Rattle.cover.proofs.pairs.first.Given as goal

abbrev pub invariant-search : goal.invariant-search
invariant-search l = (l.found ≡ None) × NoneBefore l.sets.masks.now l.profiles.arrows.now l.profiles.marks.now l.i 0

abbrev pub invariant-loop-j : goal.invariant-loop-j
invariant-loop-j l = (l.found ≡ None) × NoneBefore l.sets.masks.now l.profiles.arrows.now l.profiles.marks.now l.i (length l.yielded)
