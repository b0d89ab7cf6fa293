use Prim.Native.Nat.{ℕ, ◌+◌, ◌-◌, ◌^◌}
use Rattle.laws.specs.Profiles.{Profile}
use Rattle.laws.proofs.Repeats.{Grown}
use Rattle.profile.specs.Values.{profile}
use Rattle.course.proofs.repeated.Given as goal

abbrev pub invariant-loop-grown : goal.invariant-loop-grown
invariant-loop-grown l = Grown 8 (profile l.initial.c) (profile l.c)

-- how far both numbers together are below 2^65
abbrev pub room : Profile → ℕ
room c = 2 ^ 65 - (c.arrows + c.marks)

abbrev pub decreases-loop-grown : goal.decreases-loop-grown
decreases-loop-grown l = room (profile l.c)
