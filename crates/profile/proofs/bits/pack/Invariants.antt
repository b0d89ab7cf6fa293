use Prim.Native.Nat.{ℕ, ◌+◌, ◌-◌, ◌^◌, ◌<◌}
use mathlib.Core.Path.{◌≡◌}
use mathlib.Core.Bool.{Bool}
use Rattle.laws.specs.Bits.{number_of_bits}
use Rattle.profile.specs.Tests.{Answers}
use Rattle.profile.proofs.bits.pack.Given as goal

-- x has a bit for each number from i up to n, which is what the test answers there
abbrev pub invariant-loop-i : goal.invariant-loop-i
invariant-loop-i g l = record {
  below : l.x < 2 ^ (l.n - l.i);
  number : (f : ℕ → Bool) → Answers (goal.T-post g l.test) l.n f → l.x ≡ number_of_bits (l.n - l.i) (λ j. f (l.i + j));
}
