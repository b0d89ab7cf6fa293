-- Lists for the events one behind the other: what is left from event a on is the list of event a and what is left from the next on.
use Prim.Native.Nat.{ℕ, suc, ◌+◌, ◌-◌, ◌≤◌, ◌<◌}
use native.Mathlib.Omega.{arith}
use native.Mathlib.Numerals.{add-one}
use mathlib.Core.Path.{◌≡◌}
use mathlib.Core.List.{List, [], ◌++◌}
use Rattle.laws.specs.Bits.{gather, counted, each_below}

module _ {A : Type 0} (k : ℕ) (f : ℕ → List A) where
  -- what f lists for each number from a on that is below k
  unfoldable pub each_from : ℕ → List A
  each_from a = gather (λ _ b. f b) a (counted a (k - a))

  -- from 0 on it is all
  pub from_first : each_from 0 ≡ each_below k f
  unfolding each_from each_below
  from_first =
      let whole : k - 0 ≡ k = omega arith in
      rw whole

  -- the next number, and what is left behind it
  pub from_next : (a : ℕ) → a < k → each_from a ≡ f a ++ each_from (a + 1)
  unfolding each_from gather counted
  from_next a h =
      let more : k - a ≡ suc (k - suc a) = omega arith in
      rw (add-one, more)

  -- at the end nothing is left
  pub from_last : (a : ℕ) → k ≤ a → each_from a ≡ []
  unfolding each_from gather counted
  from_last a h =
      let none : k - a ≡ 0 = omega arith in
      rw none
