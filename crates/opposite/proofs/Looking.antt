-- The place of the first element of which a test holds, from what std's search by `position` tells.
use Prim.Native.Nat.{ℕ, ◌<◌}
use native.Mathlib.Omega.{arith}
use mathlib.Core.Path.{◌≡◌, refl, sym}
use mathlib.Core.Bool.{Bool, true, false}
use mathlib.Core.List.{List}
use lib.ListN.{length}
use Rattle.std.specs.Prelude.{Option, MatchOption}
use Rattle.std.specs.List.{AllWithin, HoldsAt}
use Rattle.std.specs.Option.{unwrap_or}
use Rattle.std.proofs.lemmas.Iterator.{index_from_first}
use Rattle.laws.specs.Bits.{place_of}

module _ {A : Type 0} (f : A → Bool) (xs : List A) where
  -- the number at which the test holds first, or else how many there are, is the place
  pub place_first : (r : Option ℕ)
      → MatchOption r (AllWithin (λ x. f x ≡ false) xs 0 (length xs))
      (λ i. (i < length xs) × HoldsAt (λ x. f x ≡ true) xs i × AllWithin (λ x. f x ≡ false) xs 0 i)
      → unwrap_or r (length xs) ≡ place_of f xs
  unfolding place_of
  place_first r first =
      sym (index_from_first (place_of f) (λ x. f x ≡ true) (λ x. f x ≡ false) refl (λ x xs t. rw t) (λ x xs t. rw t (omega arith)) xs r first)
