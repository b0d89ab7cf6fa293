-- A loop that asks a test f of 0, 1, .. below n, returns true where it holds, and false at the end: it answers whether f holds of some
-- number below n.
use Prim.Native.Nat.{ℕ, ◌+◌, ◌<◌, ◌≤◌}
use native.Mathlib.Omega.{arith}
use native.Mathlib.Numerals.{add-one}
use mathlib.Core.Path.{◌≡◌, refl, sym, ap, ap₂, ◌∙◌}
use mathlib.Core.Bool.{Bool, true, false, ◌||◌}
use Rattle.laws.specs.Bits.{some_below}
use Rattle.laws.proofs.Booleans.{some_is_below}

-- f was asked below r, and did not hold
pub record Searched (f : ℕ → Bool) (n r : ℕ) : Type 0 where
  pub at_most : r ≤ n
  pub none_before : some_below r f ≡ false

pub start : {f : ℕ → Bool} {n : ℕ} → Searched f n 0
unfolding some_below
start = record { at_most = omega arith; none_before = refl }

module _ {f : ℕ → Bool} {n r : ℕ} (s : Searched f n r) where
  -- b is the answer at r
  pub miss : {b : Bool} → r < n → b ≡ f r → b ≡ false → Searched f n (r + 1)
  unfolding some_below
  miss l is e = record { at_most = omega arith; none_before = rw add-one (ap₂ ◌||◌ s.none_before (sym is ∙ e)) }

  pub hit : {b : Bool} → r < n → b ≡ f r → b ≡ true → true ≡ some_below n f
  hit l is e = sym (some_is_below f n r l (sym is ∙ e))

  pub end : n ≤ r → false ≡ some_below n f
  end l = let all : r ≡ n = omega arith in sym s.none_before ∙ ap (λ m. some_below m f) all
