-- More places than values: where each of the places 0 to n holds a value below n, two of them hold the same value.
use Prim.Native.Nat.{ℕ, zero, suc, ◌+◌, ◌-◌, min, ◌≤◌, ◌<◌}
use native.Mathlib.Omega.{arith}
use mathlib.Core.Path.{◌≡◌, refl}
use mathlib.Core.Bool.{Bool, true, false}
use mathlib.Core.Logic.{◌⊎◌, inl, inr}
use lib.Dec.{ltb, eqb}
use borrow.Author.Tests.{ltb-true, ltb-false, eqb-true, eqb-false}

-- a place below n holds v, or none does
abbrev Searched : (ℕ → ℕ) → ℕ → ℕ → Type 0
Searched f v n = ((i : ℕ) × (i < n) × (f i ≡ v)) ⊎ ((i : ℕ) → i < n → f i ≡ v → ⊥)

-- the last place is looked at after those below it
search_for : (f : ℕ → ℕ) (v n : ℕ) → Searched f v n
search_for f v zero = inr (λ i h e. omega arith)
search_for f v (suc n) = last (eqb (f n) v) refl (search_for f v n)
  where
    last : (b : Bool) → eqb (f n) v ≡ b → Searched f v n → Searched f v (suc n)
    last true e r = inl (n, omega arith, eqb-true (f n) v e)
    last false e (inl r) = inl (r.0, omega arith, r.2)
    last false e (inr none) = inr (λ i h. at i h (ltb i n) refl)
      where
        at : (i : ℕ) → i < suc n → (b : Bool) → ltb i n ≡ b → f i ≡ v → ⊥
        at i h true l = none i (ltb-true i n l)
        at i h false l = let here : i ≡ n = omega (arith, ltb-false i n l) in rw here (eqb-false (f n) v e)

-- the values other than v numbered anew: those above v come down by one
lowered : ℕ → ℕ → ℕ
lowered v w = w - min 1 (suc w - v)

-- then one value fewer is left
lowered_below : (v w n : ℕ) → (w ≡ v → ⊥) → v < suc n → w < suc n → lowered v w < n
unfolding lowered
lowered_below v w n other hv hw = omega arith

-- and the old value is known from the new one
from_lowered : (v w : ℕ) → (w ≡ v → ⊥) → lowered v w + min 1 (suc (lowered v w) - v) ≡ w
unfolding lowered
from_lowered v w other = omega arith

-- where each place up to n holds a value below n, two of them hold the same one
abbrev Shared : ℕ → (ℕ → ℕ) → Type 0
Shared n f = ((i : ℕ) → i ≤ n → f i < n) → (i : ℕ) × (j : ℕ) × (i < j) × (j ≤ n) × (f i ≡ f j)

-- the last place shares its value, or the places before it have one value fewer
pub pigeonhole : (n : ℕ) (f : ℕ → ℕ) → ((i : ℕ) → i ≤ n → f i < n) → (i : ℕ) × (j : ℕ) × (i < j) × (j ≤ n) × (f i ≡ f j)
pigeonhole zero f below = absurd (omega (arith, below 0 (omega arith)))
pigeonhole (suc n) f below = by (search_for f (f (suc n)) (suc n)) (pigeonhole n (λ i. lowered (f (suc n)) (f i))) below
  where
    by : Searched f (f (suc n)) (suc n) → Shared n (λ i. lowered (f (suc n)) (f i)) → Shared (suc n) f
    by (inl r) before below = (r.0, suc n, omega arith, omega arith, r.2)
    by (inr none) before below =
        let r = before (λ i h. lowered_below _ _ _ (none i (omega arith)) (below (suc n) (omega arith)) (below i (omega arith))) in
        (r.0, r.1, r.2, omega arith, cc (from_lowered _ _ (none r.0 (omega arith)), from_lowered _ _ (none r.1 (omega arith))))
