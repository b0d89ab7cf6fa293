-- Tests taken apart: "or", "and", "below n + 1", "some number below n"; and what an option holds.
use Prim.Native.Nat.{ℕ, zero, suc, ◌<◌}
use native.Mathlib.Omega.{arith}
use mathlib.Core.Path.{◌≡◌, refl, sym, ap, ap₂, ◌∙◌}
use mathlib.Core.Bool.{Bool, true, false, ◌&&◌, ◌||◌, false≢true, and-eq-true_iff}
use mathlib.Core.Logic.{◌⊎◌, inl, inr, ⊎_elim}
use mathlib.Core.Option.{Option, none, some}
use Rattle.laws.specs.Bits.{some_below}

-- an "or" holds by its left or by its right test
pub or_left : {a : Bool} (b : Bool) → a ≡ true → (a || b) ≡ true
or_left {a = true} b e = refl
or_left {a = false} b e = absurd (false≢true e)

pub or_right : (a : Bool) {b : Bool} → b ≡ true → (a || b) ≡ true
or_right true e = refl
or_right false e = e

pub or_cases : (a b : Bool) → (a || b) ≡ true → (a ≡ true) ⊎ (b ≡ true)
or_cases true b e = inl refl
or_cases false b e = inr e

-- an "and" holds by both
pub both : {a b : Bool} → a ≡ true → b ≡ true → (a && b) ≡ true
both {a = a} {b = b} e f = (and-eq-true_iff a b).1 (e, f)

pub and_left : (a b : Bool) → (a && b) ≡ true → a ≡ true
and_left a b e = ((and-eq-true_iff a b).0 e).0

pub and_right : (a b : Bool) → (a && b) ≡ true → b ≡ true
and_right a b e = ((and-eq-true_iff a b).0 e).1

-- two tests that hold at the same times are equal
pub same_test : {a b : Bool} → (a ≡ true → b ≡ true) → (b ≡ true → a ≡ true) → a ≡ b
same_test {a = true} f g = sym (f refl)
same_test {a = false} {b = true} f g = g refl
same_test {a = false} {b = false} f g = refl

-- a test that fails does not hold
pub never : {A : Type 0} → false ≡ true → A
never e = absurd (false≢true e)

-- a test holds or does not
pub either : (a : Bool) → (a ≡ true) ⊎ (a ≡ false)
either true = inl refl
either false = inr refl

-- below n + 1 is below n or n
pub less : (i n : ℕ) → i < suc n → (i < n) ⊎ (i ≡ n)
less zero zero h = inr refl
less zero (suc n) h = inl (omega arith)
less (suc i) zero h = absurd (omega arith)
less (suc i) (suc n) h = ⊎_elim (λ l. inl (omega arith)) (λ s. inr (ap suc s)) (less i n (omega arith))

module _ (f : ℕ → Bool) where
  -- what holds of some number below n
  pub some_is_below : (n i : ℕ) → i < n → f i ≡ true → some_below n f ≡ true
  unfolding some_below
  some_is_below zero i h e = absurd (omega arith)
  some_is_below (suc n) i h e =
      ⊎_elim (λ l. or_left (f n) (some_is_below n i l e)) (λ s. or_right (some_below n f) (ap f (sym s) ∙ e)) (less i n h)

  pub below_some : (n : ℕ) → some_below n f ≡ true → (i : ℕ) × (i < n) × (f i ≡ true)
  unfolding some_below
  below_some zero e = never e
  below_some (suc n) e =
      ⊎_elim
      (λ l. let (i, h, t) = below_some n l in (i, omega arith, t))
      (λ r. (n, omega arith, r))
      (or_cases (some_below n f) (f n) e)

-- where two tests hold of some number below n, each of them does
pub below_both : (f g : ℕ → Bool) (n : ℕ) → some_below n (λ i. f i && g i) ≡ true → (i : ℕ) × (i < n) × (f i ≡ true) × (g i ≡ true)
below_both f g n e =
    let (i, h, t) = below_some (λ i. f i && g i) n e in
    (i, h, and_left (f i) (g i) t, and_right (f i) (g i) t)

-- tests that agree below n hold of some number below n at the same time
pub some_same : (n : ℕ) (f g : ℕ → Bool) → ((i : ℕ) → i < n → f i ≡ g i) → some_below n f ≡ some_below n g
unfolding some_below
some_same zero f g h = refl
some_same (suc n) f g h = ap₂ ◌||◌ (some_same n f g (λ i l. h i (omega arith))) (h n (omega arith))

-- what has to be a given value is one only
pub one_value : {A : Type 0} {r s x : A} → r ≡ x → s ≡ x → r ≡ s
one_value e f = e ∙ sym f

-- what is there is one thing, and is not nothing
pub inside : {A : Type 0} {x y : A} → some x ≡ some y → x ≡ y
inside e = cc

pub not_nothing : {A : Type 0} {x : A} → ◌≡◌ {A = Option A} none (some x) → ⊥
not_nothing {A = A} {x = x} e = let z : ◌≡◌ {A = ℕ} 0 1 = cc in omega arith
