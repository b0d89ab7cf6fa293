-- Where elements stand in a list: below its length, past its end, and with one element more.
use Prim.Native.Nat.{ℕ, zero, suc, ◌≤◌, ◌<◌}
use native.Mathlib.Omega.{arith}
use mathlib.Core.Path.{◌≡◌, refl, sym, ap, ap₂, subst}
use mathlib.Core.Logic.{◌⊎◌, inl, inr, ⊎_elim}
use mathlib.Core.Option.{none, some}
use mathlib.Core.List.{List, [], ◌∷◌, ◌++◌}
use lib.ListN.{length, get_or, get_elem?, length-append}
use Rattle.laws.proofs.Booleans.{inside, not_nothing}

-- x stands somewhere in the list
abbrev pub In : {A : Type 0} → A → List A → Type 0
In x xs = (i : ℕ) × (get_elem? xs i ≡ some x)

module _ {A : Type 0} where
  -- what stands in a list stands below its length
  pub place_below : (xs : List A) (i : ℕ) {x : A} → get_elem? xs i ≡ some x → i < length xs
  place_below [] i e = absurd (not_nothing e)
  place_below (y ∷ xs) zero e = omega arith
  place_below (y ∷ xs) (suc i) e = omega (arith, place_below xs i e)

  -- at each place below the length something stands
  pub element : (xs : List A) (i : ℕ) → i < length xs → (x : A) × (get_elem? xs i ≡ some x)
  element [] i h = absurd (omega arith)
  element (y ∷ xs) zero h = (y, refl)
  element (y ∷ xs) (suc i) h = element xs i (omega arith)

  -- lists of one length with the same elements are the same
  pub same_lists : (xs ys : List A) → length xs ≡ length ys
      → ((i : ℕ) (x y : A) → get_elem? xs i ≡ some x → get_elem? ys i ≡ some y → x ≡ y) → xs ≡ ys
  same_lists [] [] l h = refl
  same_lists [] (y ∷ ys) l h = absurd (omega arith)
  same_lists (x ∷ xs) [] l h = absurd (omega arith)
  same_lists (x ∷ xs) (y ∷ ys) l h = ap₂ ◌∷◌ (h 0 x y refl refl) (same_lists xs ys (omega arith) (λ i. h (suc i)))

  -- past the end there is nothing
  pub past_end : (xs : List A) (i : ℕ) → length xs ≤ i → get_elem? xs i ≡ none
  past_end [] i h = refl
  past_end (x ∷ xs) zero h = absurd (omega arith)
  past_end (x ∷ xs) (suc i) h = past_end xs i (omega arith)

  -- and where there is nothing is past the end
  pub end_past : (xs : List A) (i : ℕ) → get_elem? xs i ≡ none → length xs ≤ i
  end_past [] i h = omega arith
  end_past (x ∷ xs) zero h = absurd (not_nothing (sym h))
  end_past (x ∷ xs) (suc i) h = omega (arith, end_past xs i h)

  -- what holds of the first element, and of each of the others by its number, holds of all
  pub at_all : (P : ℕ → A → Type 0) {x : A} (xs : List A) → P 0 x → ((i : ℕ) (y : A) → get_elem? xs i ≡ some y → P (suc i) y)
      → (i : ℕ) (y : A) → get_elem? (x ∷ xs) i ≡ some y → P i y
  at_all P xs first others zero y h = subst (P 0) (inside h) first
  at_all P xs first others (suc i) y h = others i y h

  -- one element more
  pub length_one_more : (xs : List A) (x : A) → length (xs ++ (x ∷ [])) ≡ suc (length xs)
  length_one_more xs x = omega (arith, length-append xs (x ∷ []))

  -- what stood in the list before still stands there
  pub at_old : (xs : List A) (x : A) (i : ℕ) → i < length xs → get_elem? (xs ++ (x ∷ [])) i ≡ get_elem? xs i
  at_old [] x i h = absurd (omega arith)
  at_old (y ∷ xs) x zero h = refl
  at_old (y ∷ xs) x (suc i) h = at_old xs x i (omega arith)

  -- the new element stands at the end
  pub at_new : (xs : List A) (x : A) → get_elem? (xs ++ (x ∷ [])) (length xs) ≡ some x
  at_new [] x = refl
  at_new (y ∷ xs) x = at_new xs x

  -- and nothing else is there
  pub at_cases : (xs : List A) (x : A) (i : ℕ) {y : A} → get_elem? (xs ++ (x ∷ [])) i ≡ some y
      → (get_elem? xs i ≡ some y) ⊎ ((i ≡ length xs) × (y ≡ x))
  at_cases [] x zero h = inr (refl, cc)
  at_cases [] x (suc i) h = inl h
  at_cases (z ∷ xs) x zero h = inl h
  at_cases (z ∷ xs) x (suc i) h = ⊎_elim inl (λ e. inr (ap suc e.0, e.1)) (at_cases xs x i h)

  -- below the length stands what get_or reads
  pub at_get_d : (xs : List A) (i : ℕ) (d : A) → i < length xs → get_elem? xs i ≡ some (get_or xs i d)
  at_get_d [] i d h = absurd (omega arith)
  at_get_d (x ∷ xs) zero d h = refl
  at_get_d (x ∷ xs) (suc i) d h = at_get_d xs i d (omega arith)
