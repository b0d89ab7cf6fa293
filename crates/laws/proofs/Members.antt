-- Members of lists: where they stand, and those of the lists that `gather`, `each_below` and `keep` make.
use Prim.Native.Nat.{ℕ, zero, suc, ◌+◌, ◌<◌}
use native.Mathlib.Omega.{arith}
use native.Mathlib.Nat.{add-zero, zero-add, suc-add, add-suc}
use mathlib.Core.Path.{◌≡◌, refl, sym, ap, ◌∙◌, subst}
use mathlib.Core.Bool.{Bool, true, false, ◌||◌, cond}
use mathlib.Core.Logic.{◌⊎◌, inl, inr}
use mathlib.Core.Option.{Option, some}
use mathlib.Core.List.Memᴰ.{head}
use mathlib.Core.List.Memᴰ.{tail}
use mathlib.Core.List.{List, [], ◌∷◌, map, Memᴰ as Member}
use mathlib.Core.List.Memᴰ.{eq_of_singleton}
use mathlib.Core.List.Memᴰ.{not-nil}
use mathlib.Core.List.Memᴰ.{append_cases}
use mathlib.Core.List.Memᴰ.{append_left}
use mathlib.Core.List.Memᴰ.{append_right}
use lib.ListN.{length, get_or, get_elem?}
use Rattle.laws.specs.Bits.{counted, some_of, keep, gather, place_of, each_below}
use Rattle.laws.proofs.Booleans.{or_left, or_right, not_nothing, inside, never}
use Rattle.laws.proofs.Places.{In, place_below, element, at_get_d}

module _ {A : Type 0} where
  -- what stands in a list is a member
  pub member : (xs : List A) {x : A} → In x xs → Member x xs
  member [] (i, e) = absurd (not_nothing e)
  member (y ∷ xs) (zero, e) = head (sym (inside e))
  member (y ∷ xs) (suc i, e) = tail (member xs (i, e))

  -- and a member stands in the list
  pub stands_in : {x : A} {xs : List A} → Member x xs → In x xs
  stands_in (head e) = (0, ap {B = Option A} some (sym e))
  stands_in (tail m) = let r = stands_in m in (suc r.0, r.1)

  -- a test that holds of some element holds of a member
  pub some_member : (f : A → Bool) (xs : List A) → some_of f xs ≡ true → (x : A) × Member x xs × (f x ≡ true)
  unfolding some_of
  some_member f [] h = never h
  some_member f (y ∷ xs) h = go (f y) refl h (some_member f xs)
    where
      go : (b : Bool) → f y ≡ b → b || some_of f xs ≡ true → (some_of f xs ≡ true → (x : A) × Member x xs × (f x ≡ true))
          → (x : A) × Member x (y ∷ xs) × (f x ≡ true)
      go true e h rest = (y, head refl, e)
      go false e h rest = let r = rest h in (r.0, tail r.1, r.2)

  -- and one that holds of a member holds of some element
  pub member_some : (f : A → Bool) {x : A} {xs : List A} → Member x xs → f x ≡ true → some_of f xs ≡ true
  unfolding some_of
  member_some f (head {xs = xs} p) e = or_left (some_of f xs) (ap f (sym p) ∙ e)
  member_some f (tail {x = y} m) e = or_right (f y) (member_some f m e)

  -- a member of which f holds is kept
  pub kept : (f : A → Bool) {x : A} {xs : List A} → Member x xs → f x ≡ true → Member x (keep f xs)
  unfolding keep
  kept f (head p) e = rw (← p, e) (head refl)
  kept f (tail {x = y} {xs = xs} m) e = go (f y) (kept f m e)
    where
      go : {x : A} (b : Bool) → Member x (keep f xs) → Member x (cond b (y ∷ keep f xs) (keep f xs))
      go true r = tail r
      go false r = r

  -- the member of a list of one element, if b
  pub only : (b : Bool) {x y : A} → Member x (cond b (y ∷ []) []) → (b ≡ true) × (x ≡ y)
  only true m = (refl, eq_of_singleton m)
  only false m = absurd (not-nil m)

  -- the first element of which a test for x holds is x
  pub placed : (test : A → Bool) {x : A} (xs : List A) → test x ≡ true → ((y : A) → test y ≡ true → x ≡ y)
      → Member x xs → get_elem? xs (place_of test xs) ≡ some x
  unfolding place_of
  placed test [] holds tells m = absurd (not-nil m)
  placed test {x} (y ∷ xs) holds tells m = go (test y) refl m (placed test xs holds tells)
    where
      go : (b : Bool) → test y ≡ b → Member x (y ∷ xs) → (Member x xs → get_elem? xs (place_of test xs) ≡ some x)
          → get_elem? (y ∷ xs) (cond b 0 (suc (place_of test xs))) ≡ some x
      go true e m rest = ap {B = Option A} some (sym (tells y e))
      go false e (head p) rest = never (sym e ∙ ap test (sym p) ∙ holds)
      go false e (tail m) rest = rest m

module _ {A B : Type 0} where
  -- to gather from the next number on is to gather what f lists for the next numbers
  pub shifted : (f : ℕ → A → List B) (i : ℕ) (xs : List A) → gather f (suc i) xs ≡ gather (λ n. f (suc n)) i xs
  unfolding gather
  shifted f i [] = refl
  shifted f i (x ∷ xs) = rw (shifted f (suc i) xs)

  -- a member of what is gathered is one of what f lists for some element and its number
  pub gathered : (f : ℕ → A → List B) (xs : List A) {e : B} → Member e (gather f 0 xs)
      → (j : ℕ) × (x : A) × (get_elem? xs j ≡ some x) × Member e (f j x)
  unfolding gather
  gathered f [] m = absurd (not-nil m)
  gathered f (x ∷ xs) {e} m = go (gathered (λ n. f (suc n)) xs) (append_cases (f 0 x) m)
    where
      go : (Member e (gather (λ n. f (suc n)) 0 xs) → (j : ℕ) × (y : A) × (get_elem? xs j ≡ some y) × Member e (f (suc j) y))
          → Member e (f 0 x) ⊎ Member e (gather f 1 xs)
          → (j : ℕ) × (y : A) × (get_elem? (x ∷ xs) j ≡ some y) × Member e (f j y)
      go rest (inl n) = (0, x, refl, n)
      go rest (inr n) = let r = rest (rw shifted at n) in (suc r.0, r.1, r.2, r.3)

  -- and each of these is a member
  pub into_gathered : (f : ℕ → A → List B) (xs : List A) {e : B} {x : A} (j : ℕ) → get_elem? xs j ≡ some x → Member e (f j x)
      → Member e (gather f 0 xs)
  unfolding gather
  into_gathered f [] j h m = absurd (not_nothing h)
  into_gathered f (y ∷ xs) {e} zero h m =
      append_left (gather f 1 xs) (subst (λ (z : A). Member e (f 0 z)) (sym (inside h)) m)
  into_gathered f (y ∷ xs) (suc j) h m = append_right (f 0 y) (rw (shifted f 0 xs) (into_gathered (λ n. f (suc n)) xs j h m))

-- there are d numbers from i on
pub length_counted : (i d : ℕ) → length (counted i d) ≡ d
unfolding counted
length_counted i zero = refl
length_counted i (suc d) = ap suc (length_counted (suc i) d)

module _ {A : Type 0} (f : ℕ → A) (k a : ℕ) where
  -- and at place a stands what f makes of a
  pub place_counted : a < k → get_elem? (map f (counted 0 k)) a ≡ some (f a)
  unfolding counted
  place_counted l = go 0 k a l ∙ rw zero-add
    where
      go : (i k a : ℕ) → a < k → get_elem? (map f (counted i k)) a ≡ some (f (i + a))
      go i zero a l = absurd (omega arith)
      go i (suc k) zero l = rw add-zero
      go i (suc k) (suc a) l = go (suc i) k a (omega arith) ∙ rw (suc-add, add-suc)

  -- which is read there
  pub at_counted : (d : A) → a < k → get_or (map f (counted 0 k)) a d ≡ f a
  at_counted d l =
      let there = place_counted l in
      inside (sym (at_get_d (map f (counted 0 k)) a d (place_below (map f (counted 0 k)) a there)) ∙ there)

-- a number below k and its place in the list of them are one number
pub by_place : {A : Type 0} (k : ℕ) (f : ℕ → List A) → each_below k f ≡ gather (λ a _. f a) 0 (counted 0 k)
unfolding each_below gather counted
by_place k f = go 0 k
  where
    go : (i d : ℕ) → gather (λ _ a. f a) i (counted i d) ≡ gather (λ a _. f a) i (counted i d)
    go i zero = refl
    go i (suc d) = rw (go (suc i) d)

module _ {A : Type 0} (k : ℕ) (f : ℕ → List A) {e : A} where
  -- a member of what is listed for each number below k is one of what is listed for some
  pub each : Member e (each_below k f) → (a : ℕ) × (a < k) × Member e (f a)
  each m =
      let r = gathered (λ a _. f a) (counted 0 k) (rw by_place at m) in
      (r.0, omega (arith, place_below (counted 0 k) r.0 r.2, length_counted 0 k), r.3)

  -- and each of these is a member
  pub into_each : (a : ℕ) → a < k → Member e (f a) → Member e (each_below k f)
  into_each a h m =
      let there = element (counted 0 k) a (omega (arith, length_counted 0 k)) in
      rw by_place (into_gathered (λ a _. f a) (counted 0 k) a there.1 m)

module _ {A B : Type 0} (k : ℕ) (f : ℕ → A → ℕ → List B) (xs : List A) {e : B} where
  -- the same for what is listed for each element and each number below k
  pub gathered_each : Member e (gather (λ i x. each_below k (f i x)) 0 xs)
      → (i : ℕ) × (x : A) × (a : ℕ) × (get_elem? xs i ≡ some x) × (a < k) × Member e (f i x a)
  gathered_each m =
      let g = gathered (λ i x. each_below k (f i x)) xs m in
      let r = each k (f g.0 g.1) g.3 in
      (g.0, g.1, r.0, g.2, r.1, r.2)

  pub into_gathered_each : (i a : ℕ) {x : A} → get_elem? xs i ≡ some x → a < k → Member e (f i x a)
      → Member e (gather (λ i x. each_below k (f i x)) 0 xs)
  into_gathered_each i a {x} there h m = into_gathered (λ i x. each_below k (f i x)) xs i there (into_each k (f i x) a h m)
