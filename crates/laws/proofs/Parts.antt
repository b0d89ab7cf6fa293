-- Parts of lists: what stands behind a place, parts of one length one behind the other, and what is listed for numbers in a row.
use Prim.Native.Nat.{ℕ, zero, suc, ◌+◌, ◌*◌, ◌-◌, ◌≤◌, ◌<◌}
use native.Mathlib.Omega.{arith}
use native.Mathlib.Nat.{add-zero, zero-add, suc-add, add-suc, zero-mul, suc-mul, add_comm}
use mathlib.Core.Path.{◌≡◌, refl, sym, ap, ap₂, ◌∙◌}
use mathlib.Core.List.{List, [], ◌∷◌, ◌++◌, map, append_assoc}
use lib.ListN.{length, get_or, take, drop}
use lib.Seq.{take-take, drop-drop, drop_at, drop-cons}
use Rattle.laws.specs.Bits.{counted, gather, each_below}

-- what is listed for the d numbers from i on depends on these alone
pub counted_same : {A : Type 0} (f g : ℕ → A) (i d : ℕ) → ((a : ℕ) → a < i + d → f a ≡ g a) → map f (counted i d) ≡ map g (counted i d)
unfolding counted
counted_same f g i zero h = refl
counted_same f g i (suc d) h = ap₂ ◌∷◌ (h i (omega arith)) (counted_same f g (suc i) d (λ a l. h a (omega arith)))

module _ {A : Type 0} where
  -- the elements at d places from i on are a part of the list
  pub counted_part : (x : A) (xs : List A) (i d : ℕ) → i + d ≤ length xs → map (λ a. get_or xs a x) (counted i d) ≡ take d (drop i xs)
  unfolding counted
  counted_part x xs i zero h = refl
  counted_part x xs i (suc d) h = rw (drop-cons xs i x (omega arith), counted_part x xs (suc i) d (omega arith))

  -- a part that ends within the first N elements is the same part of them
  pub part_same : (N o n : ℕ) (xs : List A) → o + n ≤ N → take n (drop o (take N xs)) ≡ take n (drop o xs)
  part_same N zero n xs h = take-take n N xs (omega arith)
  part_same zero (suc o) n xs h = absurd (omega arith)
  part_same (suc N) (suc o) n [] h = refl
  part_same (suc N) (suc o) n (x ∷ xs) h = part_same N o n xs (omega arith)

  -- where an element stands first behind a place, it is the element of that place, and the others stand behind the next
  pub first_behind : (d : A) (o : ℕ) (xs : List A) {y : A} {ys : List A} → drop o xs ≡ y ∷ ys
      → (o < length xs) × (get_or xs o d ≡ y) × (drop (suc o) xs ≡ ys)
  first_behind d zero [] e = absurd (omega (arith, ap length e))
  first_behind d zero (x ∷ xs) e = (omega arith, cc, cc)
  first_behind d (suc o) [] e = absurd (omega (arith, ap length e))
  first_behind d (suc o) (x ∷ xs) e = let r = first_behind d o xs e in (omega arith, r.1, r.2)

  -- parts of one length, one behind the other, and a list behind them
  module _ (f : ℕ → List A) (size : ℕ) (same_size : (a : ℕ) → length (f a) ≡ size) (end : List A) where
    parts_behind : (a i d : ℕ)
        → drop (a * size) (gather (λ _. f) i (counted i (a + d)) ++ end) ≡ gather (λ _. f) (i + a) (counted (i + a) d) ++ end
    unfolding gather counted
    parts_behind zero i d = rw (zero-mul, zero-add, add-zero)
    parts_behind (suc a) i d =
        let others = gather (λ _. f) (suc i) (counted (suc i) (a + d)) in
        rw (
          suc-mul,
          add_comm (a * size) size,
          ← drop-drop (a * size) size,
          suc-add a d,
          append_assoc (f i) others end,
          drop_at (f i) (others ++ end) size (same_size i),
          parts_behind a (suc i) d,
          suc-add,
          add-suc,
        )

    -- behind a of them stands part a, and something behind it
    pub part_there : (k a : ℕ) → a < k → (rest : List A) × (drop (a * size) (each_below k f ++ end) ≡ f a ++ rest)
    unfolding each_below gather counted
    part_there k a l = go (k - suc a) (omega arith)
      where
        go : (d : ℕ) → k ≡ a + suc d → (rest : List A) × (drop (a * size) (each_below k f ++ end) ≡ f a ++ rest)
        go d e =
            let others = gather (λ _. f) (suc a) (counted (suc a) d) in
            (others ++ end, rw (e, parts_behind a 0 (suc d), zero-add) (append_assoc (f a) others end))

    -- and behind all of them the list behind them
    pub parts_end : (k : ℕ) → drop (k * size) (each_below k f ++ end) ≡ end
    unfolding each_below gather counted
    parts_end k = ap (λ d. drop (k * size) (gather (λ _. f) 0 (counted 0 d) ++ end)) (sym (add-zero k)) ∙ parts_behind k 0 0
