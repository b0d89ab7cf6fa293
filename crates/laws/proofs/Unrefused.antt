-- A model is not refused with 1, 2 or 3 exactly if it is as asked; and its machine then has its numbers as they were lent. The set of the
-- empty word is the start mask, the home states are the home mask's, and the arrows of an event's profile are the arrow number lent for it.
use Prim.Native.Nat.{ℕ, zero, suc, ◌+◌, ◌*◌, ◌/◌, ◌%◌, ◌^◌, ◌<◌, ◌≤◌}
use native.Mathlib.Omega.{arith}
use native.Mathlib.Nat.{pow-le-pow_right, mul-le-mul_left, mul_comm, lt_of_mul-lt-mul_left, div-lt_iff_lt-mul}
use mathlib.Core.Path.{◌≡◌, refl, sym, ◌∙◌}
use mathlib.Core.Bool.{Bool, true, false, ◌&&◌, ◌||◌}
use mathlib.Core.Logic.{◌↔◌, ⊎_elim}
use mathlib.Core.List.{List, [], ◌∷◌}
use lib.ListN.{length, take, get_or}
use lib.Dec.{ltb, leb}
use borrow.Author.Tests.{ltb-false, leb-false, lt-ltb, le-ltb, lt-leb}
use Rattle.laws.specs.Bits.{bit, number_of_bits, cell, grid, packed_row, some_below, some_of}
use Rattle.laws.specs.Model.{Kind, Model, is_state, leads, machine}
use Rattle.laws.specs.Refusals.{first_of, fault, refuse, outside, mask_beyond, arrows_beyond, model_checks, Unrefused}
use Rattle.laws.specs.Profiles.{start_set, event_profile}
use Rattle.laws.proofs.Booleans.{both, and_right, same_test, never, either, some_is_below, below_some}
use Rattle.laws.proofs.Checks.{shows_check}
use Rattle.laws.proofs.Packing.{bit_number_of_bits, number_of_bits_below, bit_inside, same_bits, cell_grid, grid_below, same_cells}
use Rattle.laws.proofs.Packing.{row_bit, row_small, bit_cell, inside_bits}

-- an "or" that does not hold has neither test holding, and the other way round
neither : (a b : Bool) → (a || b) ≡ false → (a ≡ false) × (b ≡ false)
neither true b e = never (sym e)
neither false b e = (refl, e)

nor : {a b : Bool} → a ≡ false → b ≡ false → (a || b) ≡ false
nor e f = rw (e, f)

-- a test fails of the first k elements exactly if it fails of each by its place
module _ {A : Type 0} (f : A → Bool) (d : A) where
  pub none_meets : (xs : List A) (k i : ℕ) → some_of f (take k xs) ≡ false → i < k → i < length xs → f (get_or xs i d) ≡ false
  unfolding some_of
  none_meets [] k i h l m = absurd (omega arith)
  none_meets (x ∷ xs) zero i h l m = absurd (omega arith)
  none_meets (x ∷ xs) (suc k) zero h l m = (neither (f x) (some_of f (take k xs)) h).0
  none_meets (x ∷ xs) (suc k) (suc i) h l m = none_meets xs k i (neither (f x) (some_of f (take k xs)) h).1 (omega arith) (omega arith)

  all_miss : (xs : List A) (k : ℕ) → ((i : ℕ) → i < k → f (get_or xs i d) ≡ false) → some_of f (take k xs) ≡ false
  unfolding some_of
  all_miss [] zero h = refl
  all_miss [] (suc k) h = refl
  all_miss (x ∷ xs) zero h = refl
  all_miss (x ∷ xs) (suc k) h = nor (h 0 (omega arith)) (all_miss xs k (λ i l. h (suc i) (omega arith)))

-- x is in its range exactly if it is not outside
pub in_range : (limit x : ℕ) → (outside limit x ≡ false) ↔ ((1 ≤ x) × (x ≤ limit))
unfolding outside
in_range limit x = (
  (λ e. let (l, m) = neither (ltb x 1) (ltb limit x) e in (ltb-false x 1 l, ltb-false limit x m)),
  (λ h. nor (le-ltb x 1 h.0) (le-ltb limit x h.1)),
)

-- a mask names no state n or above exactly if all its bits are below n
pub mask_below : (n x : ℕ) → mask_beyond n x ≡ false → x < 2 ^ n
unfolding mask_beyond
mask_below n x = leb-false (2 ^ n) x

pub mask_inside : (n x : ℕ) → (mask_beyond n x ≡ false) ↔ ((p : ℕ) → bit x p ≡ true → p < n)
unfolding mask_beyond
mask_inside n x = ((λ e p. bit_inside n x p (mask_below n x e)), (λ h. lt-leb (2 ^ n) x (inside_bits n x h)))

-- an arrow number names no state n or above exactly if both ends of all its arrows are below n
module _ (W n x : ℕ) where
  abbrev beyond : ℕ → Bool
  beyond p = mask_beyond n (packed_row W x p)

  pub number_below : arrows_beyond W n x ≡ false → x < 2 ^ (W * n)
  unfolding arrows_beyond
  number_below e = leb-false (2 ^ (W * n)) x (neither (leb (2 ^ (W * n)) x) (some_below n beyond) e).0

  ends_inside : arrows_beyond W n x ≡ false → (p q : ℕ) → q < W → cell W x p q ≡ true → (p < n) × (q < n)
  unfolding arrows_beyond cell
  ends_inside e p q hq b =
      let inside = bit_inside (W * n) x (W * p + q) (number_below e) b in
      let p_below : p < n = lt_of_mul-lt-mul_left W (omega arith) in
      let none = (neither (leb (2 ^ (W * n)) x) (some_below n beyond) e).1 in
      let row : beyond p ≡ false = ⊎_elim (λ t. never (sym none ∙ some_is_below beyond n p p_below t)) (λ t. t) (either (beyond p)) in
      (p_below, (mask_inside n (packed_row W x p)).0 row q (row_bit W x p q hq ∙ b))

  -- no row of such a number has a bit n or above
  pub rows_inside : ((p q : ℕ) → q < W → cell W x p q ≡ true → (p < n) × (q < n)) → (p : ℕ) → beyond p ≡ false
  rows_inside h p =
      (mask_inside n (packed_row W x p)).1
      (λ q b.
      let q_below = bit_inside W (packed_row W x p) q (row_small W x p) b in
      (h p q q_below (sym (row_bit W x p q q_below) ∙ b)).1)

  pub inside_ends : zero < W → ((p q : ℕ) → q < W → cell W x p q ≡ true → (p < n) × (q < n)) → arrows_beyond W n x ≡ false
  unfolding arrows_beyond
  inside_ends w h = nor (lt-leb (2 ^ (W * n)) x (inside_bits (W * n) x low)) (⊎_elim some_row (λ t. t) (either (some_below n beyond)))
    where
      low : (i : ℕ) → bit x i ≡ true → i < W * n
      low i b =
          let (q_below, c) = bit_cell W x i w b in
          omega (arith, (div-lt_iff_lt-mul {k = W} {x = i} {y = n} w).0 (h (i / W) (i % W) q_below c).0, mul_comm W n)

      some_row : some_below n beyond ≡ true → some_below n beyond ≡ false
      some_row t = let (p, l, e) = below_some beyond n t in never (sym (rows_inside h p) ∙ e)

-- A MODEL IS NOT REFUSED with 1, 2 or 3 exactly if it is as asked
pub unrefused : (K : Kind) (m : Model) → (first_of (model_checks K m)).number ≡ 0 → Unrefused K m
unfolding model_checks refuse
unrefused K m h =
    let (ranges, h₁) = shows_check 0 0 _ _ h in
    let (few, h₂) = shows_check 1 0 _ _ h₁ in
    let (bits, _) = shows_check 2 0 _ _ h₂ in
    let (n_range, k_range) = neither _ _ ranges in
    let (masks, arrows) = neither _ _ bits in
    let (start, home) = neither _ _ masks in
    let long = ltb-false (length m.arrows) m.k few in
    record {
      n_least = ((in_range K.states m.n).0 n_range).0;
      n_most = ((in_range K.states m.n).0 n_range).1;
      k_least = ((in_range K.events m.k).0 k_range).0;
      k_most = ((in_range K.events m.k).0 k_range).1;
      arrows_there = long;
      start_inside = (mask_inside m.n m.start).0 start;
      home_inside = (mask_inside m.n m.home).0 home;
      arrows_inside = λ a p q l.
          ends_inside K.states m.n (get_or m.arrows a 0)
          (none_meets (arrows_beyond K.states m.n) 0 m.arrows m.k a arrows l (omega arith)) p q;
    }

pub as_asked : (K : Kind) (m : Model) → Unrefused K m → (first_of (model_checks K m)).number ≡ 0
unfolding model_checks first_of refuse fault
as_asked K m u =
    let n_range = (in_range K.states m.n).1 (u.n_least, u.n_most) in
    let k_range = (in_range K.events m.k).1 (u.k_least, u.k_most) in
    let long = le-ltb (length m.arrows) m.k u.arrows_there in
    let start = (mask_inside m.n m.start).1 u.start_inside in
    let home = (mask_inside m.n m.home).1 u.home_inside in
    let inside : (a : ℕ) → a < m.k → arrows_beyond K.states m.n (get_or m.arrows a 0) ≡ false =
    λ a l. inside_ends K.states m.n (get_or m.arrows a 0) (omega (arith, u.n_least, u.n_most)) (λ p q. u.arrows_inside a p q l) in
    let arrows = all_miss (arrows_beyond K.states m.n) 0 m.arrows m.k inside in
    rw (nor n_range k_range, long, nor (nor start home) arrows)

-- a mask with no bit from n on is the number of its own bits below n, taken to W bits
mask_kept : (W n x : ℕ) → n ≤ W → ((p : ℕ) → bit x p ≡ true → p < n) → number_of_bits W (λ p. ltb p n && bit x p) ≡ x
mask_kept W n x h l =
    let f : ℕ → Bool = λ p. ltb p n && bit x p in
    same_bits W (number_of_bits W f) x (number_of_bits_below W f) (inside_bits W x (λ p b. omega (arith, l p b)))
    (λ p below. bit_number_of_bits W f p below ∙ same_test (and_right (ltb p n) (bit x p)) (λ e. both (lt-ltb p n (l p e)) e))

-- THE SET OF THE EMPTY WORD is the start mask as it was lent
pub start_mask : (K : Kind) (m : Model) → Unrefused K m → start_set K.states (machine K.states m) ≡ m.start
unfolding start_set machine is_state
start_mask K m u = mask_kept K.states m.n m.start u.n_most u.start_inside

-- the bits of the home states are the home mask as it was lent
pub home_mask : (K : Kind) (m : Model) → Unrefused K m → number_of_bits K.states (machine K.states m).home ≡ m.home
unfolding machine is_state
home_mask K m u = mask_kept K.states m.n m.home u.n_most u.home_inside

-- an arrow number with no bit for a state n or above is that of its own arrows among the states below n
arrows_kept : (W n x : ℕ) {known : Bool} → zero < W → n ≤ W → ((p q : ℕ) → q < W → cell W x p q ≡ true → (p < n) × (q < n)) → known ≡ true
    → grid W (λ p q. ltb p n && ltb q n && known && cell W x p q) ≡ x
arrows_kept W n x {known = known} w few h k =
    let f : ℕ → ℕ → Bool = λ p q. ltb p n && ltb q n && known && cell W x p q in
    let small = number_below W n x (inside_ends W n x w h) in
    let wide = pow-le-pow_right {n = 2} (omega arith) (mul-le-mul_left W few) in
    same_cells W (grid W f) x (grid_below W f) (omega arith)
    (λ p q hp hq. cell_grid W f p q hp hq
    ∙ same_test (and_right (ltb p n && ltb q n && known) (cell W x p q))
    (λ e. let (p_in, q_in) = h p q hq e in both (both (both (lt-ltb p n p_in) (lt-ltb q n q_in)) k) e))

-- THE ARROWS OF AN EVENT'S PROFILE are the arrow number lent for it
pub event_arrows : (K : Kind) (m : Model) → Unrefused K m → (a : ℕ) → a < m.k
    → (event_profile K.states (machine K.states m) a).arrows ≡ get_or m.arrows a 0
unfolding event_profile machine leads is_state
event_arrows K m u a l =
    arrows_kept K.states m.n (get_or m.arrows a 0) (omega (arith, u.n_least, u.n_most)) u.n_most
    (λ p q. u.arrows_inside a p q l) (lt-ltb a m.k l)
