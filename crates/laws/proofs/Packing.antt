-- Numbers as bits, over any width: the number with given bits has them and no others, and a number is given by its bits.
-- The number of a list of rows has these rows.
use Prim.Native.Nat.{ℕ, zero, suc, ◌+◌, ◌*◌, ◌-◌, ◌/◌, ◌%◌, ◌^◌, ◌<◌, ◌≤◌}
use native.Mathlib.Omega.{arith}
use native.Mathlib.Nat.{add-zero, add_comm, mul-zero, mul-suc, zero-div, zero-mod, div-one, pow-succ', pow-le-pow_right}
use native.Mathlib.Nat.{mul-le-mul_left, div-div-eq-div-mul, mul-add-div}
use native.Mathlib.Nat.{div-eq_of_lt, div-lt_iff_lt-mul, mul-add-mod_self_left, mod-eq_of_lt, mod-lt, div-add-mod}
use mathlib.Core.Path.{◌≡◌, refl, sym, ap, ap₂, ◌∙◌, subst}
use mathlib.Core.Bool.{Bool, true, false, ◌||◌, cond}
use mathlib.Core.Logic.{⊎_elim}
use mathlib.Core.List.{List, [], ◌∷◌}
use lib.ListN.{get_or}
use lib.Bits.{bit_or, or_lt, or_mod, or_shr}
use lib.Pow.{pow_pos, field, mod-mod-pow, shr-shr}
use lib.Dec.{eqb, ltb}
use borrow.Author.Tests.{ltb-true, ltb-false, eqb-true, eqb-false, eq-eqb, ne_eqb}
use Rattle.laws.specs.Bits.{bit, number_of_bits, cell, grid, packed_row, from_rows}
use Rattle.laws.proofs.Booleans.{same_test, never, either}

-- bit 0 is the remainder by two
bit_zero : (x : ℕ) → bit x 0 ≡ eqb (x % 2) 1
unfolding bit
bit_zero x = ap (λ y. eqb (y % 2) 1) (div-one x)

-- the other bits are those of the half
bit_suc : (x i : ℕ) → bit x (suc i) ≡ bit (x / 2) i
unfolding bit
bit_suc x i = ap (λ (y : ℕ). eqb (y % 2) 1) (ap (λ y. x / y) (pow-succ' 2 i) ∙ sym (div-div-eq-div-mul x 2 (2 ^ i)))

-- a digit and a rest: the digit is bit 0, the rest is the half
digit : (b : Bool) (y : ℕ) → eqb ((cond b 1 0 + 2 * y) % 2) 1 ≡ b
digit true y = eq-eqb ((1 + 2 * y) % 2) 1 (omega arith)
digit false y = ne_eqb ((0 + 2 * y) % 2) 1 (λ e. omega arith)

rest : (b : Bool) (y : ℕ) → (cond b 1 0 + 2 * y) / 2 ≡ y
rest true y = omega arith
rest false y = omega arith

-- the number with given bits has them
pub bit_number_of_bits : (N : ℕ) (f : ℕ → Bool) (i : ℕ) → i < N → bit (number_of_bits N f) i ≡ f i
unfolding number_of_bits
bit_number_of_bits zero f i h = absurd (omega arith)
bit_number_of_bits (suc N) f zero h = bit_zero (cond (f 0) 1 0 + 2 * number_of_bits N (λ i. f (suc i))) ∙ digit (f 0) (number_of_bits N (λ i. f (suc i)))
bit_number_of_bits (suc N) f (suc i) h =
    bit_suc (cond (f 0) 1 0 + 2 * number_of_bits N (λ i. f (suc i))) i
    ∙ ap (λ y. bit y i) (rest (f 0) (number_of_bits N (λ i. f (suc i))))
    ∙ bit_number_of_bits N (λ i. f (suc i)) i (omega arith)

-- and is below 2^N
pub number_of_bits_below : (N : ℕ) (f : ℕ → Bool) → number_of_bits N f < 2 ^ N
unfolding number_of_bits
number_of_bits_below zero f = omega arith
number_of_bits_below (suc N) f = go (f 0) (number_of_bits N (λ i. f (suc i))) (number_of_bits_below N (λ i. f (suc i)))
  where
    go : (b : Bool) (y : ℕ) → y < 2 ^ N → cond b 1 0 + 2 * y < 2 ^ suc N
    go true y l = omega (arith, pow-succ' 2 N)
    go false y l = omega (arith, pow-succ' 2 N)

-- a number below 2^N has no bit from N on
bit_beyond : (N x i : ℕ) → x < 2 ^ N → N ≤ i → bit x i ≡ false
bit_beyond zero x zero h l = bit_zero x ∙ ne_eqb (x % 2) 1 (λ e. omega arith)
bit_beyond zero x (suc i) h l = bit_suc x i ∙ bit_beyond zero (x / 2) i (omega arith) (omega arith)
bit_beyond (suc N) x zero h l = absurd (omega arith)
bit_beyond (suc N) x (suc i) h l = bit_suc x i ∙ bit_beyond N (x / 2) i (omega (arith, pow-succ' 2 N)) (omega arith)

-- so its bits lie below N
pub bit_inside : (N x i : ℕ) → x < 2 ^ N → bit x i ≡ true → i < N
bit_inside N x i h b = ⊎_elim (ltb-true i N) (λ e. never (sym (bit_beyond N x i h (ltb-false i N e)) ∙ b)) (either (ltb i N))

-- two numbers below 2^N with the same bits are equal
pub same_bits : (N x y : ℕ) → x < 2 ^ N → y < 2 ^ N → ((i : ℕ) → i < N → bit x i ≡ bit y i) → x ≡ y
same_bits zero x y hx hy h = omega arith
same_bits (suc N) x y hx hy h =
    let double = pow-succ' 2 N in
    let bits : (i : ℕ) → i < N → bit (x / 2) i ≡ bit (y / 2) i = λ i l. sym (bit_suc x i) ∙ h (suc i) (omega arith) ∙ bit_suc y i in
    let halves = same_bits N (x / 2) (y / 2) (omega arith) (omega arith) bits in
    let low = go (eqb (y % 2) 1) (sym (bit_zero x) ∙ h 0 (omega arith) ∙ bit_zero y) refl in
    omega arith
  where
    go : (b : Bool) → eqb (x % 2) 1 ≡ b → eqb (y % 2) 1 ≡ b → x % 2 ≡ y % 2
    go true e f = omega (arith, eqb-true)
    go false e f = omega (arith, eqb-false)

-- of two numbers below 2^N, one that has all bits of the other is not below it
more_bits : (N x y : ℕ) → x < 2 ^ N → y < 2 ^ N → ((i : ℕ) → i < N → bit x i ≡ true → bit y i ≡ true) → x ≤ y
more_bits zero x y hx hy h = omega arith
more_bits (suc N) x y hx hy h =
    let double = pow-succ' 2 N in
    let bits : (i : ℕ) → i < N → bit (x / 2) i ≡ true → bit (y / 2) i ≡ true =
    λ i l b. sym (bit_suc y i) ∙ h (suc i) (omega arith) (bit_suc x i ∙ b) in
    let halves = more_bits N (x / 2) (y / 2) (omega arith) (omega arith) bits in
    let low = go (eqb (x % 2) 1) (λ b. sym (bit_zero y) ∙ h 0 (omega arith) (bit_zero x ∙ b)) refl in
    omega arith
  where
    go : (b : Bool) → (eqb (x % 2) 1 ≡ true → eqb (y % 2) 1 ≡ true) → eqb (x % 2) 1 ≡ b → x % 2 ≤ y % 2
    go true f e = let g = f e in omega (arith, eqb-true)
    go false f e = omega (arith, eqb-false)

-- 0 has no bit
pub no_bit : (i : ℕ) → bit 0 i ≡ false
no_bit i = bit_beyond 0 0 i (omega arith) (omega arith)

-- a number is below 2 to it
below_power : (x : ℕ) → x < 2 ^ x
below_power zero = omega arith
below_power (suc x) = let l = below_power x in omega (arith, pow-succ' 2 x)

-- so two numbers with the same bits are equal, however many there are
pub same_numbers : (x y : ℕ) → ((i : ℕ) → bit x i ≡ bit y i) → x ≡ y
same_numbers x y h = same_bits (x + y) x y (wide x y) (rw (add_comm x y) (wide y x)) (λ i l. h i)
  where
    wide : (x y : ℕ) → x < 2 ^ (x + y)
    wide x y = omega (arith, below_power x, pow-le-pow_right {n = 2} (omega arith) {i = x} {j = x + y} (omega arith))

-- the "or" of two numbers has the bits that one of them has
bit_of_or : (x y i : ℕ) → bit (bit_or x y) i ≡ (bit x i || bit y i)
unfolding bit
bit_of_or x y i = ap (λ z. eqb (z % 2) 1) (or_shr x y i) ∙ low (x / 2 ^ i) (y / 2 ^ i)
  where
    digits : (m n : ℕ) → m < 2 → n < 2 → eqb (bit_or m n) 1 ≡ (eqb m 1 || eqb n 1)
    digits zero n hm hn = refl
    digits (suc zero) zero hm hn = refl
    digits (suc zero) (suc zero) hm hn = refl
    digits (suc zero) (suc (suc n)) hm hn = absurd (omega arith)
    digits (suc (suc m)) n hm hn = absurd (omega arith)

    low : (m n : ℕ) → eqb (bit_or m n % 2) 1 ≡ (eqb (m % 2) 1 || eqb (n % 2) 1)
    low m n = ap (λ z. eqb z 1) (or_mod m n 1) ∙ digits (m % 2) (n % 2) (omega arith) (omega arith)

-- bits that agree below N give one number
pub number_of_bits_same : (N : ℕ) (f g : ℕ → Bool) → ((i : ℕ) → i < N → f i ≡ g i) → number_of_bits N f ≡ number_of_bits N g
unfolding number_of_bits
number_of_bits_same zero f g h = refl
number_of_bits_same (suc N) f g h =
    ap₂ (λ b y. cond b 1 0 + 2 * y) (h 0 (omega arith)) (number_of_bits_same N (λ i. f (suc i)) (λ i. g (suc i)) (λ i l. h (suc i) (omega arith)))

module _ (W : ℕ) where
  -- the place of p, q, both below W, is below W·W, in row p and column q
  place_below : (p q : ℕ) → p < W → q < W → W * p + q < W * W
  place_below p q hp hq = omega (arith, mul-suc W p, mul-le-mul_left W hp)

  place_row : (p q : ℕ) → q < W → (W * p + q) / W ≡ p
  place_row p q h = let d = div-eq_of_lt h in omega (arith, mul-add-div {m = W} (omega arith) p q)

  place_column : (p q : ℕ) → q < W → (W * p + q) % W ≡ q
  place_column p q h = mul-add-mod_self_left W p q ∙ mod-eq_of_lt h

  -- a number packed by rows has the bits it was packed from
  pub cell_grid : (f : ℕ → ℕ → Bool) (p q : ℕ) → p < W → q < W → cell W (grid W f) p q ≡ f p q
  unfolding cell grid
  cell_grid f p q hp hq =
      bit_number_of_bits (W * W) (λ i. f (i / W) (i % W)) (W * p + q) (place_below p q hp hq) ∙ ap₂ f (place_row p q hq) (place_column p q hq)

  -- and is below 2^(W·W)
  pub grid_below : (f : ℕ → ℕ → Bool) → grid W f < 2 ^ (W * W)
  unfolding grid
  grid_below f = number_of_bits_below (W * W) (λ i. f (i / W) (i % W))

  -- a place below W·W has a row and a column below W
  some_row : (i : ℕ) → i < W * W → zero < W
  some_row i l = go W l
    where
      go : (W : ℕ) → i < W * W → zero < W
      go zero l = absurd (omega arith)
      go (suc W) l = omega arith

  row_below : (i : ℕ) → i < W * W → i / W < W
  row_below i l = (div-lt_iff_lt-mul (some_row i l)).1 l

  column_below : (i : ℕ) → i < W * W → i % W < W
  column_below i l = mod-lt i (some_row i l)

  -- two numbers below 2^(W·W) with the same bits for all p, q below W are equal
  pub same_cells : (x y : ℕ) → x < 2 ^ (W * W) → y < 2 ^ (W * W) → ((p q : ℕ) → p < W → q < W → cell W x p q ≡ cell W y p q) → x ≡ y
  unfolding cell
  same_cells x y hx hy h =
      same_bits (W * W) x y hx hy
      (λ i l. subst (λ j. bit x j ≡ bit y j) (div-add-mod i W) (h (i / W) (i % W) (row_below i l) (column_below i l)))

  -- and one that has all bits of the other for p, q below W is not below it
  pub more_cells : (x y : ℕ) → x < 2 ^ (W * W) → y < 2 ^ (W * W)
      → ((p q : ℕ) → p < W → q < W → cell W x p q ≡ true → cell W y p q ≡ true) → x ≤ y
  unfolding cell
  more_cells x y hx hy h =
      more_bits (W * W) x y hx hy
      (λ i l. subst (λ j. bit x j ≡ true → bit y j ≡ true) (div-add-mod i W) (h (i / W) (i % W) (row_below i l) (column_below i l)))

  -- the "or" of two such numbers is the number packed from the bits that one of them has
  pub or_grid : (x y : ℕ) → x < 2 ^ (W * W) → y < 2 ^ (W * W) → bit_or x y ≡ grid W (λ p q. cell W x p q || cell W y p q)
  unfolding cell
  or_grid x y hx hy =
      let f : ℕ → ℕ → Bool = λ p q. cell W x p q || cell W y p q in
      same_cells (bit_or x y) (grid W f) (or_lt (W * W) x y hx hy) (grid_below f)
      (λ p q hp hq. bit_of_or x y (W * p + q) ∙ sym (cell_grid f p q hp hq))

-- below N a number has the bits of its remainder by 2^N
low_bits : (N x i : ℕ) → i < N → bit (x % 2 ^ N) i ≡ bit x i
unfolding bit
low_bits N x i h =
    let j : ℕ = N - suc i in
    let width : N ≡ j + 1 + i = omega arith in
    rw (width, field x (j + 1) i, mod-mod-pow (x / 2 ^ i) j 1)

-- row p of a packed number has the bits of p
pub row_bit : (W x p q : ℕ) → q < W → bit (packed_row W x p) q ≡ cell W x p q
unfolding packed_row cell bit
row_bit W x p q h = low_bits W (x / 2 ^ (W * p)) q h ∙ rw shr-shr

-- a number whose bits lie below N is below 2^N
pub inside_bits : (N x : ℕ) → ((i : ℕ) → bit x i ≡ true → i < N) → x < 2 ^ N
inside_bits N x h =
    let small = mod-lt x (pow_pos N) in
    let same = same_numbers x (x % 2 ^ N)
    (λ i. same_test (λ b. low_bits N x i (h i b) ∙ b) (λ b. sym (low_bits N x i (bit_inside N (x % 2 ^ N) i small b)) ∙ b)) in
    omega arith

module _ (W x : ℕ) where
  -- a row has W bits
  pub row_small : (p : ℕ) → packed_row W x p < 2 ^ W
  unfolding packed_row
  row_small p = mod-lt (x / 2 ^ (W * p)) (pow_pos W)

  -- a bit of a packed number is that of a row and a column
  pub bit_cell : (i : ℕ) → zero < W → bit x i ≡ true → (i % W < W) × (cell W x (i / W) (i % W) ≡ true)
  unfolding cell
  bit_cell i w b = (mod-lt i w, ap (bit x) (div-add-mod i W) ∙ b)

module _ (W : ℕ) where
  -- a row put before the others is row 0, and the others come one later
  row_first : (r x : ℕ) → r < 2 ^ W → packed_row W (r + 2 ^ W * x) 0 ≡ r
  unfolding packed_row
  row_first r x h = rw (mul-zero W, div-one, add_comm r (2 ^ W * x)) (mul-add-mod_self_left (2 ^ W) x r ∙ mod-eq_of_lt h)

  row_next : (r x p : ℕ) → r < 2 ^ W → packed_row W (r + 2 ^ W * x) (suc p) ≡ packed_row W x p
  unfolding packed_row
  row_next r x p h =
      let high : (r + 2 ^ W * x) / 2 ^ W ≡ x =
      rw (add_comm r (2 ^ W * x), mul-add-div {m = 2 ^ W} (pow_pos W) x r, div-eq_of_lt h, add-zero) in
      rw (mul-suc W p, add_comm (W * p) W, ← (shr-shr (r + 2 ^ W * x) W (W * p)), high)

  -- row p of the number of a list of rows is the p-th of them, and 0 behind the last
  pub row_of_rows : (rs : List ℕ) → ((i : ℕ) → get_or rs i 0 < 2 ^ W) → (p : ℕ) → packed_row W (from_rows W rs) p ≡ get_or rs p 0
  unfolding from_rows packed_row
  row_of_rows [] h p = rw (zero-div (2 ^ (W * p)), zero-mod)
  row_of_rows (r ∷ rs) h zero = row_first r (from_rows W rs) (h 0)
  row_of_rows (r ∷ rs) h (suc p) = row_next r (from_rows W rs) p (h 0) ∙ row_of_rows rs (λ i. h (suc i)) p

  -- so its bit for p, q is bit q of the p-th
  pub cell_of_rows : (rs : List ℕ) → ((i : ℕ) → get_or rs i 0 < 2 ^ W) → (p q : ℕ) → q < W
      → cell W (from_rows W rs) p q ≡ bit (get_or rs p 0) q
  cell_of_rows rs h p q l = sym (row_bit W (from_rows W rs) p q l) ∙ ap (λ r. bit r q) (row_of_rows rs h p)
