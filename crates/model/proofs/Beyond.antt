-- What the refusals of a model test: a number's bits from n on by its quotient, an arrow number's rows, and what `any` answers.
use Prim.Native.Nat.{ℕ, zero, suc, ◌+◌, ◌*◌, ◌/◌, ◌^◌, ◌<◌, ◌≤◌}
use native.Mathlib.Nat.{add-zero, zero-add, mul-suc, add_comm, le-div_iff_mul-le}
use native.Mathlib.Omega.{arith}
use mathlib.Core.Path.{◌≡◌, refl, sym, ap, ◌∙◌}
use mathlib.Core.Bool.{Bool, true, false, ◌||◌, or_assoc, or-false}
use mathlib.Core.List.{List, [], ◌∷◌}
use lib.ListN.{length, get_or, take, drop, length-drop}
use lib.Seq.{get_or-drop}
use lib.Pow.{pow_pos}
use lib.Dec.{ltb, leb}
use borrow.Author.Tests.{ltb-true, leb-true, lt-ltb, le-ltb, lt-leb, le-leb}
use Rattle.std.specs.Int.{w64, to_le_bytes, bytes_low_first}
use Rattle.std.specs.List.{list_any, range_with_len}
use Rattle.std.proofs.lemmas.Nat.{pow-add, from_le_bytes-to_le_bytes_8}
use Rattle.laws.specs.Bits.{from_rows, packed_row, some_below, some_of}
use Rattle.laws.specs.Refusals.{mask_beyond, arrows_beyond}
use Rattle.laws.proofs.Booleans.{or_left, same_test, some_same}
use Rattle.laws.proofs.Packing.{row_of_rows}
use Rattle.model.proofs.EventsRead.{all_packed}

-- a number has a bit n or above exactly if its quotient by 2^n is not 0
pub quotient_test : (n x : ℕ) → ltb 0 (x / 2 ^ n) ≡ leb (2 ^ n) x
quotient_test n x =
    let (product, quotient) = le-div_iff_mul-le {k = 2 ^ n} {x = 1} {y = x} (pow_pos n) in
    same_test
    (λ e. le-leb (2 ^ n) x (omega (arith, product (ltb-true 0 (x / 2 ^ n) e))))
    (λ e. lt-ltb 0 (x / 2 ^ n) (quotient (omega (arith, leb-true (2 ^ n) x e))))

-- where x is r and 256 times y, r a byte: x is some number if one of the two is, and x is at least 256 times b if y is at least b
byte_or_rest : (r y : ℕ) → leb 1 (r + 256 * y) ≡ (leb 1 r || leb 1 y)
byte_or_rest zero y =
    same_test (λ e. le-leb 1 y (omega (arith, leb-true 1 (0 + 256 * y) e))) (λ e. le-leb 1 (0 + 256 * y) (omega (arith, leb-true 1 y e)))
byte_or_rest (suc r) y = rw (le-leb 1 (suc r + 256 * y) (omega arith), le-leb 1 (suc r) (omega arith))

rest_at_least : (b r y : ℕ) → r < 256 → leb (256 * b) (r + 256 * y) ≡ leb b y
rest_at_least b r y l =
    same_test
    (λ e. le-leb b y (omega (arith, leb-true (256 * b) (r + 256 * y) e)))
    (λ e. le-leb (256 * b) (r + 256 * y) (omega (arith, leb-true b y e)))

-- so a number of rows has a bit in row n or above exactly if one of the rows behind the first n has a bit
high_rows : (n : ℕ) (rows : List ℕ) → ((p : ℕ) → get_or rows p 0 < 256)
    → leb (2 ^ (8 * n)) (from_rows 8 rows) ≡ some_of (mask_beyond 0) (drop n rows)
unfolding from_rows some_of mask_beyond
high_rows zero [] small = refl
high_rows zero (r ∷ rs) small =
    byte_or_rest r (from_rows 8 rs) ∙ ap (λ (b : Bool). leb 1 r || b) (high_rows zero rs (λ p. small (suc p)))
high_rows (suc n) [] small = lt-leb (2 ^ (8 * suc n)) 0 (omega (arith, pow_pos (8 * suc n)))
high_rows (suc n) (r ∷ rs) small =
    rw (mul-suc 8 n, add_comm (8 * n) 8, pow-add 2 8 (8 * n))
    (rest_at_least (2 ^ (8 * n)) r (from_rows 8 rs) (small 0) ∙ high_rows n rs (λ p. small (suc p)))

-- some number below n + 1 is 0 or one more than some number below n
some_first : (f : ℕ → Bool) (n : ℕ) → some_below (suc n) f ≡ (f 0 || some_below n (λ p. f (suc p)))
unfolding some_below
some_first f zero = rw or-false
some_first f (suc n) =
    ap (λ (b : Bool). b || f (suc n)) (some_first f n) ∙ or_assoc (f 0) (some_below n (λ p. f (suc p))) (f (suc n))

-- and the first k elements are asked by their places
module _ {A : Type 0} (f : A → Bool) (d : A) where
  pub some_taken : (xs : List A) (k : ℕ) → k ≤ length xs → some_of f (take k xs) ≡ some_below k (λ i. f (get_or xs i d))
  unfolding some_of some_below
  some_taken xs zero l = refl
  some_taken [] (suc k) l = absurd (omega arith)
  some_taken (x ∷ xs) (suc k) l =
      ap (λ (b : Bool). f x || b) (some_taken xs k (omega arith)) ∙ sym (some_first (λ i. f (get_or (x ∷ xs) i d)) k)

-- so are the n bytes from an offset on, by their places behind it
pub some_of_part : (f : ℕ → Bool) (file : List ℕ) (at n : ℕ) → at + n ≤ length file
    → some_of f (take n (drop at file)) ≡ some_below n (λ i. f (get_or file (at + i) 0))
some_of_part f file at n h =
    some_taken f 0 (drop at file) n (omega (arith, length-drop at file))
    ∙ some_same n _ _ (λ i l. ap f (get_or-drop at file i 0))

-- each byte of a number is below 256
bytes_small : (i k x p : ℕ) → get_or (bytes_low_first i k x) p 0 < 256
bytes_small i zero x p = omega arith
bytes_small zero (suc k) x zero = omega arith
bytes_small (suc i) (suc k) x zero = omega arith
bytes_small i (suc k) x (suc p) = bytes_small (suc i) k x p

-- an arrow number, whose rows are its bytes, has a bit for a state n or above in a row behind the first n, or else in one of these
module _ (n x : ℕ) (rows : List ℕ) (are : rows ≡ to_le_bytes w64 x) (fits : x < 2 ^ 64) where
  small : (p : ℕ) → get_or rows p 0 < 2 ^ 8
  small p = rw are (bytes_small 0 8 x p)

  number : from_rows 8 rows ≡ x
  number = rw are (sym (all_packed (to_le_bytes w64 x) (omega arith)) ∙ from_le_bytes-to_le_bytes_8 x fits)

  row : (p : ℕ) → get_or rows p 0 ≡ packed_row 8 x p
  row p = sym (row_of_rows 8 rows small p) ∙ ap (λ y. packed_row 8 y p) number

  high : leb (2 ^ (8 * n)) x ≡ some_of (mask_beyond 0) (drop n rows)
  high = rw number at (high_rows n rows small)

  pub beyond_high : {b : Bool} → b ≡ some_of (mask_beyond 0) (drop n rows) → b ≡ true → b ≡ arrows_beyond 8 n x
  unfolding arrows_beyond
  beyond_high e t = t ∙ sym (or_left (some_below n (λ p. mask_beyond n (packed_row 8 x p))) (high ∙ sym e ∙ t))

  pub beyond_low : n ≤ 8 → false ≡ some_of (mask_beyond 0) (drop n rows) → some_of (mask_beyond n) (take n rows) ≡ arrows_beyond 8 n x
  unfolding arrows_beyond
  beyond_low l e =
      let long : length rows ≡ 8 = ap length are in
      rw (high, ← e)
      (some_taken (mask_beyond n) 0 rows n (omega arith) ∙ some_same n _ _ (λ p q. ap (mask_beyond n) (row p)))

  -- by its quotient by 2^(8n): such a bit is there where that is not 0, and else only if one of the first n rows has one
  pub beyond_above : 0 < x / 2 ^ (8 * n) → true ≡ arrows_beyond 8 n x
  unfolding arrows_beyond
  beyond_above l =
      sym (or_left (some_below n (λ p. mask_beyond n (packed_row 8 x p))) (sym (quotient_test (8 * n) x) ∙ lt-ltb 0 (x / 2 ^ (8 * n)) l))

  pub beyond_rows : n ≤ 8 → x / 2 ^ (8 * n) ≤ 0 → some_of (mask_beyond n) (take n rows) ≡ arrows_beyond 8 n x
  beyond_rows l none = beyond_low l (sym (le-ltb 0 (x / 2 ^ (8 * n)) none) ∙ quotient_test (8 * n) x ∙ high)

-- what `any` answers of a list, and of the numbers below n
module _ {A : Type 0} (f : A → Bool) where
  pub asked_any : (xs : List A) → list_any f xs ≡ some_of f xs
  unfolding some_of
  asked_any [] = refl
  asked_any (x ∷ xs) = ap (λ (b : Bool). f x || b) (asked_any xs)

asked_behind : (f : ℕ → Bool) (i d : ℕ) → some_below i f || list_any f (range_with_len i d) ≡ some_below (i + d) f
unfolding some_below
asked_behind f i zero = rw (or-false, add-zero)
asked_behind f i (suc d) =
    let one : i + 1 ≡ suc i = omega arith in
    let next : i + 1 + d ≡ i + suc d = omega arith in
    sym (or_assoc (some_below i f) (f i) (list_any f (range_with_len (i + 1) d)))
    ∙ ap (λ n. some_below n f || list_any f (range_with_len (i + 1) d)) (sym one)
    ∙ asked_behind f (i + 1) d ∙ ap (λ n. some_below n f) next

pub asked_below : (f : ℕ → Bool) (n : ℕ) → list_any f (range_with_len 0 n) ≡ some_below n f
unfolding some_below
asked_below f n = asked_behind f 0 n ∙ rw zero-add
