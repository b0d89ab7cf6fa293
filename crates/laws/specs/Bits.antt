-- Bits and packed numbers, and the few ways to go through numbers and lists that the other files share.
-- Of document 01 only the packing stands here, bit 8·p+q with W for 8: `cell`, `grid`, `packed_row`, `from_rows`.
use Rattle.std.specs.Prelude.{ℕ, zero, suc, ◌+◌, ◌*◌, ◌/◌, ◌%◌, ◌^◌, Bool, true, false, ◌&&◌, ◌||◌, cond, List, [], ◌∷◌, ◌++◌, eqb}

-- bit i of x
unfoldable pub bit : ℕ → ℕ → Bool
bit x i = eqb (x / 2 ^ i % 2) 1

-- the number below 2^N whose bit i is f i, for each i below N
unfoldable pub number_of_bits : ℕ → (ℕ → Bool) → ℕ
number_of_bits zero f = 0
number_of_bits (suc N) f = cond (f 0) 1 0 + 2 * number_of_bits N (λ i. f (suc i))

-- a number packed by rows of W bits: its bit for p, q is bit W·p+q
unfoldable pub cell : ℕ → ℕ → ℕ → ℕ → Bool
cell W x p q = bit x (W * p + q)

-- the number, W rows of W bits, whose bit for p, q is f p q
unfoldable pub grid : ℕ → (ℕ → ℕ → Bool) → ℕ
grid W f = number_of_bits (W * W) (λ i. f (i / W) (i % W))

-- row p of a packed number
unfoldable pub packed_row : ℕ → ℕ → ℕ → ℕ
packed_row W x p = x / 2 ^ (W * p) % 2 ^ W

-- the packed number of a list of rows, row 0 first
unfoldable pub from_rows : ℕ → List ℕ → ℕ
from_rows W [] = 0
from_rows W (r ∷ rs) = r + 2 ^ W * from_rows W rs

-- f holds of some number below n
unfoldable pub some_below : ℕ → (ℕ → Bool) → Bool
some_below zero f = false
some_below (suc n) f = some_below n f || f n

-- the d numbers from i on
unfoldable pub counted : ℕ → ℕ → List ℕ
counted i zero = []
counted i (suc d) = i ∷ counted (suc i) d

module _ {A : Type 0} where
  -- f holds of some element
  unfoldable pub some_of : (A → Bool) → List A → Bool
  some_of f [] = false
  some_of f (x ∷ xs) = f x || some_of f xs

  -- f holds of every element
  unfoldable pub every_of : (A → Bool) → List A → Bool
  every_of f [] = true
  every_of f (x ∷ xs) = f x && every_of f xs

  -- the elements of which f holds, in their order
  unfoldable pub keep : (A → Bool) → List A → List A
  keep f [] = []
  keep f (x ∷ xs) = cond (f x) (x ∷ keep f xs) (keep f xs)

  -- f of each element, added up
  unfoldable pub total : (A → ℕ) → List A → ℕ
  total f [] = 0
  total f (x ∷ xs) = f x + total f xs

  -- of how many elements f holds
  unfoldable pub count : (A → Bool) → List A → ℕ
  count f xs = total (λ x. cond (f x) 1 0) xs

  -- what f lists for each element and its number, one list behind the other; the first number is i
  unfoldable pub gather : {B : Type 0} → (ℕ → A → List B) → ℕ → List A → List B
  gather f i [] = []
  gather f i (x ∷ xs) = f i x ++ gather f (suc i) xs

  -- the number of the first element of which f holds; how many there are, where it holds of none
  unfoldable pub place_of : (A → Bool) → List A → ℕ
  place_of f [] = 0
  place_of f (x ∷ xs) = cond (f x) 0 (suc (place_of f xs))

-- what f lists for each number below k, one list behind the other
unfoldable pub each_below : {A : Type 0} → ℕ → (ℕ → List A) → List A
each_below k f = gather (λ _ a. f a) 0 (counted 0 k)

-- x combined with itself by op, n + 1 of them
unfoldable pub times : {A : Type 0} → (A → A → A) → ℕ → A → A
times op zero x = x
times op (suc n) x = op x (times op n x)
