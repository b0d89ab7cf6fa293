-- Decimal digits one by one, and the letters of a word one by one.
use Prim.Native.Nat.{ℕ, zero, suc, ◌+◌, ◌/◌, ◌%◌, ◌^◌, ◌≤◌, ◌<◌}
use native.Mathlib.Omega.{arith}
use native.Mathlib.Numerals.{add-one}
use native.Mathlib.Nat.{pow-suc, div-lt_iff_lt-mul}
use mathlib.Core.Path.{◌≡◌, sym, ap, ◌∙◌}
use mathlib.Core.Bool.{cond}
use mathlib.Core.List.{List, [], ◌∷◌, ◌++◌, append_assoc, append-nil}
use lib.ListN.{length, get_or, take}
use lib.Seq.{take-suc}
use lib.Dec.{ltb}
use borrow.Author.Tests.{lt-ltb, le-ltb}
use Rattle.laws.specs.Words.{Word}
use Rattle.laws.specs.Program.{digits_within, decimal, space, letters}

-- a tenth has one digit less
tenth : (n most : ℕ) → n < 10 ^ suc most → n / 10 < 10 ^ most
tenth n most l = (div-lt_iff_lt-mul {k = 10} (omega arith)).1 (rw pow-suc at l)

-- a number has no more digits than there may be
all_digits : (most n : ℕ) → n < 10 ^ suc most → digits_within (suc most) n ≡ digits_within (suc (suc most)) n
unfolding digits_within
all_digits zero n l = rw (lt-ltb n 10 l)
all_digits (suc most) n l = rw (all_digits most (n / 10) (tenth n (suc most) l))

-- the digits before the last
unfoldable pub first_digits : ℕ → List ℕ
first_digits n = cond (ltb n 10) [] (decimal (n / 10))

-- a number below ten has none, and any other those of its tenth
pub first_none : (n : ℕ) → n < 10 → first_digits n ≡ []
unfolding first_digits
first_none n l = rw (lt-ltb n 10 l)

pub first_tenth : (n : ℕ) → 10 ≤ n → first_digits n ≡ decimal (n / 10)
unfolding first_digits
first_tenth n l = rw (le-ltb n 10 l)

-- the last digit behind them
pub decimal_last : (n : ℕ) → n < 10 ^ 20 → decimal n ≡ first_digits n ++ ((48 + n % 10) ∷ [])
unfolding decimal digits_within first_digits
decimal_last n l = rw (all_digits 18 (n / 10) (tenth n 19 l))

-- one letter more
pub letters_more : (w : Word) (a : ℕ) → letters (w ++ (a ∷ [])) ≡ letters w ++ (space ∷ decimal a)
unfolding letters
letters_more [] a = append-nil (space ∷ decimal a)
letters_more (b ∷ w) a = ap (λ r. (space ∷ decimal b) ++ r) (letters_more w a) ∙ sym (append_assoc (space ∷ decimal b) (letters w) _)

-- the letters before a place, and the next
pub letters_next : (w : Word) (i : ℕ) → i < length w → letters (take (i + 1) w) ≡ letters (take i w) ++ (space ∷ decimal (get_or w i 0))
letters_next w i l = rw (add-one, take-suc w i 0) (letters_more (take i w) (get_or w i 0))
