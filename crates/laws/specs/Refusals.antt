-- Document 01, "Numbers given back": how the first refusal is found, and what is refused of a model (1, 2, 3) and of one course (10, 9).
-- 4 to 7 and what the answers hold stand in Answers, the file's faults in File.
use Rattle.std.specs.Prelude.{ℕ, ◌*◌, ◌^◌, ◌<◌, ◌≤◌, ◌≡◌, Bool, true, false, not, ◌&&◌, ◌||◌, List, [], ◌∷◌, ◌++◌, length, take, get_or, ltb, leb}
use Rattle.laws.specs.Bits.{bit, cell, packed_row, some_below, some_of}
use Rattle.laws.specs.Words.{Word, letters_are_below, empty}
use Rattle.laws.specs.Model.{Kind, Model}

-- a refusal's number, the offset of its place in a file, and whether it applies
pub record Check : Type 0 where
  pub number : ℕ
  pub offset : ℕ
  pub applies : Bool

-- what a list of checks comes to: a number and an offset
pub record Fault : Type 0 where
  pub number : ℕ
  pub offset : ℕ

-- the first check that applies decides; none: number 0, offset 0
unfoldable pub first_of : List Check → Fault
first_of [] = record { number = 0; offset = 0 }
first_of (c ∷ cs) = elim c.applies [ true ↦ record { number = c.number; offset = c.offset } | false ↦ first_of cs ]

-- none of these checks applies, so what follows them decides
abbrev pub Passed : List Check → Type 0
Passed checks = (rest : List Check) → first_of (checks ++ rest) ≡ first_of rest

-- the first of these that applies has this number and offset, whatever follows
abbrev pub Stopped : List Check → ℕ → ℕ → Type 0
Stopped checks number offset = (rest : List Check) → first_of (checks ++ rest) ≡ record { number = number; offset = offset }

-- a check with its number and its place in a file
unfoldable pub fault : ℕ → ℕ → Bool → Check
fault number offset applies = record { number = number; offset = offset; applies = applies }

-- a check without a place in a file
unfoldable pub refuse : ℕ → Bool → Check
refuse number applies = fault number 0 applies

-- x is outside 1 to limit
unfoldable pub outside : ℕ → ℕ → Bool
outside limit x = ltb x 1 || ltb limit x

-- a mask has a bit for a state n or above
unfoldable pub mask_beyond : ℕ → ℕ → Bool
mask_beyond n x = leb (2 ^ n) x

-- an arrow number has a bit for p, q where p or q is n or above: a bit in row n or above, or, in a row below, a
-- bit n or above
unfoldable pub arrows_beyond : ℕ → ℕ → ℕ → Bool
arrows_beyond W n x = leb (2 ^ (W * n)) x || some_below n (λ p. mask_beyond n (packed_row W x p))

-- OF A MODEL, in order: 1 n or k outside its range; 2 fewer than k numbers of arrows; 3 a start, home or arrow bit names a state n or
-- above
unfoldable pub model_checks : Kind → Model → List Check
model_checks K m =
    refuse 1 (outside K.states m.n || outside K.events m.k)
    ∷ refuse 2 (ltb (length m.arrows) m.k)
    ∷ refuse 3
    (mask_beyond m.n m.start || mask_beyond m.n m.home || some_of (arrows_beyond K.states m.n) (take m.k m.arrows))
    ∷ []

-- WHAT IS ASKED OF A MODEL, so that none of these is given: n and k in their ranges, k numbers of arrows, and no bit that names a state n
-- or above, neither as p nor as q
pub record Unrefused (K : Kind) (m : Model) : Type 0 where
  pub n_least : 1 ≤ m.n
  pub n_most : m.n ≤ K.states
  pub k_least : 1 ≤ m.k
  pub k_most : m.k ≤ K.events
  pub arrows_there : m.k ≤ length m.arrows
  pub start_inside : (p : ℕ) → bit m.start p ≡ true → p < m.n
  pub home_inside : (p : ℕ) → bit m.home p ≡ true → p < m.n
  pub arrows_inside : (a p q : ℕ) → a < m.k → q < K.states → cell K.states (get_or m.arrows a 0) p q ≡ true → (p < m.n) × (q < m.n)

-- of the two words of a course over k events: 10 v is empty; 9 a letter of u or v is k or above
unfoldable pub word_checks : ℕ → Word → Word → List Check
word_checks k u v = refuse 10 (empty v) ∷ refuse 9 (not (letters_are_below k u && letters_are_below k v)) ∷ []

-- OF ONE COURSE of a model: the model's, then those of its words
unfoldable pub course_checks : Kind → Model → Word → Word → List Check
course_checks K m u v = model_checks K m ++ word_checks m.k u v
