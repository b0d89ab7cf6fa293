-- Words of events: a word repeated, the range of its letters, and the order of words.
use Rattle.std.specs.Prelude.{ℕ, zero, suc, Bool, true, false, ◌&&◌, ◌||◌, List, [], ◌∷◌, ◌++◌, length, eqb, ltb}

-- a word: events, the first one first
abbrev pub Word : Type 0
Word = List ℕ

-- v written i times
unfoldable pub power : ℕ → Word → Word
power zero v = []
power (suc i) v = v ++ power i v

-- every letter of the word is below k
unfoldable pub letters_are_below : ℕ → Word → Bool
letters_are_below k [] = true
letters_are_below k (a ∷ w) = ltb a k && letters_are_below k w

-- the word has no letter
unfoldable pub empty : Word → Bool
empty [] = true
empty (a ∷ w) = false

-- of two words of one length: at the first event in which they differ, x has the lower one
unfoldable pub lower : Word → Word → Bool
lower [] y = false
lower (a ∷ x) [] = false
lower (a ∷ x) (b ∷ y) = ltb a b || (eqb a b && lower x y)

-- the order of words: by length, then by the first differing event
unfoldable pub before : Word → Word → Bool
before x y = ltb (length x) (length y) || (eqb (length x) (length y) && lower x y)
