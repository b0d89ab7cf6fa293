-- Files computed of the definitions: C's cut at every length and damaged, and files of other sizes written and read back.
-- Assumes nothing.
use Prim.Native.Nat.{ℕ, ◌+◌, ◌*◌, ◌^◌}
use mathlib.Core.Path.{◌≡◌, refl}
use mathlib.Core.List.{List, [], ◌∷◌, ◌++◌, map}
use lib.ListN.{length, take, set}
use Rattle.laws.specs.Bits.{counted}
use Rattle.laws.specs.Model.{Model}
use Rattle.laws.specs.File.{Reading, file_of, reading}
use Rattle.laws.specs.Answers.{arrow_slice}
use Rattle.laws.specs.HandWorked.{A, C, E}
use Rattle.laws.proofs.Computed.{computed}

-- the number and offset of a reader with room for two arrow numbers
fault_of : List ℕ → List ℕ
fault_of bytes = let r = reading bytes 2 in r.fault.number ∷ r.fault.offset ∷ []

-- C's file with byte i changed to x
changed : ℕ → ℕ → List ℕ
changed i x = set (file_of C) i x

-- C's file cut at every length: the offset of the field that is cut
c_cuts : map (λ i. fault_of (take i (file_of C))) (counted 0 31)
    ≡ (8 ∷ 0 ∷ []) ∷ (8 ∷ 0 ∷ []) ∷ (8 ∷ 0 ∷ []) ∷ (8 ∷ 0 ∷ [])
    ∷ (8 ∷ 4 ∷ []) ∷ (8 ∷ 4 ∷ []) ∷ (8 ∷ 4 ∷ []) ∷ (8 ∷ 4 ∷ [])
    ∷ (8 ∷ 8 ∷ []) ∷ (8 ∷ 8 ∷ []) ∷ (8 ∷ 8 ∷ []) ∷ (8 ∷ 8 ∷ [])
    ∷ (8 ∷ 12 ∷ []) ∷ (8 ∷ 12 ∷ []) ∷ (8 ∷ 12 ∷ []) ∷ (8 ∷ 12 ∷ [])
    ∷ (8 ∷ 16 ∷ []) ∷ (8 ∷ 16 ∷ []) ∷ (8 ∷ 16 ∷ []) ∷ (8 ∷ 16 ∷ []) ∷ (8 ∷ 16 ∷ []) ∷ (8 ∷ 16 ∷ [])
    ∷ (8 ∷ 22 ∷ []) ∷ (8 ∷ 22 ∷ []) ∷ (8 ∷ 22 ∷ []) ∷ (8 ∷ 22 ∷ []) ∷ (8 ∷ 22 ∷ []) ∷ (8 ∷ 22 ∷ [])
    ∷ (8 ∷ 28 ∷ []) ∷ (8 ∷ 28 ∷ []) ∷ (8 ∷ 28 ∷ []) ∷ []
unfolding computed fault_of
c_cuts = refl

-- one byte too many; n, k, masks and event fields damaged one at a time: high length byte, tag, event number, a mask beyond n, end field
c_damaged : map fault_of
    ((file_of C ++ (0 ∷ []))
    ∷ changed 0 0x11 ∷ changed 1 0 ∷ changed 2 1 ∷ changed 3 0 ∷ changed 3 9
    ∷ changed 7 0 ∷ changed 7 17 ∷ changed 7 3
    ∷ changed 8 4 ∷ changed 11 4 ∷ changed 15 0x80
    ∷ changed 16 4 ∷ changed 17 4 ∷ changed 18 1 ∷ changed 19 1 ∷ changed 21 4
    ∷ changed 25 0 ∷ changed 27 0xFF
    ∷ changed 28 0x7E ∷ changed 29 1 ∷ changed 30 1
    ∷ [])
    ≡ (8 ∷ 31 ∷ [])
    ∷ (8 ∷ 0 ∷ []) ∷ (8 ∷ 0 ∷ []) ∷ (8 ∷ 0 ∷ []) ∷ (1 ∷ 0 ∷ []) ∷ (1 ∷ 0 ∷ [])
    ∷ (1 ∷ 4 ∷ []) ∷ (1 ∷ 4 ∷ []) ∷ (2 ∷ 4 ∷ [])
    ∷ (8 ∷ 8 ∷ []) ∷ (3 ∷ 8 ∷ []) ∷ (3 ∷ 12 ∷ [])
    ∷ (8 ∷ 16 ∷ []) ∷ (8 ∷ 16 ∷ []) ∷ (8 ∷ 16 ∷ []) ∷ (8 ∷ 16 ∷ []) ∷ (3 ∷ 16 ∷ [])
    ∷ (8 ∷ 22 ∷ []) ∷ (3 ∷ 22 ∷ [])
    ∷ (8 ∷ 28 ∷ []) ∷ (8 ∷ 28 ∷ []) ∷ (8 ∷ 28 ∷ [])
    ∷ []
unfolding computed fault_of changed
c_damaged = refl

-- within a field the form comes before the values, and an earlier field before a later one
c_twice : map fault_of
    (set (changed 3 9) 0 2 ∷ set (changed 3 9) 7 17 ∷ set (changed 11 4) 8 4 ∷ set (changed 20 4) 19 1 ∷ set (changed 20 4) 26 4 ∷ [])
    ≡ (8 ∷ 0 ∷ []) ∷ (1 ∷ 0 ∷ []) ∷ (8 ∷ 8 ∷ []) ∷ (8 ∷ 16 ∷ []) ∷ (3 ∷ 16 ∷ []) ∷ []
unfolding computed fault_of changed
c_twice = refl

-- a reader with less room than k: 2 at the field of k; what a refusal reads besides is 0
c_refused : reading (file_of C) 1
    ≡ record { fault = record { number = 2; offset = 4 }; model = record { n = 0; k = 0; start = 0; home = 0; arrows = [] } }
unfolding computed
c_refused = refl

-- the slice of arrows after C's file was read, and after it was refused
c_arrow_slice : arrow_slice (reading (file_of C) 3) (7 ∷ 8 ∷ 9 ∷ []) ++ arrow_slice (reading (changed 30 1) 3) (7 ∷ 8 ∷ 9 ∷ [])
    ≡ 514 ∷ 257 ∷ 9 ∷ 7 ∷ 8 ∷ 9 ∷ []
unfolding computed changed
c_arrow_slice = refl

-- E's file: mask 0 first
e_file : file_of E
    ≡ 0x01 ∷ 0x01 ∷ 0x00 ∷ 0x02
    ∷ 0x02 ∷ 0x01 ∷ 0x00 ∷ 0x01
    ∷ 0x03 ∷ 0x01 ∷ 0x00 ∷ 0x01
    ∷ 0x04 ∷ 0x01 ∷ 0x00 ∷ 0x02
    ∷ 0x05 ∷ 0x03 ∷ 0x00 ∷ 0x00 ∷ 0x02 ∷ 0x01
    ∷ 0x7F ∷ 0x00 ∷ 0x00 ∷ []
unfolding computed
e_file = refl

-- a file without a fault
right : Model → Reading
right m = record { fault = record { number = 0; offset = 0 }; model = m }

-- a largest model, with another number for each event
largest : Model
largest = record { n = 8; k = 16; start = 0x81; home = 0x7E; arrows = map (λ a. 2 ^ 63 + 2 ^ (3 * a) + a * 2 ^ 50) (counted 0 16) }

largest_size : length (file_of largest) ≡ 211
unfolding computed largest
largest_size = refl

-- files of 1, 2 and 8 states, read back
back : map (λ m. reading (file_of m) 16) (A ∷ E ∷ largest ∷ []) ≡ right A ∷ right E ∷ right largest ∷ []
unfolding computed largest right
back = refl
