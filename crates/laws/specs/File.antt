-- Document 01, "The model file": the exact bytes of a model, and what a reader finds in any bytes: the model, or the first fault with
-- its offset. This is the file of the first kind, in which a mask is one byte.
use Rattle.std.specs.Prelude.{ℕ, zero, suc, ◌+◌, ◌*◌, ◌/◌, ◌%◌, Bool, true, not, ◌&&◌, List, [], ◌∷◌, ◌++◌, map, length, get_or, take, drop, eqb, ltb, leb}
use Rattle.laws.specs.Bits.{packed_row, from_rows, counted, some_of, each_below}
use Rattle.laws.specs.Model.{eight, Model}
use Rattle.laws.specs.Refusals.{Check, Fault, first_of, fault, outside, mask_beyond}

-- the head of a field: tag, and length with the low byte first
unfoldable pub head : ℕ → ℕ → List ℕ
head tag size = tag ∷ size % 256 ∷ size / 256 ∷ []

-- a field: its head and its value
unfoldable pub field : ℕ → List ℕ → List ℕ
field tag value = head tag (length value) ++ value

-- the end field, byte for byte
abbrev pub end_field : List ℕ
end_field = 0x7F ∷ 0x00 ∷ 0x00 ∷ []

-- the field of event a: its number, and for each state p the mask of the states reached from p
unfoldable pub event_field : Model → ℕ → List ℕ
event_field m a = field 0x05 (a ∷ map (packed_row eight.states (get_or m.arrows a 0)) (counted 0 m.n))

-- THE EXACT FORM: the bytes of a model's file
unfoldable pub file_of : Model → List ℕ
file_of m =
    field 0x01 (m.n ∷ [])
    ++ field 0x02 (m.k ∷ [])
    ++ field 0x03 (m.start ∷ [])
    ++ field 0x04 (m.home ∷ [])
    ++ each_below m.k (event_field m)
    ++ end_field

-- where the field of event a begins, behind four fields of four bytes; with a = k, where the end field begins
unfoldable pub offset_of_event : ℕ → ℕ → ℕ
offset_of_event n a = 16 + a * (n + 4)

module _ (bytes : List ℕ) where
  -- byte i
  unfoldable pub byte : ℕ → ℕ
  byte i = get_or bytes i 0

  -- from offset o on stand exactly these bytes
  unfoldable pub stand_from : ℕ → List ℕ → Bool
  stand_from o [] = true
  stand_from o (x ∷ xs) = ltb o (length bytes) && eqb (byte o) x && stand_from (suc o) xs

  -- at offset o stands a field with this tag and length, not cut short
  unfoldable pub formed : ℕ → ℕ → ℕ → Bool
  formed o tag size = stand_from o (head tag size) && leb (o + 3 + size) (length bytes)

  -- the first byte of the value of the field at offset o
  unfoldable pub value : ℕ → ℕ
  value o = byte (o + 3)

  -- a field of one byte at offset o, a number from 1 to limit: the form comes before the value
  unfoldable pub number_checks : ℕ → ℕ → ℕ → List Check
  number_checks o tag limit = fault 8 o (not (formed o tag 1)) ∷ fault 1 o (outside limit (value o)) ∷ []

  -- a field of one byte at offset o, a mask of n states
  unfoldable pub mask_checks : ℕ → ℕ → ℕ → List Check
  mask_checks o tag n = fault 8 o (not (formed o tag 1)) ∷ fault 3 o (mask_beyond n (value o)) ∷ []

  -- the n masks of event a
  unfoldable pub masks : ℕ → ℕ → List ℕ
  masks n a = take n (drop (offset_of_event n a + 4) bytes)

  -- the field of event a: tag, length, cut and event number come before its masks
  unfoldable pub event_checks : ℕ → ℕ → List Check
  event_checks n a =
      fault 8 (offset_of_event n a) (not (formed (offset_of_event n a) 0x05 (n + 1) && eqb (value (offset_of_event n a)) a))
      ∷ fault 3 (offset_of_event n a) (some_of (mask_beyond n) (masks n a))
      ∷ []

  -- the end field at offset o, and no byte behind it
  unfoldable pub end_checks : ℕ → List Check
  end_checks o = fault 8 o (not (stand_from o end_field)) ∷ fault 8 (o + 3) (ltb (o + 3) (length bytes)) ∷ []

  -- the four fields before the events, when the file says n and k and there is room for so many arrow numbers
  unfoldable pub front_checks : ℕ → ℕ → ℕ → List Check
  front_checks n k room =
      number_checks 0 0x01 eight.states
      ++ number_checks 4 0x02 eight.events
      ++ (fault 2 4 (ltb room k) ∷ [])
      ++ mask_checks 8 0x03 n
      ++ mask_checks 12 0x04 n

  -- ALL FIELDS IN ORDER: the first fault decides
  unfoldable pub file_checks : ℕ → ℕ → ℕ → List Check
  file_checks n k room = front_checks n k room ++ each_below k (event_checks n) ++ end_checks (offset_of_event n k)

  -- the model in a file without a fault
  unfoldable pub model_read : ℕ → ℕ → Model
  model_read n k =
      record { n = n; k = k; start = value 8; home = value 12; arrows = map (λ a. from_rows eight.states (masks n a)) (counted 0 k) }

-- what a reader finds: the number and the offset; with number 0 the model, else n, k and masks 0 and no arrows
pub record Reading : Type 0 where
  pub fault : Fault
  pub model : Model

-- the reading with first fault f, where m is the model that the bytes give
unfoldable pub found : Fault → Model → Reading
found f m =
    elim f.number [
      | zero ↦ record { fault = f; model = m }
      | suc _ ↦ record { fault = f; model = record { n = 0; k = 0; start = 0; home = 0; arrows = [] } }
    ]

-- WHAT A READER FINDS in any bytes, with room for so many arrow numbers
unfoldable pub reading : List ℕ → ℕ → Reading
reading bytes room =
    let n : ℕ = value bytes 0 in
    let k : ℕ = value bytes 4 in
    found (first_of (file_checks bytes n k room)) (model_read bytes n k)
