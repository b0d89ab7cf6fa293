-- The exact form, read: a file that is read without a fault is, byte for byte, the file of the model that was read, and that model is as
-- asked. So the model determines the bytes; and of the arrows only the first k numbers are part of a file.
use Prim.Native.Nat.{ℕ, zero, suc, ◌+◌, ◌^◌, ◌<◌, ◌≤◌}
use native.Mathlib.Omega.{arith}
use native.Mathlib.Nat.{add-zero, add-suc, suc-add, pow-le-pow_right}
use mathlib.Core.Path.{◌≡◌, refl, sym, ap, ap₂, ◌∙◌, subst}
use mathlib.Core.Bool.{Bool, true, false, ◌&&◌}
use mathlib.Core.Logic.{⊎_elim}
use mathlib.Core.List.{List, [], ◌∷◌, ◌++◌, map, append_assoc}
use lib.ListN.{length, get_or, take, drop, length-map, length-drop, take-append-drop, drop_of_length-le, get_or-eq_default}
use lib.Seq.{drop-cons, drop-drop, get_or-take, length-take-le, ext_get_or}
use lib.Pow.{pow_pos}
use lib.Dec.{eqb, ltb, leb}
use borrow.Author.Tests.{ltb-true, ltb-false, leb-true, eqb-true}
use Rattle.laws.specs.Bits.{bit, cell, packed_row, from_rows, counted, some_of, every_of, gather, each_below}
use Rattle.laws.specs.Model.{eight, Model}
use Rattle.laws.specs.Refusals.{Fault, first_of, fault, mask_beyond, Unrefused}
use Rattle.laws.specs.File.{head, field, end_field, event_field, file_of, offset_of_event, byte, stand_from, formed, value, masks}
use Rattle.laws.specs.File.{number_checks, mask_checks, event_checks, end_checks, front_checks, file_checks, model_read, found, reading}
use Rattle.laws.proofs.Booleans.{never, either, and_left, and_right}
use Rattle.laws.proofs.Members.{length_counted, at_counted}
use Rattle.laws.proofs.Packing.{no_bit, bit_inside, row_of_rows, cell_of_rows}
use Rattle.laws.proofs.Unrefused.{none_meets, in_range, mask_below, mask_inside}
use Rattle.laws.proofs.Read.{with_arrows, event_same}
use Rattle.laws.proofs.Checks.{each_further, each_same, first_number, has_both, has_each, OneOf}
use Rattle.laws.proofs.Faultless.{RightEvent, Faultless, faultless}

module _ (bytes : List ℕ) where
  -- bytes that stand at an offset are the next ones
  stands : (o : ℕ) (xs : List ℕ) → stand_from bytes o xs ≡ true → drop o bytes ≡ xs ++ drop (o + length xs) bytes
  unfolding stand_from byte
  stands o [] e = rw add-zero
  stands o (x ∷ xs) e =
      let here = and_left (ltb o (length bytes) && eqb (get_or bytes o 0) x) (stand_from bytes (suc o) xs) e in
      drop-cons bytes o 0 (ltb-true o (length bytes) (and_left _ (eqb (get_or bytes o 0) x) here))
      ∙ ap₂ ◌∷◌ (eqb-true (get_or bytes o 0) x (and_right (ltb o (length bytes)) _ here))
      (stands (suc o) xs (and_right (ltb o (length bytes) && eqb (get_or bytes o 0) x) (stand_from bytes (suc o) xs) e))
      ∙ rw (suc-add o (length xs), add-suc o (length xs))

  -- a field is not cut
  pub whole : (o tag size : ℕ) → formed bytes o tag size ≡ true → o + 3 + size ≤ length bytes
  unfolding formed
  whole o tag size e = leb-true (o + 3 + size) (length bytes) (and_right (stand_from bytes o (head tag size)) _ e)

  -- a field is the next bytes: its value is its first byte and the rest
  field_read : (o tag rest : ℕ) → formed bytes o tag (rest + 1) ≡ true
      → drop o bytes ≡ field tag (value bytes o ∷ take rest (drop (o + 4) bytes)) ++ drop (o + 4 + rest) bytes
  unfolding formed field head value byte
  field_read o tag rest e =
      let long = whole o tag (rest + 1) e in
      let others : List ℕ = take rest (drop (o + 4) bytes) in
      let size : rest + 1 ≡ suc (length others) =
      omega (arith, length-take-le rest (drop (o + 4) bytes) (omega (arith, length-drop (o + 4) bytes))) in
      let next : drop (o + 4) bytes ≡ others ++ drop (o + 4 + rest) bytes =
      sym (take-append-drop rest (drop (o + 4) bytes)) ∙ ap (λ xs. others ++ xs) (drop-drop rest (o + 4) bytes) in
      let step : suc (o + 3) ≡ o + 4 = omega arith in
      stands o (head tag (rest + 1)) (and_left _ (leb (o + 3 + (rest + 1)) (length bytes)) e)
      ∙ ap₂ (λ s xs. head tag s ++ xs) size
      (drop-cons bytes (o + 3) 0 (omega arith) ∙ ap (λ xs. get_or bytes (o + 3) 0 ∷ xs) (ap (λ i. drop i bytes) step ∙ next))

  -- the end field, and nothing behind it
  end_read : (o : ℕ) → stand_from bytes o end_field ≡ true → ltb (o + 3) (length bytes) ≡ false → drop o bytes ≡ end_field
  end_read o e behind = stands o end_field e ∙ ap (λ xs. end_field ++ xs) (drop_of_length-le bytes (ltb-false (o + 3) (length bytes) behind))

module _ (bytes : List ℕ) (n a : ℕ) (right : RightEvent bytes n a) where
  -- the bytes behind the event's number
  abbrev behind : List ℕ
  behind = drop (offset_of_event n a + 4) bytes

  enough : n ≤ length behind
  enough = omega (arith, whole bytes (offset_of_event n a) 0x05 (n + 1) right.event_form, length-drop (offset_of_event n a + 4) bytes)

  -- there are n masks, each below 2^n, and behind the last they read as 0
  count_masks : length (masks bytes n a) ≡ n
  unfolding masks
  count_masks = length-take-le n behind enough

  no_mask : (p : ℕ) → n ≤ p → get_or (masks bytes n a) p 0 ≡ 0
  no_mask p l = get_or-eq_default (masks bytes n a) 0 (omega (arith, count_masks))

  mask_small : (p : ℕ) → get_or (masks bytes n a) p 0 < 2 ^ n
  unfolding masks
  mask_small p = ⊎_elim (λ t. there (ltb-true p n t)) (λ t. rw (no_mask p (ltb-false p n t)) (pow_pos n)) (either (ltb p n))
    where
      there : p < n → get_or (masks bytes n a) p 0 < 2 ^ n
      there l =
          rw (get_or-take n behind p 0 l)
          (mask_below n (get_or behind p 0) (none_meets (mask_beyond n) 0 behind n p right.masks_inside l (omega (arith, enough))))

-- the rows of the number of n rows are these rows
rows_back : (W n : ℕ) (rs : List ℕ) → length rs ≡ n → ((i : ℕ) → get_or rs i 0 < 2 ^ W)
    → map (packed_row W (from_rows W rs)) (counted 0 n) ≡ rs
rows_back W n rs size h =
    let row : ℕ → ℕ = packed_row W (from_rows W rs) in
    let rows : length (map row (counted 0 n)) ≡ n = length-map (counted 0 n) row ∙ length_counted 0 n in
    ext_get_or 0 (map row (counted 0 n)) rs (rows ∙ sym size) (λ i l. at_counted row n i 0 (omega arith) ∙ row_of_rows W rs h i)

-- THE FIELDS of a file without a fault, and the model in it
module _ (bytes : List ℕ) (room : ℕ) (f : Faultless bytes (value bytes 0) (value bytes 4) room) where
  abbrev n : ℕ
  n = value bytes 0

  abbrev k : ℕ
  k = value bytes 4

  abbrev m : Model
  m = model_read bytes n k

  -- a mask has at most 8 bits
  masks_below : (a : ℕ) → a < k → (p : ℕ) → get_or (masks bytes n a) p 0 < 2 ^ 8
  masks_below a l p =
      let few = ((in_range 8 n).0 f.n_inside).1 in
      omega (arith, mask_small bytes n a (f.events a l) p, pow-le-pow_right {n = 2} (omega arith) {i = n} {j = 8} few)

  -- the arrow number of event a is that of its masks
  arrows_at : (a : ℕ) → a < k → get_or m.arrows a 0 ≡ from_rows 8 (masks bytes n a)
  unfolding model_read
  arrows_at a l = at_counted (λ a. from_rows 8 (masks bytes n a)) k a 0 l

  count_arrows : length m.arrows ≡ k
  unfolding model_read
  count_arrows = length-map (counted 0 k) (λ a. from_rows 8 (masks bytes n a)) ∙ length_counted 0 k

  -- the field of an event in the file of the model is the one that was read
  event_read : (a : ℕ) → a < k → drop (offset_of_event n a) bytes ≡ event_field m a ++ drop (offset_of_event n (suc a)) bytes
  unfolding offset_of_event masks event_field model_read
  event_read a l =
      let right : RightEvent bytes n a = f.events a l in
      let rows : map (packed_row 8 (get_or m.arrows a 0)) (counted 0 n) ≡ masks bytes n a =
      rw (arrows_at a l) (rows_back 8 n (masks bytes n a) (count_masks bytes n a right) (masks_below a l)) in
      let next : offset_of_event n a + 4 + n ≡ offset_of_event n (suc a) = omega arith in
      field_read bytes (offset_of_event n a) 0x05 n right.event_form
      ∙ ap₂ (λ v o. field 0x05 v ++ drop o bytes) (ap₂ ◌∷◌ right.event_number (sym rows)) next

  -- the fields of the first j events
  events_read : (j : ℕ) → j ≤ k → drop 16 bytes ≡ each_below j (event_field m) ++ drop (offset_of_event n j) bytes
  unfolding each_below gather counted offset_of_event
  events_read zero l = let none : 16 ≡ offset_of_event n 0 = omega arith in ap (λ o. drop o bytes) none
  events_read (suc j) l =
      events_read j (omega arith)
      ∙ ap (λ xs. each_below j (event_field m) ++ xs) (event_read j l)
      ∙ sym (append_assoc (each_below j (event_field m)) (event_field m j) (drop (offset_of_event n (suc j)) bytes))
      ∙ ap (λ xs. xs ++ drop (offset_of_event n (suc j)) bytes) (sym (each_further j (event_field m)))

  -- all fields
  form : bytes ≡ file_of m
  unfolding file_of field head model_read
  form =
      field_read bytes 0 0x01 0 f.n_form ∙ ap (λ xs. field 0x01 (n ∷ []) ++ xs)
      (field_read bytes 4 0x02 0 f.k_form ∙ ap (λ xs. field 0x02 (k ∷ []) ++ xs)
      (field_read bytes 8 0x03 0 f.start_form ∙ ap (λ xs. field 0x03 (value bytes 8 ∷ []) ++ xs)
      (field_read bytes 12 0x04 0 f.home_form ∙ ap (λ xs. field 0x04 (value bytes 12 ∷ []) ++ xs)
      (events_read k (omega arith) ∙ ap (λ xs. each_below k (event_field m) ++ xs)
      (end_read bytes (offset_of_event n k) f.end f.nothing_behind)))))

  -- a bit of mask p says that p and its place are states
  bit_of_mask : (a p q : ℕ) → a < k → bit (get_or (masks bytes n a) p 0) q ≡ true → (p < n) × (q < n)
  bit_of_mask a p q l b =
      let right : RightEvent bytes n a = f.events a l in
      let outside : ltb p n ≡ false → p < n =
      λ t. never (sym (no_bit q) ∙ ap (λ x. bit x q) (sym (no_mask bytes n a right p (ltb-false p n t))) ∙ b) in
      (⊎_elim (ltb-true p n) outside (either (ltb p n)), bit_inside n (get_or (masks bytes n a) p 0) q (mask_small bytes n a right p) b)

  -- the model that was read is as asked
  unrefused_form : Unrefused eight m
  unfolding model_read
  unrefused_form =
      let (n_least, n_most) = (in_range 8 n).0 f.n_inside in
      let (k_least, k_most) = (in_range 16 k).0 f.k_inside in
      record {
        n_least = n_least;
        n_most = n_most;
        k_least = k_least;
        k_most = k_most;
        arrows_there = omega (arith, count_arrows);
        start_inside = (mask_inside n (value bytes 8)).0 f.start_inside;
        home_inside = (mask_inside n (value bytes 12)).0 f.home_inside;
        arrows_inside = λ a p q l w b.
            bit_of_mask a p q l
            (sym (cell_of_rows 8 (masks bytes n a) (masks_below a l) p q w) ∙ ap (λ x. cell 8 x p q) (sym (arrows_at a l)) ∙ b);
      }

-- what is found tells the fault, and with number 0 the model
found_fault : (f : Fault) (x : Model) → (found f x).fault ≡ f
unfolding found
found_fault f x = go f.number
  where
    go : (number : ℕ) → let g : Fault = record { number = number; offset = f.offset } in (found g x).fault ≡ g
    go zero = refl
    go (suc number) = refl

found_model : (f : Fault) (x : Model) → f.number ≡ 0 → (found f x).model ≡ x
unfolding found
found_model f x e = rw (e, found)

module _ (bytes : List ℕ) (room : ℕ) where
  abbrev first : Fault
  first = first_of (file_checks bytes (value bytes 0) (value bytes 4) room)

  abbrev in_file : Model
  in_file = model_read bytes (value bytes 0) (value bytes 4)

  -- what is found is the first fault of all fields
  pub read_fault : (reading bytes room).fault ≡ first_of (file_checks bytes (value bytes 0) (value bytes 4) room)
  unfolding reading
  read_fault = found_fault first in_file

  -- its number is 0, 1, 2, 3 or 8
  pub reading_gives : OneOf (0 ∷ 1 ∷ 2 ∷ 3 ∷ 8 ∷ []) (reading bytes room).fault.number
  unfolding file_checks front_checks number_checks mask_checks event_checks end_checks fault every_of some_of
  reading_gives =
      let listed : ℕ → Bool = λ n. some_of (eqb n) (0 ∷ 1 ∷ 2 ∷ 3 ∷ 8 ∷ []) in
      let n = value bytes 0 in
      let k = value bytes 4 in
      rw read_fault
      (first_number listed refl (file_checks bytes n k room)
      (has_both listed (each_below k (event_checks bytes n)) (end_checks bytes (offset_of_event n k))
      (has_each listed k (event_checks bytes n) (λ a. refl)) refl))

  -- with number 0 the file has no fault, and the model in it is read
  module _ (h : (reading bytes room).fault.number ≡ 0) where
    number_0 : first.number ≡ 0
    number_0 = ap (λ f. f.number) (sym read_fault) ∙ h

    pub read_faultless : Faultless bytes (value bytes 0) (value bytes 4) room
    read_faultless = faultless bytes (value bytes 0) (value bytes 4) room number_0

    pub read_model : (reading bytes room).model ≡ model_read bytes (value bytes 0) (value bytes 4)
    unfolding reading
    read_model = found_model first in_file number_0

    -- THE EXACT FORM IS THE ONLY ONE: the file is, byte for byte, that of the model that was read
    pub form_read : file_of (reading bytes room).model ≡ bytes
    form_read = ap file_of read_model ∙ sym (form bytes room read_faultless)

    -- that model is as asked
    pub unrefused_read : Unrefused eight (reading bytes room).model
    unrefused_read = subst (Unrefused eight) (sym read_model) (unrefused_form bytes room read_faultless)

    -- and has k numbers of arrows, for which there is room
    pub arrows_read : (length (reading bytes room).model.arrows ≡ (reading bytes room).model.k) × ((reading bytes room).model.k ≤ room)
    unfolding model_read
    arrows_read =
        let f : Faultless bytes (value bytes 0) (value bytes 4) room = read_faultless in
        rw read_model (count_arrows bytes room f, ltb-false room (value bytes 4) f.arrows_fit)

-- THE MODEL DETERMINES THE BYTES
pub one_model : (bytes bytes' : List ℕ) (room room' : ℕ) → (reading bytes room).fault.number ≡ 0 → (reading bytes' room').fault.number ≡ 0
    → (reading bytes room).model ≡ (reading bytes' room').model → bytes ≡ bytes'
one_model bytes bytes' room room' h h' same = sym (form_read bytes room h) ∙ ap file_of same ∙ form_read bytes' room' h'

-- ONLY THE FIRST k ARROW NUMBERS are part of the file
pub form_first : (m : Model) (xs : List ℕ) → take m.k m.arrows ≡ take m.k xs → file_of m ≡ file_of (with_arrows m xs)
unfolding file_of event_field
form_first m xs same =
    rw (each_same m.k (event_field m) (event_field (with_arrows m xs))
    (λ a l. ap (λ x. field 0x05 (a ∷ map (packed_row 8 x) (counted 0 m.n))) (event_same m xs same a l)))
