-- THE FILE OF A MODEL IS READ BACK: a reader finds no fault in it, and the model. So a file is valid exactly if it is that of a model.
use Prim.Native.Nat.{ℕ, zero, suc, ◌+◌, ◌*◌, ◌/◌, ◌^◌, ◌≤◌, ◌<◌}
use native.Mathlib.Omega.{arith}
use native.Mathlib.Nat.{add-zero, add-suc, suc-add, zero-add, mul-suc, mod-add-div, div-eq_of_lt, div-one}
use mathlib.Core.Path.{◌≡◌, refl, sym, ap, ap₂, ◌∙◌}
use mathlib.Core.Bool.{Bool, true, false}
use mathlib.Core.Logic.{◌↔◌}
use mathlib.Core.List.{List, [], ◌∷◌, ◌++◌, map}
use lib.ListN.{length, get_or, take, drop, length-append, length-drop, length-map}
use lib.Seq.{get_or-drop, drop-drop, take_at}
use lib.Pow.{shr-shr}
use borrow.Author.Tests.{lt-ltb, le-ltb, le-leb, eq-eqb}
use Rattle.laws.specs.Bits.{packed_row, from_rows, counted, some_of}
use Rattle.laws.specs.Model.{eight, Model}
use Rattle.laws.specs.Refusals.{mask_beyond, Unrefused}
use Rattle.laws.specs.File.{head, field, end_field, event_field, file_of, offset_of_event, byte, stand_from, formed, value, masks}
use Rattle.laws.specs.File.{model_read, reading}
use Rattle.laws.proofs.Booleans.{both}
use Rattle.laws.proofs.Members.{length_counted}
use Rattle.laws.proofs.Parts.{counted_same, counted_part, first_behind, part_there, parts_end}
use Rattle.laws.proofs.Unrefused.{in_range, mask_inside, number_below, inside_ends, rows_inside}
use Rattle.laws.proofs.Read.{with_arrows}
use Rattle.laws.proofs.Faultless.{RightEvent, Faultless, faultless_passed}
use Rattle.laws.proofs.FileForm.{read_fault, read_model, form_read, unrefused_read, arrows_read}

module _ (bytes : List ℕ) where
  -- bytes that are first behind an offset stand at it
  stand_there : (o : ℕ) (xs rest : List ℕ) → drop o bytes ≡ xs ++ rest → stand_from bytes o xs ≡ true
  unfolding stand_from byte
  stand_there o [] rest e = refl
  stand_there o (x ∷ xs) rest e =
      let (l, here, behind) = first_behind 0 o bytes e in
      both (both (lt-ltb o (length bytes) l) (eq-eqb (get_or bytes o 0) x here)) (stand_there (suc o) xs rest behind)

  -- a field that is first behind an offset
  module _ (o tag v : ℕ) (vs rest : List ℕ) (there : drop o bytes ≡ field tag (v ∷ vs) ++ rest) where
    -- is formed
    field_formed : formed bytes o tag (length (v ∷ vs)) ≡ true
    unfolding formed field head
    field_formed =
        both (stand_there o (head tag (length (v ∷ vs))) (v ∷ vs ++ rest) there)
        (le-leb (o + 3 + length (v ∷ vs)) (length bytes) (omega (arith, length-drop o bytes, ap length there, length-append vs rest)))

    -- and its value is what it was made from
    field_value : value bytes o ≡ v
    unfolding value byte field head
    field_value = sym (get_or-drop o bytes 3 0) ∙ ap (λ xs. get_or xs 3 0) there

    field_behind : (n : ℕ) → length vs ≡ n → take n (drop (o + 4) bytes) ≡ vs
    unfolding field head
    field_behind n e = ap (take n) (sym (drop-drop 4 o bytes) ∙ ap (drop 4) there) ∙ take_at vs rest n e

-- the rows of a number give it back, if it has no bit behind them
number_back : (W x i d : ℕ) → x < 2 ^ (W * (i + d)) → from_rows W (map (packed_row W x) (counted i d)) ≡ x / 2 ^ (W * i)
unfolding from_rows packed_row counted
number_back W x i zero h = sym (div-eq_of_lt (rw (← add-zero i) h))
number_back W x i (suc d) h =
    rw (number_back W x (suc i) d (rw (suc-add, ← add-suc) h), mul-suc, ← shr-shr) (mod-add-div (x / 2 ^ (W * i)) (2 ^ W))

-- a test that fails of what g makes of each element
none_made : {A B : Type 0} (f : B → Bool) (g : A → B) → ((x : A) → f (g x) ≡ false) → (xs : List A) → some_of f (map g xs) ≡ false
unfolding some_of
none_made f g h [] = refl
none_made f g h (x ∷ xs) = rw (h x, none_made f g h xs)

module _ (m : Model) where
  -- the masks of event a
  abbrev rows : ℕ → List ℕ
  rows a = map (packed_row 8 (get_or m.arrows a 0)) (counted 0 m.n)

  length_rows : (a : ℕ) → length (rows a) ≡ m.n
  length_rows a = length-map (counted 0 m.n) (packed_row 8 (get_or m.arrows a 0)) ∙ length_counted 0 m.n

  length_field : (a : ℕ) → length (event_field m a) ≡ m.n + 4
  unfolding event_field field head
  length_field a = omega (arith, length_rows a)

  -- the field of event a stands at its offset, the end field behind all of them
  event_there : (a : ℕ) → a < m.k → (rest : List ℕ) × (drop (offset_of_event m.n a) (file_of m) ≡ event_field m a ++ rest)
  unfolding file_of field head offset_of_event
  event_there a l =
      let (rest, e) = part_there (event_field m) (m.n + 4) length_field end_field m.k a l in
      (rest, sym (drop-drop (a * (m.n + 4)) 16 (file_of m)) ∙ e)

  end_there : drop (offset_of_event m.n m.k) (file_of m) ≡ end_field
  unfolding file_of field head offset_of_event
  end_there = sym (drop-drop (m.k * (m.n + 4)) 16 (file_of m)) ∙ parts_end (event_field m) (m.n + 4) length_field end_field m.k

  masks_there : (a : ℕ) → a < m.k → masks (file_of m) m.n a ≡ rows a
  unfolding masks event_field
  masks_there a l =
      let (rest, e) = event_there a l in
      field_behind (file_of m) (offset_of_event m.n a) 0x05 a (rows a) rest e m.n (length_rows a)

  -- a field of one byte, with n, k or a mask
  byte_formed : (o tag v : ℕ) → drop o (file_of m) ≡ field tag (v ∷ []) ++ drop (o + 4) (file_of m) → formed (file_of m) o tag 1 ≡ true
  byte_formed o tag v e = field_formed (file_of m) o tag v [] (drop (o + 4) (file_of m)) e

  module _ (u : Unrefused eight m) where
    -- nothing is wrong in the field of event a
    right_event : (a : ℕ) → a < m.k → RightEvent (file_of m) m.n a
    unfolding event_field
    right_event a l =
        let (rest, e) = event_there a l in
        let x = get_or m.arrows a 0 in
        let size : length (a ∷ rows a) ≡ m.n + 1 = omega (arith, length_rows a) in
        record {
          event_form = rw size at (field_formed (file_of m) (offset_of_event m.n a) 0x05 a (rows a) rest e);
          event_number = field_value (file_of m) (offset_of_event m.n a) 0x05 a (rows a) rest e;
          masks_inside =
              rw (masks_there a l)
              (none_made (mask_beyond m.n) (packed_row 8 x) (rows_inside 8 m.n x (λ p q. u.arrows_inside a p q l)) (counted 0 m.n));
        }

    -- and its masks are those of its arrow number
    arrow_back : (a : ℕ) → a < m.k → from_rows 8 (masks (file_of m) m.n a) ≡ get_or m.arrows a 0
    arrow_back a l =
        let x = get_or m.arrows a 0 in
        let small = number_below 8 m.n x (inside_ends 8 m.n x (omega arith) (λ p q. u.arrows_inside a p q l)) in
        ap (from_rows 8) (masks_there a l) ∙ number_back 8 x 0 m.n (rw zero-add small) ∙ div-one x

    model_back : model_read (file_of m) m.n m.k ≡ with_arrows m (take m.k m.arrows)
    unfolding model_read value byte file_of field head
    model_back =
        ap (with_arrows m)
        (counted_same (λ a. from_rows 8 (masks (file_of m) m.n a)) (λ a. get_or m.arrows a 0) 0 m.k
        (λ a l. arrow_back a (omega arith))
        ∙ counted_part 0 m.arrows 0 m.k (omega (arith, u.arrows_there)))

    module _ (room : ℕ) (fits : m.k ≤ room) where
      nothing_wrong : Faultless (file_of m) m.n m.k room
      unfolding value byte file_of field head
      nothing_wrong =
          record {
            n_form = byte_formed 0 0x01 m.n refl;
            n_inside = (in_range 8 m.n).1 (u.n_least, u.n_most);
            k_form = byte_formed 4 0x02 m.k refl;
            k_inside = (in_range 16 m.k).1 (u.k_least, u.k_most);
            arrows_fit = le-ltb room m.k fits;
            start_form = byte_formed 8 0x03 m.start refl;
            start_inside = (mask_inside m.n m.start).1 u.start_inside;
            home_form = byte_formed 12 0x04 m.home refl;
            home_inside = (mask_inside m.n m.home).1 u.home_inside;
            events = right_event;
            end = stand_there (file_of m) (offset_of_event m.n m.k) end_field [] end_there;
            nothing_behind = le-ltb (offset_of_event m.n m.k + 3) (length (file_of m))
                (omega (arith, length-drop (offset_of_event m.n m.k) (file_of m), ap length end_there));
          }

-- THE FILE OF A MODEL IS READ BACK, with the arrow numbers that are read of it
pub read_back : (m : Model) (room : ℕ) → Unrefused eight m → m.k ≤ room
    → reading (file_of m) room ≡ record { fault = record { number = 0; offset = 0 }; model = with_arrows m (take m.k m.arrows) }
unfolding value byte file_of field head
read_back m room u fits =
    let f = read_fault (file_of m) room ∙ faultless_passed (file_of m) m.n m.k room (nothing_wrong m u room fits) in
    ap₂ (λ f m. record { fault = f; model = m }) f (read_model (file_of m) room (ap (λ f. f.number) f) ∙ model_back m u)

-- A FILE IS VALID exactly if it is that of a model as asked, for whose arrows there is room
pub valid_exactly : (bytes : List ℕ) (room : ℕ)
    → ((reading bytes room).fault.number ≡ 0) ↔ ((m : Model) × Unrefused eight m × (m.k ≤ room) × (file_of m ≡ bytes))
valid_exactly bytes room = (
  (λ h. ((reading bytes room).model, unrefused_read bytes room h, (arrows_read bytes room h).1, form_read bytes room h)),
  (λ (m, u, fits, e). rw (← e, read_back m room u fits)),
)
