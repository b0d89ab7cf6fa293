-- A reader never looks behind the longest valid file: its bytes and one more, 212, tell all that any longer bytes would.
-- Each check and each part of the model is read below a bound N, if the checks before it have passed.
use Prim.Native.Nat.{ℕ, zero, suc, ◌+◌, ◌≤◌, ◌<◌}
use native.Mathlib.Omega.{arith}
use native.Mathlib.Nat.{mul-le-mul, mul-le-mul_right}
use mathlib.Core.Path.{◌≡◌, refl, ap, ap₂, ◌∙◌}
use mathlib.Core.Bool.{Bool, true, false, not, ◌&&◌}
use mathlib.Core.List.{List, [], ◌∷◌, ◌++◌}
use lib.ListN.{length, take, length-take}
use lib.Seq.{get_or-take}
use lib.Dec.{eqb, leb}
use borrow.Author.Tests.{ltb-false, leb-true, le-leb}
use Rattle.laws.specs.Bits.{from_rows, counted, some_of, gather, each_below}
use Rattle.laws.specs.Model.{Model}
use Rattle.laws.specs.Refusals.{Check, Fault, first_of, fault, outside, mask_beyond}
use Rattle.laws.specs.File.{head, end_field, offset_of_event, byte, stand_from, formed, value, masks, model_read, found, reading}
use Rattle.laws.specs.File.{number_checks, mask_checks, event_checks, end_checks, front_checks, file_checks}
use Rattle.laws.proofs.Booleans.{same_test}
use Rattle.laws.proofs.Unrefused.{in_range}
use Rattle.laws.proofs.FileForm.{read_faultless}
use Rattle.laws.proofs.Faultless.{faultless}
use Rattle.laws.proofs.Parts.{counted_same, part_same}

-- two lists of checks agree if their first checks do and, where these do not apply, the others
data Agree : List Check → List Check → Type 0 where
  none : Agree [] []
  next : {number offset : ℕ} {a b : Bool} {cs ds : List Check} → a ≡ b → (b ≡ false → Agree cs ds)
      → Agree
      (record { number = number; offset = offset; applies = a } ∷ cs)
      (record { number = number; offset = offset; applies = b } ∷ ds)

-- and come to one fault then
agree_first : {cs ds : List Check} → Agree cs ds → first_of cs ≡ first_of ds
unfolding first_of
agree_first none = refl
agree_first (next {b = true} e rest) = rw e
agree_first (next {b = false} e rest) = rw e (agree_first (rest refl))

-- what a reader finds depends on the model with number 0 only
found_same : (f : Fault) (m m' : Model) → (f.number ≡ 0 → m ≡ m') → found f m ≡ found f m'
unfolding found
found_same f m m' h = go f.number refl
  where
    go : (number : ℕ) → f.number ≡ number → found f m ≡ found f m'
    go zero e = ap (found f) (h e)
    go (suc number) e = rw (e, found)

module _ (N : ℕ) (bytes : List ℕ) where
  -- the first N bytes reach as far as the bytes, up to N
  reach_same : (o : ℕ) → o ≤ N → leb o (length (take N bytes)) ≡ leb o (length bytes)
  reach_same o h =
      let l = length-take N bytes in
      same_test
      (λ e. le-leb o (length bytes) (omega (arith, leb-true o (length (take N bytes)) e)))
      (λ e. le-leb o (length (take N bytes)) (omega (arith, leb-true o (length bytes) e)))

  stand_same : (o : ℕ) (xs : List ℕ) → o + length xs ≤ N → stand_from (take N bytes) o xs ≡ stand_from bytes o xs
  unfolding stand_from byte
  stand_same o [] h = refl
  stand_same o (x ∷ xs) h =
      rw (reach_same (suc o) (omega arith), get_or-take N bytes o 0 (omega arith), stand_same (suc o) xs (omega arith))

  formed_same : (o tag size : ℕ) → o + 3 + size ≤ N → formed (take N bytes) o tag size ≡ formed bytes o tag size
  unfolding formed head
  formed_same o tag size h = ap₂ ◌&&◌ (stand_same o (head tag size) (omega arith)) (reach_same (o + 3 + size) h)

  value_same : (o : ℕ) → o + 3 < N → value (take N bytes) o ≡ value bytes o
  unfolding value byte
  value_same o h = get_or-take N bytes (o + 3) 0 h

  masks_same : (n a : ℕ) → offset_of_event n a + 4 + n ≤ N → masks (take N bytes) n a ≡ masks bytes n a
  unfolding masks
  masks_same n a h = part_same N (offset_of_event n a + 4) n bytes h

  -- from here on the bound is beyond the end of a file that says n and k
  module _ (n k : ℕ) (enough : offset_of_event n k + 3 < N) where
    -- the field of each event ends before that
    event_within : (a : ℕ) → a < k → offset_of_event n a + 4 + n ≤ N
    unfolding offset_of_event
    event_within a l = omega (arith, mul-le-mul_right (n + 4) l)

    -- the fields of the events from i on, and the end field
    events_agree : (i d : ℕ) → i + d ≤ k
        → Agree
        (gather (λ _. event_checks (take N bytes) n) i (counted i d) ++ end_checks (take N bytes) (offset_of_event n k))
        (gather (λ _. event_checks bytes n) i (counted i d) ++ end_checks bytes (offset_of_event n k))
    unfolding gather counted event_checks end_checks fault
    events_agree i zero l =
        next (ap not (stand_same (offset_of_event n k) end_field (omega arith)))
        (λ _. next (reach_same (suc (offset_of_event n k + 3)) enough) (λ _. none))
    events_agree i (suc d) l =
        let within = event_within i (omega arith) in
        let form = formed_same (offset_of_event n i) 0x05 (n + 1) (omega arith) in
        next (ap not (ap₂ (λ b x. b && eqb x i) form (value_same (offset_of_event n i) (omega arith))))
        (λ _. next (ap (some_of (mask_beyond n)) (masks_same n i within)) (λ _. events_agree (suc i) d (omega arith)))

    -- the model
    model_same : 16 ≤ N → model_read (take N bytes) n k ≡ model_read bytes n k
    unfolding model_read
    model_same fields =
        let arrows = counted_same (λ a. from_rows 8 (masks (take N bytes) n a)) (λ a. from_rows 8 (masks bytes n a)) 0 k
        (λ a l. ap (from_rows 8) (masks_same n a (event_within a (omega arith)))) in
        rw (value_same 8 (omega arith), value_same 12 (omega arith), arrows)

  -- the bound is beyond the four fields before the events, and beyond the end of every file with n and k in their ranges
  module _ (room : ℕ) (fields : 16 ≤ N) (enough : (n k : ℕ) → n ≤ 8 → k ≤ 16 → offset_of_event n k + 3 < N) where
    abbrev n : ℕ
    n = value bytes 0

    abbrev k : ℕ
    k = value bytes 4

    checks_agree : Agree (file_checks (take N bytes) n k room) (file_checks bytes n k room)
    unfolding front_checks file_checks number_checks mask_checks each_below fault
    checks_agree =
        next (ap not (formed_same 0 0x01 1 (omega arith)))
        (λ _. next (ap (outside 8) (value_same 0 (omega arith)))
        (λ n_in. next (ap not (formed_same 4 0x02 1 (omega arith)))
        (λ _. next (ap (outside 16) (value_same 4 (omega arith)))
        (λ k_in. next refl
        (λ _. next (ap not (formed_same 8 0x03 1 (omega arith)))
        (λ _. next (ap (mask_beyond n) (value_same 8 (omega arith)))
        (λ _. next (ap not (formed_same 12 0x04 1 (omega arith)))
        (λ _. next (ap (mask_beyond n) (value_same 12 (omega arith)))
        (λ _. events_agree n k (enough n k ((in_range 8 n).0 n_in).1 ((in_range 16 k).0 k_in).1) 0 k (omega arith))))))))))

    -- where no check applies, n and k are in their ranges
    within : (first_of (file_checks bytes n k room)).number ≡ 0 → offset_of_event n k + 3 < N
    within h =
        let f = faultless bytes n k room h in
        enough n k ((in_range 8 n).0 f.n_inside).1 ((in_range 16 k).0 f.k_inside).1

    reading_same : reading (take N bytes) room ≡ reading bytes room
    unfolding reading
    reading_same =
        ap₂ (λ n k. found (first_of (file_checks (take N bytes) n k room)) (model_read (take N bytes) n k))
        (value_same 0 (omega arith)) (value_same 4 (omega arith))
        ∙ ap (λ f. found f (model_read (take N bytes) n k)) (agree_first checks_agree)
        ∙ found_same (first_of (file_checks bytes n k room)) (model_read (take N bytes) n k) (model_read bytes n k)
        (λ h. model_same n k (within h) fields)

-- the end field ends before byte 212
longest : (n k : ℕ) → n ≤ 8 → k ≤ 16 → offset_of_event n k + 3 < 212
unfolding offset_of_event
longest n k n_most k_most = let m : n + 4 ≤ 12 = omega arith in omega (arith, mul-le-mul k_most m)

-- THE FIRST 212 BYTES OF A FILE ARE ENOUGH: a longest valid file has 16 + 16·12 + 3 = 211, and one more tells that something follows
pub first_bytes : (bytes : List ℕ) (room : ℕ) → reading (take 212 bytes) room ≡ reading bytes room
first_bytes bytes room = reading_same 212 bytes room (omega arith) longest

-- and a valid file has at most 211
pub few_bytes : (bytes : List ℕ) (room : ℕ) → (reading bytes room).fault.number ≡ 0 → length bytes ≤ 211
few_bytes bytes room h =
    let f = read_faultless bytes room h in
    let (_, n_most) = (in_range 8 (value bytes 0)).0 f.n_inside in
    let (_, k_most) = (in_range 16 (value bytes 4)).0 f.k_inside in
    omega (arith, longest (value bytes 0) (value bytes 4) n_most k_most, ltb-false _ (length bytes) f.nothing_behind)
