-- THE SLICES OF SETS are a table's: proofs of what its code may count on. Nothing here has to be believed.
use Prim.Native.Nat.{ℕ, ◌≤◌, ◌<◌}
use native.Mathlib.Omega.{arith}
use mathlib.Core.Path.{◌≡◌, refl, ◌∙◌}
use mathlib.Core.List.{List, [], ◌∷◌, ◌++◌}
use lib.ListN.{length, get_or, set}
use lib.Dec.{eqb}
use Rattle.laws.specs.Model.{Machine, eight}
use Rattle.laws.specs.Tables.{Entry}
use Rattle.laws.specs.Profiles.{values, set_value}
use Rattle.laws.specs.Answers.{SetSlices, room_for_sets, set_slices}
use Rattle.closing.specs.Memory.{set_memory, entries_in, sets_in, SetsLent}
use Rattle.closing.specs.Rows.{Layout}
use Rattle.closing.specs.Lent.{SameSets}
use Rattle.closing.specs.declared.memory.SetMemory.{SetMemory}
use Rattle.closing.specs.Columns.{entry_in, Shape, next_row, layout}

-- the entry that stands in row i
abbrev pub set_at : SetSlices → ℕ → Entry ℕ
set_at l i = entry_in (λ i. get_or l.masks i 0) l.from l.event i

-- the room of the slices is room in each, for the first n rows
pub lent_to : (l : SetSlices) (n : ℕ) → n ≤ room_for_sets eight l → SetsLent l n (room_for_sets eight l)
unfolding room_for_sets
lent_to l n h = omega arith

pub room_lent : (l : SetSlices) {room : ℕ} → room ≡ room_for_sets eight l → SetsLent l 0 room
room_lent l p = rw p (lent_to l 0 (omega arith))

-- THE THREE COLUMNS: what F makes of each, a part of the entries and the slice in which it stands
abbrev columns : ((Entry ℕ → ℕ) → List ℕ → List ℕ) → SetSlices → SetSlices
columns F l = set_memory (F (λ e. e.value) l.masks) (F (λ e. e.from) l.from) (F (λ e. e.event) l.event)

set_shape : Shape set_slices set_at (room_for_sets eight) columns
unfolding set_slices values room_for_sets
set_shape =
    record {
      written = λ es l. refl;
      twice = λ F G l. refl;
      unchanged = λ l. refl;
      alike =
          λ F G l same.
          let lent = lent_to l 0 (omega arith) in
          let masks = same (λ e. e.value) l.masks (λ i. refl) lent.masks_within in
          let from = same (λ e. e.from) l.from (λ i. refl) lent.from_within in
          let event = same (λ e. e.event) l.event (λ i. refl) lent.event_within in
          rw (masks, from, event);
      row =
          λ F l i e is.
          let masks = is (λ e. e.value) l.masks in
          let from = is (λ e. e.from) l.from in
          let event = is (λ e. e.event) l.event in
          rw (masks, from, event);
      as_long =
          λ F l long.
          let lent = lent_to l 0 (omega arith) in
          let masks = long (λ e. e.value) l.masks lent.masks_within in
          let from = long (λ e. e.from) l.from lent.from_within in
          let event = long (λ e. e.event) l.event lent.event_within in
          rw (masks, from, event);
      small = λ l. omega (arith, lent_to l 0 (omega arith));
    }

-- one set more, with where it came from and its event, stored in the next place of each slice
pub stored_next : (l : SetSlices) (n : ℕ) → n < room_for_sets eight l → (e : Entry ℕ)
    → columns (λ f old. set old n (f e)) l ≡ set_slices (sets_in l n ++ (e ∷ [])) l
unfolding sets_in entries_in
stored_next = next_row set_shape

-- THE LAYOUT
pub set_layout : Layout set_slices sets_in set_at (room_for_sets eight)
unfolding sets_in entries_in
set_layout = layout set_shape

-- there still is room after writing within it
pub still_room : (es : List (Entry ℕ)) (l : SetSlices) → length es ≤ room_for_sets eight l
    → SetsLent (set_slices es l) (length es) (room_for_sets eight l)
still_room es l h = let kept = set_layout.room_kept es l h in rw kept at (lent_to (set_slices es l) (length es) (rw kept h))

-- the code's test of two sets is the table's
pub set_tells : (M : Machine ℕ) (x y : ℕ) → (set_value 8 M).same x y ≡ eqb x y
unfolding set_value
set_tells M x y = refl

-- the slices that were lent
pub same_sets : (l : SetMemory) → SameSets l l
same_sets l = record { masks = refl; from = refl; event = refl }

pub same_sets_on : (x y z : SetMemory) → SameSets x y → SameSets y z → SameSets x z
same_sets_on x y z p q = record { masks = p.masks ∙ q.masks; from = p.from ∙ q.from; event = p.event ∙ q.event }
