-- THE SLICES OF PROFILES are a table's: proofs of what its code may count on. Nothing here has to be believed.
use Prim.Native.Nat.{ℕ, ◌≤◌, ◌<◌}
use native.Mathlib.Omega.{arith}
use mathlib.Core.Path.{◌≡◌, refl, ap, ◌∙◌}
use mathlib.Core.Bool.{◌&&◌}
use mathlib.Core.List.{List, [], ◌∷◌, ◌++◌, map}
use lib.ListN.{length, get_or, set}
use lib.Dec.{eqb}
use Rattle.laws.specs.Model.{Machine, eight}
use Rattle.laws.specs.Tables.{Entry}
use Rattle.laws.specs.Profiles.{Profile, same_profile, values, profile_value}
use Rattle.laws.specs.Answers.{ProfileSlices, room_for_profiles, profile_slices}
use Rattle.profile.specs.Values as code
use Rattle.profile.specs.declared.Profile as declared
use Rattle.closing.specs.Memory.{profile_memory, entries_in, profiles_in, ProfilesLent}
use Rattle.closing.specs.Rows.{Layout}
use Rattle.closing.specs.Lent.{SameProfiles}
use Rattle.closing.specs.declared.memory.ProfileMemory.{ProfileMemory}
use Rattle.closing.specs.Columns.{entry_in, Shape, next_row, layout}

-- the entry that stands in row i
abbrev pub profile_at : ProfileSlices → ℕ → Entry Profile
profile_at l i = entry_in (λ i. record { arrows = get_or l.arrows i 0; marks = get_or l.marks i 0 }) l.from l.event i

-- the room of the slices is room in each, for the first n rows
pub lent_to : (l : ProfileSlices) (n : ℕ) → n ≤ room_for_profiles eight l → ProfilesLent l n (room_for_profiles eight l)
unfolding room_for_profiles
lent_to l n h = omega arith

pub room_lent : (l : ProfileSlices) {room : ℕ} → room ≡ room_for_profiles eight l → ProfilesLent l 0 room
room_lent l p = rw p (lent_to l 0 (omega arith))

-- THE FOUR COLUMNS: what F makes of each, a part of the entries and the slice in which it stands
abbrev columns : ((Entry Profile → ℕ) → List ℕ → List ℕ) → ProfileSlices → ProfileSlices
columns F l =
    profile_memory (F (λ e. e.value.arrows) l.arrows) (F (λ e. e.value.marks) l.marks) (F (λ e. e.from) l.from)
    (F (λ e. e.event) l.event)

-- a part of the values is one of the entries, so that writing entries is writing the four columns
value_column : (f : Profile → ℕ) (es : List (Entry Profile)) → map f (values es) ≡ map (λ e. f e.value) es
unfolding values
value_column f [] = refl
value_column f (e ∷ es) = ap (λ (xs : List ℕ). f e.value ∷ xs) (value_column f es)

profile_shape : Shape profile_slices profile_at (room_for_profiles eight) columns
unfolding profile_slices room_for_profiles
profile_shape =
    record {
      written = λ es l. rw (value_column (λ t. t.arrows) es, value_column (λ t. t.marks) es);
      twice = λ F G l. refl;
      unchanged = λ l. refl;
      alike =
          λ F G l same.
          let lent = lent_to l 0 (omega arith) in
          let arrows = same (λ e. e.value.arrows) l.arrows (λ i. refl) lent.arrows_within in
          let marks = same (λ e. e.value.marks) l.marks (λ i. refl) lent.marks_within in
          let from = same (λ e. e.from) l.from (λ i. refl) lent.from_within in
          let event = same (λ e. e.event) l.event (λ i. refl) lent.event_within in
          rw (arrows, marks, from, event);
      row =
          λ F l i e is.
          let arrows = is (λ e. e.value.arrows) l.arrows in
          let marks = is (λ e. e.value.marks) l.marks in
          let from = is (λ e. e.from) l.from in
          let event = is (λ e. e.event) l.event in
          rw (arrows, marks, from, event);
      as_long =
          λ F l long.
          let lent = lent_to l 0 (omega arith) in
          let arrows = long (λ e. e.value.arrows) l.arrows lent.arrows_within in
          let marks = long (λ e. e.value.marks) l.marks lent.marks_within in
          let from = long (λ e. e.from) l.from lent.from_within in
          let event = long (λ e. e.event) l.event lent.event_within in
          rw (arrows, marks, from, event);
      small = λ l. omega (arith, lent_to l 0 (omega arith));
    }

-- one profile more, with where it came from and its event, stored in the next place of each slice
pub stored_next : (l : ProfileSlices) (n : ℕ) → n < room_for_profiles eight l → (e : Entry Profile)
    → columns (λ f old. set old n (f e)) l ≡ profile_slices (profiles_in l n ++ (e ∷ [])) l
unfolding profiles_in entries_in
stored_next = next_row profile_shape

-- THE LAYOUT
pub profile_layout : Layout profile_slices profiles_in profile_at (room_for_profiles eight)
unfolding profiles_in entries_in
profile_layout = layout profile_shape

-- there still is room after writing within it
pub still_room : (es : List (Entry Profile)) (l : ProfileSlices) → length es ≤ room_for_profiles eight l
    → ProfilesLent (profile_slices es l) (length es) (room_for_profiles eight l)
still_room es l h = let kept = profile_layout.room_kept es l h in rw kept at (lent_to (profile_slices es l) (length es) (rw kept h))

-- the code's test of two profiles is the table's
pub profile_tells : (M : Machine ℕ) (x y : declared.Profile)
    → (profile_value 8 M).same (code.profile x) (code.profile y) ≡ (eqb x.arrows y.arrows && eqb x.marks y.marks)
unfolding profile_value same_profile
profile_tells M x y = refl

-- the slices that were lent
pub same_profiles : (l : ProfileMemory) → SameProfiles l l
same_profiles l = record { arrows = refl; marks = refl; from = refl; event = refl }

pub same_profiles_on : (x y z : ProfileMemory) → SameProfiles x y → SameProfiles y z → SameProfiles x z
same_profiles_on x y z p q =
    record { arrows = p.arrows ∙ q.arrows; marks = p.marks ∙ q.marks; from = p.from ∙ q.from; event = p.event ∙ q.event }
