-- What stands in lent slices: the entries in their first places, what must hold of them before a call, and what filling a table leaves.
use Rattle.std.specs.Prelude.{ℕ, ◌≤◌, ◌≡◌, Bool, true, false, Result, Ok, Err, List, map, length, get_or}
use Rattle.laws.specs.Bits.{counted}
use Rattle.laws.specs.Model.{eight}
use Rattle.laws.specs.Tables.{Entry, Table}
use Rattle.laws.specs.Profiles.{Profile}
use Rattle.laws.specs.Answers.{SetSlices, ProfileSlices}
use Rattle.closing.specs.declared.table.Full.{Full}

-- the slices of a table as one value
abbrev pub set_memory : List ℕ → List ℕ → List ℕ → SetSlices
set_memory masks from event = record { masks = masks; from = from; event = event }

abbrev pub profile_memory : List ℕ → List ℕ → List ℕ → List ℕ → ProfileSlices
profile_memory arrows marks from event = record { arrows = arrows; marks = marks; from = from; event = event }

-- the entries in the first count places; value says what the other slices hold there
unfoldable pub entries_in : {Value : Type 0} → (ℕ → Value) → List ℕ → List ℕ → ℕ → List (Entry Value)
entries_in value from event count = map (λ i. record { value = value i; from = get_or from i 0; event = get_or event i 0 }) (counted 0 count)

unfoldable pub sets_in : SetSlices → ℕ → List (Entry ℕ)
sets_in l count = entries_in (λ i. get_or l.masks i 0) l.from l.event count

unfoldable pub profiles_in : ProfileSlices → ℕ → List (Entry Profile)
profiles_in l count = entries_in (λ i. record { arrows = get_or l.arrows i 0; marks = get_or l.marks i 0 }) l.from l.event count

-- these entries as a table that is not cut
abbrev pub going : {Value : Type 0} → List (Entry Value) → Table Value
going entries = record { entries = entries; cut = false }

-- there is room in every slice, the count is within it, and it is within the limit, so that an entry's number fits its slice
pub record SetsLent (l : SetSlices) (count room : ℕ) : Type 0 where
  pub count_within : count ≤ room
  pub masks_within : room ≤ length l.masks
  pub from_within : room ≤ length l.from
  pub event_within : room ≤ length l.event
  pub limit : room ≤ eight.sets

pub record ProfilesLent (l : ProfileSlices) (count room : ℕ) : Type 0 where
  pub count_within : count ≤ room
  pub arrows_within : room ≤ length l.arrows
  pub marks_within : room ≤ length l.marks
  pub from_within : room ≤ length l.from
  pub event_within : room ≤ length l.event
  pub limit : room ≤ eight.profiles

-- how many entries an answer says there are, and whether it says that there was no room for one more
abbrev pub counted_in : Result ℕ Full → ℕ
counted_in (Ok n) = n
counted_in (Err full) = full.count

abbrev pub is_full : Result ℕ Full → Bool
is_full (Ok n) = false
is_full (Err full) = true

-- the answer with the count that a table has
abbrev pub counting : {A : Type 0} → ℕ → Result A Full → Result ℕ Full
counting n (Ok x) = Ok n
counting n (Err full) = Err full

-- the table t stands in the slices, which were old and are now new: its entries and then what stood there before; answer says how many
-- there are, and whether it is cut
pub record Fills {Value Slices : Type 0} (write : List (Entry Value) → Slices → Slices) (room : ℕ) (t : Table Value) (old new : Slices)
    (answer : Result ℕ Full) : Type 0 where
  pub slices : new ≡ write t.entries old
  pub count : counted_in answer ≡ length t.entries
  pub cut : is_full answer ≡ t.cut
  pub within : counted_in answer ≤ room
