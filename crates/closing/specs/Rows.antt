-- What the code of both tables goes by, whatever their values: what slices are to a table.
use Rattle.std.specs.Prelude.{ℕ, ◌<◌, ◌≤◌, ◌≡◌, List, length}
use Rattle.std.proofs.Math.Option.{some}
use Rattle.std.proofs.Math.ListN.{get_elem?}
use Rattle.laws.specs.Tables.{Entry}

-- WHAT SLICES ARE TO A TABLE: write puts entries into the first rows, read gives those of the first rows back, in row i stands at i, and
-- room_for says for how many there is room
pub record Layout {Value Slices : Type 0} (write : List (Entry Value) → Slices → Slices) (read : Slices → ℕ → List (Entry Value))
    (at : Slices → ℕ → Entry Value) (room_for : Slices → ℕ) : Type 0 where
  -- writing again, and no fewer entries, is writing at once
  pub again : (ds es : List (Entry Value)) (l : Slices) → length ds ≤ length es → write es (write ds l) ≡ write es l
  -- what was written is read
  pub back : (es : List (Entry Value)) (l : Slices) → read (write es l) (length es) ≡ es
  -- and writing what is read changes nothing
  pub same : (l : Slices) (n : ℕ) → n ≤ room_for l → write (read l n) l ≡ l
  -- as many entries are read as are asked for, each from its row
  pub counted : (l : Slices) (n : ℕ) → length (read l n) ≡ n
  pub each : (l : Slices) (n i : ℕ) → i < n → get_elem? (read l n) i ≡ some (at l i)
  -- writing within the room leaves it as it was
  pub room_kept : (es : List (Entry Value)) (l : Slices) → length es ≤ room_for l → room_for (write es l) ≡ room_for l
  -- an entry's number fits into a slice
  pub small : (l : Slices) → room_for l ≤ 65535
