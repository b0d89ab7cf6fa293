-- What stands in the slices of a table, for those who read them: a column, and the entries.
use Prim.Native.Nat.{ℕ, ◌<◌}
use native.Mathlib.Omega.{arith}
use mathlib.Core.Path.{◌≡◌, sym, ◌∙◌}
use mathlib.Core.List.{List}
use lib.ListN.{take}
use lib.Seq.{get_or-take}
use Rattle.laws.proofs.Booleans.{inside}
use Rattle.laws.proofs.Places.{place_below}
use Rattle.closing.specs.Memory.{entries_in}
pub use Rattle.closing.specs.Columns.{read_are, column_at, entries_length, entries_at, entries_are}

-- the first n places of the slices have the entries that all places have
pub entries_part : {Value : Type 0} (here there : ℕ → Value) (from event : List ℕ) (n : ℕ) → ((i : ℕ) → i < n → here i ≡ there i)
    → entries_in here (take n from) (take n event) n ≡ entries_in there from event n
entries_part here there from event n same =
    entries_are here (take n from) (take n event) (entries_in there from event n) n (entries_length there from event n)
    (λ i e at.
    let l : i < n = omega (arith, place_below (entries_in there from event n) i at, entries_length there from event n) in
    rw (same i l, get_or-take n from i 0 l, get_or-take n event i 0 l) (inside (sym (entries_at there from event n i l) ∙ at)))
