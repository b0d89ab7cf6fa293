-- What the search for a rejecting pair finds, in the slices of masks, arrows and marks.
use Rattle.std.specs.Prelude.{ℕ, ◌<◌, ◌≡◌, Bool, true, false, Option, Some, None, List, length, get_or}
use Rattle.laws.specs.Profiles.{is_rejecting_pair}
use Rattle.cover.specs.declared.pairs.Pair.{Pair}

module _ (masks arrows marks : List ℕ) where
  -- set number i and profile number j reject
  unfoldable pub rejects : ℕ → ℕ → Bool
  rejects i j = is_rejecting_pair 8 (get_or masks i 0) (record { arrows = get_or arrows j 0; marks = get_or marks j 0 })

  -- no profile below j rejects with set i, and none at all with a set below i
  pub record NoneBefore (i j : ℕ) : Type 0 where
    pub earlier_set : (l m : ℕ) → l < i → m < length arrows → rejects l m ≡ false
    pub earlier_profile : (m : ℕ) → m < j → rejects i m ≡ false

  -- set i and profile j are there and reject, and no pair before them does
  pub record FirstAt (i j : ℕ) : Type 0 where
    pub set_there : i < length masks
    pub profile_there : j < length arrows
    pub rejecting : rejects i j ≡ true
    pub none_before : NoneBefore i j

  -- what was found: no pair rejects, or this is the first that does
  abbrev pub First : Option Pair → Type 0
  First None = (l m : ℕ) → l < length masks → m < length arrows → rejects l m ≡ false
  First (Some p) = FirstAt p.set p.profile
