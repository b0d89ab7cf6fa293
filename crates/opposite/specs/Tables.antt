-- The tables that the opposite is made from, as its code has them: profiles in two slices, and beside them a byte for each that says
-- whether it has a block.
use Rattle.std.specs.Prelude.{ℕ, Bool, not, ◌&&◌, cond, List, [], ◌∷◌, eqb}
use Rattle.laws.specs.Profiles.{Profile, same_profile, join, image, marks_a_round}

-- the profiles in a slice of arrows and a slice of marks
unfoldable pub profiles_at : List ℕ → List ℕ → List Profile
profiles_at [] marks = []
profiles_at (a ∷ arrows) [] = []
profiles_at (a ∷ arrows) (m ∷ marks) = record { arrows = a; marks = m } ∷ profiles_at arrows marks

-- the profiles beside which there is a 1
unfoldable pub keep_by : List ℕ → List Profile → List Profile
keep_by [] ts = []
keep_by (b ∷ blocks) [] = []
keep_by (b ∷ blocks) (t ∷ ts) = cond (eqb b 1) (t ∷ keep_by blocks ts) (keep_by blocks ts)

-- a set other than the empty one, which t leads exactly to itself, and no state of it back to itself with a mark: with a t that joined with
-- itself is t, the pair rejects
unfoldable pub remains_unmarked : ℕ → ℕ → Profile → Bool
remains_unmarked W P t = not (eqb P 0) && (eqb (image W P t) P && not (marks_a_round W P t))

-- joined with itself it is itself
unfoldable pub is_idempotent : ℕ → Profile → Bool
is_idempotent W t = same_profile (join W t t) t
