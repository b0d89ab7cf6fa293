-- What the numbers of refusals are: none is 0, and no two refusals have the same.
use Prim.Native.Nat.{ℕ, suc}
use mathlib.Core.Path.{◌≡◌, refl, sym, ap, ◌∙◌}
use mathlib.Core.List.{[], ◌∷◌}
use lib.ListN.{get_or}
use Rattle.model.specs.declared.refusals.Refusal.{Refusal}
use Rattle.model.specs.declared.refusals.Refusal.TheVariants.{OutsideRange, FewArrows, MissingState, MoreSets, MoreProfiles, FewLetters, MoreArrows, BrokenForm, MissingEvent, EmptyRound}
use Rattle.model.specs.Numbers.{number_of}

-- each has a number from 1 on
pub number_from_1 : (r : Refusal) → (n : ℕ) × (number_of r ≡ suc n)
number_from_1 OutsideRange = (0, refl)
number_from_1 FewArrows = (1, refl)
number_from_1 MissingState = (2, refl)
number_from_1 MoreSets = (3, refl)
number_from_1 MoreProfiles = (4, refl)
number_from_1 FewLetters = (5, refl)
number_from_1 MoreArrows = (6, refl)
number_from_1 BrokenForm = (7, refl)
number_from_1 MissingEvent = (8, refl)
number_from_1 EmptyRound = (9, refl)

-- NO REFUSAL has the number 0
pub some_number : (r : Refusal) → number_of r ≡ 0 → ⊥
some_number r e = let (n, is) = number_from_1 r in cc

-- the refusals by their numbers; 0 is no refusal's
with_number : ℕ → Refusal
with_number n =
    get_or
    (OutsideRange ∷ OutsideRange ∷ FewArrows ∷ MissingState ∷ MoreSets ∷ MoreProfiles ∷ FewLetters ∷ MoreArrows ∷ BrokenForm ∷ MissingEvent ∷ EmptyRound ∷ [])
    n OutsideRange

by_number : (r : Refusal) → with_number (number_of r) ≡ r
unfolding with_number
by_number OutsideRange = refl
by_number FewArrows = refl
by_number MissingState = refl
by_number MoreSets = refl
by_number MoreProfiles = refl
by_number FewLetters = refl
by_number MoreArrows = refl
by_number BrokenForm = refl
by_number MissingEvent = refl
by_number EmptyRound = refl

-- NO TWO REFUSALS have the same number
pub one_number : (r s : Refusal) → number_of r ≡ number_of s → r ≡ s
one_number r s e = sym (by_number r) ∙ ap with_number e ∙ by_number s
