-- The numbers that are given back for what is refused.
use Rattle.std.specs.Prelude.{ℕ, Result, Ok, Err}
use Rattle.model.specs.declared.refusals.Refusal.{Refusal}
use Rattle.model.specs.declared.refusals.Refusal.TheVariants.{OutsideRange, FewArrows, MissingState, MoreSets, MoreProfiles, FewLetters, MoreArrows, BrokenForm, MissingEvent, EmptyRound}

-- THE NUMBER of each refusal
abbrev pub number_of : Refusal → ℕ
number_of OutsideRange = 1
number_of FewArrows = 2
number_of MissingState = 3
number_of MoreSets = 4
number_of MoreProfiles = 5
number_of FewLetters = 6
number_of MoreArrows = 7
number_of BrokenForm = 8
number_of MissingEvent = 9
number_of EmptyRound = 10

-- and of an answer: 0 where nothing is refused
abbrev pub refused : {A : Type 0} → Result A Refusal → ℕ
refused (Ok x) = 0
refused (Err r) = number_of r
