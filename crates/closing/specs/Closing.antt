-- What closing a model into lent slices ensures, for every model and every slice: the answer and all memory, and demand 2's list.
use Rattle.std.specs.Prelude.{◌≡◌, List, ℕ, length, Result, Ok, Err}
use Rattle.laws.specs.Model.{eight, machine}
use Rattle.laws.specs.Tables.{Entry}
use Rattle.laws.specs.Profiles as paper
use Rattle.laws.specs.Answers.{SetSlices, ProfileSlices, room_for_sets, room_for_profiles, set_slices, profile_slices}
use Rattle.laws.specs.Answers.{ClosingAnswer, closing_in, closing_of}
use Rattle.model.specs.Asked.{asked}
use Rattle.closing.specs.Memory.{sets_in, profiles_in}
use Rattle.model.specs.declared.Model.{Model}
use Rattle.model.specs.Numbers.{number_of}
use Rattle.closing.specs.declared.Complete.{Complete}
use Rattle.closing.specs.declared.Refused.{Refused}

-- what closing tells: document 01's number, and both counts
pub record Closed : Type 0 where
  pub number : ℕ
  pub sets : ℕ
  pub profiles : ℕ

-- THE NUMBER AND THE VALUES of its answer
abbrev pub told : Result Complete Refused → Closed
told (Ok x) = record { number = 0; sets = x.sets; profiles = x.profiles }
told (Err x) = record { number = number_of x.refusal; sets = x.sets; profiles = x.profiles }

module _ (m : Model) (arrows : List ℕ) where
  -- the entries hold all sets, or all profiles, that words over the model's events have: each once, in document 01's order
  abbrev pub AllSets : List (Entry ℕ) → Type 0
  AllSets entries = paper.HoldsSets 8 (machine 8 (asked m arrows)) m.k entries

  abbrev pub AllProfiles : List (Entry paper.Profile) → Type 0
  AllProfiles entries = paper.HoldsProfiles 8 (machine 8 (asked m arrows)) m.k entries

  -- the answer of document 01 for these slices
  abbrev pub due : SetSlices → ProfileSlices → ClosingAnswer
  due S T = closing_in eight (asked m arrows) S T

  -- THE CONTRACT OF CLOSING: S and T are the slices as they were lent, S' and T' as they are left
  pub record Closing (S S' : SetSlices) (T T' : ProfileSlices) (answer : Closed) : Type 0 where
    -- the number and both counts
    pub number : answer.number ≡ (due S T).number
    pub sets : answer.sets ≡ length (due S T).sets
    pub profiles : answer.profiles ≡ length (due S T).profiles
    -- every lent slice: what was entered, then what stood there before
    pub set_slices_are : S' ≡ set_slices (due S T).sets S
    pub profile_slices_are : T' ≡ profile_slices (due S T).profiles T
    -- said by complete lists: there are all sets and all profiles, and the answer is what document 01 lists for them. It is 4 exactly if
    -- there are more sets than room, and otherwise 5 exactly if there are more profiles than room
    pub all_sets : List (Entry ℕ)
    pub sets_are_all : AllSets all_sets
    pub all_profiles : List (Entry paper.Profile)
    pub profiles_are_all : AllProfiles all_profiles
    pub listed : due S T ≡ closing_of eight (asked m arrows) (room_for_sets eight S) (room_for_profiles eight T) all_sets all_profiles
    -- DEMAND 2: after 0 the stored sets are all that words have, and the stored profiles all that non-empty words have
    pub all_sets_stored : answer.number ≡ 0 → AllSets (sets_in S' answer.sets)
    pub all_profiles_stored : answer.number ≡ 0 → AllProfiles (profiles_in T' answer.profiles)
