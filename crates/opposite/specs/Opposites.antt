-- What the opposite ensures, for every model and every slice: the answer, all memory, and demand 3.
use Rattle.std.specs.Prelude.{ℕ, ◌<◌, ◌≡◌, Bool, true, false, ◌⊎◌, ◌↔◌, List, length, eqb, Result, Ok, Err}
use Rattle.laws.specs.Model.{eight, machine}
use Rattle.laws.specs.Profiles.{values}
use Rattle.laws.specs.Opposite.{block_profiles, state_count, arrow_count, written, Opposed}
use Rattle.laws.specs.Answers.{SetSlices, ProfileSlices, OppositeSlices, room_for_states, room_for_arrows, opposite_slices, OppositeAnswer, opposite_in}
use Rattle.model.specs.Asked.{asked}
use Rattle.model.specs.declared.Model.{Model}
use Rattle.closing.specs.Memory.{sets_in, profiles_in}
use Rattle.model.specs.Numbers.{number_of}
use Rattle.closing.specs.Closing.{Closed, Closing}
use Rattle.closing.specs.declared.Refused.{Refused}
use Rattle.opposite.specs.Memory.{arrows_in, flags_in}
use Rattle.opposite.specs.declared.Written.{Written}

-- what an answer tells: document 01's number, whether an opposite was written, the counts of both tables, and those of the opposite
pub record Told : Type 0 where
  pub number : ℕ
  pub written : Bool
  pub sets : ℕ
  pub profiles : ℕ
  pub states : ℕ
  pub arrows : ℕ

-- THE NUMBER AND THE VALUES of each case of the answer
unfoldable pub told : Result Written Refused → Told
told (Ok x) = record { number = 0; written = true; sets = x.sets; profiles = x.profiles; states = x.states; arrows = x.arrows }
told (Err x) = record { number = number_of x.refusal; written = false; sets = x.sets; profiles = x.profiles; states = 0; arrows = 0 }

-- what document 01's answer tells
unfoldable pub tells : OppositeAnswer → Told
tells d =
    record {
      number = d.number;
      written = eqb d.number 0;
      sets = length d.sets;
      profiles = length d.profiles;
      states = length d.flags;
      arrows = length d.arrows;
    }

-- document 01's count of states, from the first so many sets and profiles in the slices
unfoldable pub states_of : SetSlices → ProfileSlices → Closed → ℕ
states_of S T c =
    let Ps : List ℕ = values (sets_in S c.sets) in
    let ts = values (profiles_in T c.profiles) in
    state_count Ps ts (block_profiles 8 Ps ts)

module _ (m : Model) (arrows : List ℕ) where
  -- and of arrows, for the model and the lent numbers
  unfoldable pub arrows_of : SetSlices → ProfileSlices → Closed → ℕ
  arrows_of S T c =
      let Ps : List ℕ = values (sets_in S c.sets) in
      let ts = values (profiles_in T c.profiles) in
      arrow_count 8 (machine 8 (asked m arrows)) m.k Ps ts (block_profiles 8 Ps ts)

  -- the answer of document 01 for these slices
  abbrev pub due : SetSlices → ProfileSlices → OppositeSlices → OppositeAnswer
  due S T O = opposite_in eight (asked m arrows) S T O

  -- THE CONTRACT OF THE OPPOSITE: S, T and O are as they were lent, S', T' and O' as they are left
  pub record WritesOpposite (S S' : SetSlices) (T T' : ProfileSlices) (O O' : OppositeSlices) (answer : Result Written Refused) : Type 0 where
    -- what closing answers here, and by its contract what stands in the slices of sets and profiles
    pub closed : Closed
    pub closing : Closing m arrows S S' T T' closed
    -- the number and the counts
    pub answered : told answer ≡ tells (due S T O)
    -- the four slices of the opposite: its flags and arrows, then what stood there before
    pub opposite_slices_are : O' ≡ opposite_slices (due S T O).flags (due S T O).arrows O
    -- 7 exactly if closing has no refusal, and the states or the arrows counted from the sets and profiles that now stand in their slices
    -- exceed the room of theirs
    pub refused_7 : ((told answer).number ≡ 7)
        ↔ ((closed.number ≡ 0) × ((room_for_states O < states_of S' T' closed) ⊎ (room_for_arrows O < arrows_of S' T' closed)))
    -- with number 0 these are the counts that are told
    pub counted : (told answer).number ≡ 0
        → ((told answer).states ≡ states_of S' T' closed) × ((told answer).arrows ≡ arrows_of S' T' closed)
    -- DEMAND 3: with number 0, of every course exactly one of the model and the machine that now stands in the slices accepts
    pub opposed : (told answer).number ≡ 0
        → Opposed (machine 8 (asked m arrows)) (written (flags_in O' (told answer).states) (arrows_in O' (told answer).arrows)) m.k
