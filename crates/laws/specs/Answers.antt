-- Document 01, "Numbers given back": what each call answers, and what every lent slice holds afterwards. An answer names the entries
-- that now stand in the lent slices: a count is how many there are, and past it everything is as it was.
use Rattle.std.specs.Prelude.{ℕ, zero, suc, min, ◌≤◌, ◌≡◌, Bool, true, false, ◌||◌, List, [], ◌++◌, map, length, get_or, take, drop, ltb}
use Rattle.std.proofs.Math.Option.{Option, none, some}
use Rattle.laws.specs.Words.{Word}
use Rattle.laws.specs.Model.{Machine, Kind, Model, machine, Accepted}
use Rattle.laws.specs.Tables.{Entry, Table}
use Rattle.laws.specs.Profiles.{Profile, Verdict, covered, uncovered, values, verdict, set_table, profile_table}
use Rattle.laws.specs.Opposite.{Arrow, block_profiles, arrows, flags, state_count, arrow_count}
use Rattle.laws.specs.Refusals.{first_of, model_checks, course_checks}
use Rattle.laws.specs.File.{Reading}

-- the slices lent for sets, for profiles, and for the opposite
pub record SetSlices : Type 0 where
  pub masks : List ℕ
  pub from : List ℕ
  pub event : List ℕ

pub record ProfileSlices : Type 0 where
  pub arrows : List ℕ
  pub marks : List ℕ
  pub from : List ℕ
  pub event : List ℕ

pub record OppositeSlices : Type 0 where
  pub from : List ℕ
  pub event : List ℕ
  pub to : List ℕ
  pub flags : List ℕ

-- THE ROOM of each: the least of its slices and the limit
unfoldable pub room_for_sets : Kind → SetSlices → ℕ
room_for_sets K l = min (min (length l.masks) (min (length l.from) (length l.event))) K.sets

unfoldable pub room_for_profiles : Kind → ProfileSlices → ℕ
room_for_profiles K l =
    min (min (min (length l.arrows) (length l.marks)) (min (length l.from) (length l.event))) K.profiles

-- the limit of the opposite's states and of its arrows
abbrev pub opposite_limit : ℕ
opposite_limit = 65535

unfoldable pub room_for_states : OppositeSlices → ℕ
room_for_states l = min (length l.flags) opposite_limit

unfoldable pub room_for_arrows : OppositeSlices → ℕ
room_for_arrows l = min (min (length l.from) (min (length l.event) (length l.to))) opposite_limit

-- WHAT A SLICE HOLDS after xs was written to its beginning: xs, then what stood there before
unfoldable pub over : List ℕ → List ℕ → List ℕ
over xs old = xs ++ drop (length xs) old

-- past the first count places everything is as it was, and the slice is as long as it was
pub record Kept (count : ℕ) (old new : List ℕ) : Type 0 where
  pub as_long : length new ≡ length old
  pub past : (i : ℕ) → count ≤ i → get_or new i 0 ≡ get_or old i 0

-- the slices after entries or arrows were written to their beginnings
unfoldable pub set_slices : List (Entry ℕ) → SetSlices → SetSlices
set_slices es l =
    record {
      masks = over (values es) l.masks;
      from = over (map (λ e. e.from) es) l.from;
      event = over (map (λ e. e.event) es) l.event;
    }

unfoldable pub profile_slices : List (Entry Profile) → ProfileSlices → ProfileSlices
profile_slices es l =
    record {
      arrows = over (map (λ t. t.arrows) (values es)) l.arrows;
      marks = over (map (λ t. t.marks) (values es)) l.marks;
      from = over (map (λ e. e.from) es) l.from;
      event = over (map (λ e. e.event) es) l.event;
    }

unfoldable pub opposite_slices : List ℕ → List Arrow → OppositeSlices → OppositeSlices
opposite_slices fs es l =
    record {
      from = over (map (λ e. e.from) es) l.from;
      event = over (map (λ e. e.event) es) l.event;
      to = over (map (λ e. e.to) es) l.to;
      flags = over fs l.flags;
    }

-- CLOSING: the number, and the sets and profiles that now stand in the lent slices
pub record ClosingAnswer : Type 0 where
  pub number : ℕ
  pub sets : List (Entry ℕ)
  pub profiles : List (Entry Profile)

-- a refused model enters nothing; with too little room for sets the sets fill it; with too little for profiles all sets are there, and the
-- profiles fill theirs
unfoldable pub closing_answer : Kind → Model → ℕ → ℕ → ClosingAnswer
closing_answer K m set_room profile_room =
    let M : Machine ℕ = machine K.states m in
    let S : Table ℕ = set_table K.states M m.k set_room in
    let T : Table Profile = profile_table K.states M m.k profile_room in
    elim (first_of (model_checks K m)).number [
      | suc r ↦ record { number = suc r; sets = []; profiles = [] }
      | zero ↦
          elim S.cut [
            | true ↦ record { number = 4; sets = S.entries; profiles = [] }
            | false ↦
                elim T.cut [
                  | true ↦ record { number = 5; sets = S.entries; profiles = T.entries }
                  | false ↦ record { number = 0; sets = S.entries; profiles = T.entries }
                ]
          ]
    ]

-- THE SAME AS DOCUMENT 01 LISTS IT, when sets and profiles are all there are: 4 exactly if there are more sets than room, then 5 exactly if
-- there are more profiles than room
unfoldable pub closing_of : Kind → Model → ℕ → ℕ → List (Entry ℕ) → List (Entry Profile) → ClosingAnswer
closing_of K m set_room profile_room sets profiles =
    elim (first_of (model_checks K m)).number [
      | suc r ↦ record { number = suc r; sets = []; profiles = [] }
      | zero ↦
          elim (ltb set_room (length sets)) [
            | true ↦ record { number = 4; sets = take set_room sets; profiles = [] }
            | false ↦
                elim (ltb profile_room (length profiles)) [
                  | true ↦ record { number = 5; sets = sets; profiles = take profile_room profiles }
                  | false ↦ record { number = 0; sets = sets; profiles = profiles }
                ]
          ]
    ]

-- THE VERDICT: the number, what stands in the tables, and the verdict, which is given with number 0 only
pub record VerdictAnswer : Type 0 where
  pub number : ℕ
  pub sets : List (Entry ℕ)
  pub profiles : List (Entry Profile)
  pub verdict : Option Verdict

-- u and v of an answer; "covered" and a refusal have two empty words
unfoldable pub u_and_v : Option Verdict → Word × Word
u_and_v none = ([], [])
u_and_v (some covered) = ([], [])
u_and_v (some (uncovered u v)) = (u, v)

-- what goes to the word memory: u and then v
unfoldable pub words : Option Verdict → Word
words r = (u_and_v r).0 ++ (u_and_v r).1

-- the verdict's answer from that of closing: its refusal; 6 where there is less room than u and v have letters; else 0 and the verdict
unfoldable pub verdict_from : ℕ → ClosingAnswer → ℕ → VerdictAnswer
verdict_from W c word_room =
    let r : Option Verdict = some (verdict W c.sets c.profiles) in
    elim c.number [
      | suc n ↦ record { number = suc n; sets = c.sets; profiles = c.profiles; verdict = none }
      | zero ↦
          elim (ltb word_room (length (words r))) [
            | true ↦ record { number = 6; sets = c.sets; profiles = c.profiles; verdict = none }
            | false ↦ record { number = 0; sets = c.sets; profiles = c.profiles; verdict = r }
          ]
    ]

unfoldable pub verdict_answer : Kind → Model → ℕ → ℕ → ℕ → VerdictAnswer
verdict_answer K m set_room profile_room word_room = verdict_from K.states (closing_answer K m set_room profile_room) word_room

-- THE OPPOSITE: the number, what stands in the tables, and the opposite's flags and arrows, none of them after a refusal
pub record OppositeAnswer : Type 0 where
  pub number : ℕ
  pub sets : List (Entry ℕ)
  pub profiles : List (Entry Profile)
  pub flags : List ℕ
  pub arrows : List Arrow

-- the opposite's answer from that of closing, for a machine M over k events: its refusal; 7 where the counted states or arrows exceed their
-- room; else 0 and the opposite
unfoldable pub opposite_from : ℕ → Machine ℕ → ℕ → ClosingAnswer → ℕ → ℕ → OppositeAnswer
opposite_from W M k c state_room arrow_room =
    let Ps : List ℕ = values c.sets in
    let ts : List Profile = values c.profiles in
    let bs : List Profile = block_profiles W Ps ts in
    elim c.number [
      | suc n ↦ record { number = suc n; sets = c.sets; profiles = c.profiles; flags = []; arrows = [] }
      | zero ↦
          elim (ltb state_room (state_count Ps ts bs) || ltb arrow_room (arrow_count W M k Ps ts bs)) [
            | true ↦ record { number = 7; sets = c.sets; profiles = c.profiles; flags = []; arrows = [] }
            | false ↦ record { number = 0; sets = c.sets; profiles = c.profiles; flags = flags Ps ts bs; arrows = arrows W M k Ps ts bs }
          ]
    ]

unfoldable pub opposite_answer : Kind → Model → ℕ → ℕ → ℕ → ℕ → OppositeAnswer
opposite_answer K m set_room profile_room state_room arrow_room =
    opposite_from K.states (machine K.states m) m.k (closing_answer K m set_room profile_room) state_room arrow_room

-- THE CALLS THAT FILL TABLES, with their lent slices, the word memory as it is lent
unfoldable pub closing_in : Kind → Model → SetSlices → ProfileSlices → ClosingAnswer
closing_in K m S T = closing_answer K m (room_for_sets K S) (room_for_profiles K T)

unfoldable pub verdict_in : Kind → Model → SetSlices → ProfileSlices → List ℕ → VerdictAnswer
verdict_in K m S T memory = verdict_answer K m (room_for_sets K S) (room_for_profiles K T) (length memory)

unfoldable pub opposite_in : Kind → Model → SetSlices → ProfileSlices → OppositeSlices → OppositeAnswer
opposite_in K m S T O = opposite_answer K m (room_for_sets K S) (room_for_profiles K T) (room_for_states O) (room_for_arrows O)

-- the word memory after the verdict
unfoldable pub word_memory : VerdictAnswer → List ℕ → List ℕ
word_memory answer old = over (words answer.verdict) old

-- ONE COURSE: the number and whether the course is accepted, which is said with number 0 only
pub record CourseAnswer (K : Kind) (m : Model) (u v : Word) (number : ℕ) (accepted : Bool) : Type 0 where
  pub number_is : number ≡ (first_of (course_checks K m u v)).number
  pub yes_with_0 : accepted ≡ true → number ≡ 0
  pub yes_only_if : accepted ≡ true → Accepted (machine K.states m) u v
  pub yes_if : number ≡ 0 → Accepted (machine K.states m) u v → accepted ≡ true

-- THE FILE READER: its slice of arrows afterwards. Number, offset, n, k and masks are those of the reading
unfoldable pub arrow_slice : Reading → List ℕ → List ℕ
arrow_slice r old = over r.model.arrows old
