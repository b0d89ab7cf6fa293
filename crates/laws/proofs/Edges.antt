-- Document 01's edges and more of the same kind, computed of the definitions: every refusal but the file's, the rooms, lent memory, and
-- the order of words. Assumes nothing.
use Prim.Native.Nat.{ℕ, ◌^◌}
use mathlib.Core.Path.{◌≡◌, refl, ap, ◌∙◌}
use mathlib.Core.Bool.{true, false}
use mathlib.Core.List.{List, [], ◌∷◌, ◌++◌, map}
use mathlib.Core.Option.{some}
use lib.ListN.{length, replicate, length-replicate}
use Rattle.laws.specs.Words.{Word, before, power}
use Rattle.laws.specs.Model.{Model, eight}
use Rattle.laws.specs.Profiles.{uncovered}
use Rattle.laws.specs.Refusals.{first_of, course_checks}
use Rattle.laws.specs.Answers.{SetSlices, ProfileSlices, OppositeSlices, room_for_sets, room_for_profiles, room_for_states, room_for_arrows}
use Rattle.laws.specs.Answers.{set_slices, profile_slices, opposite_slices, VerdictAnswer, verdict_answer, opposite_answer, words}
use Rattle.laws.specs.Answers.{closing_in, verdict_in, opposite_in, word_memory}
use Rattle.laws.specs.HandWorked.{◌⇒◌, event, mask, A, C, D}
use Rattle.laws.proofs.Computed.{computed}
use Rattle.laws.proofs.HandWorked.{set, profile, c_set_entries, c_profile_entries, c_flags, c_arrows, c_answers, c_answered}

-- a model with these n, k and masks, and this slice of arrows
given : ℕ → ℕ → ℕ → ℕ → List ℕ → Model
given n k start home arrows = record { n = n; k = k; start = start; home = home; arrows = arrows }

-- the number that the verdict call gives, with the program's room
number_of : Model → ℕ
number_of m = (verdict_answer eight m 256 2048 2304).number

-- n 0 and 9, k 0 and 17: 1, also where the slice is too short and bits name missing states
ranges : map number_of
    (given 0 1 0 0 (0 ∷ []) ∷ given 9 1 0 0 (0 ∷ []) ∷ given 1 0 0 0 (0 ∷ []) ∷ given 1 17 0 0 (0 ∷ []) ∷ given 9 3 255 255 [] ∷ [])
    ≡ 1 ∷ 1 ∷ 1 ∷ 1 ∷ 1 ∷ []
unfolding computed number_of given
ranges = refl

-- the most states and events are not refused
largest : number_of (given 8 16 255 255 (replicate 16 (event (7 ⇒ 7 ∷ [])))) ≡ 0
unfolding computed number_of given
largest = refl

-- a mask and an arrow number beyond the kind's bits name missing states too
too_wide : map number_of (given 8 1 256 0 (0 ∷ []) ∷ given 8 1 0 256 (0 ∷ []) ∷ given 8 1 0 0 (2 ^ 64 ∷ []) ∷ []) ≡ 3 ∷ 3 ∷ 3 ∷ []
unfolding computed number_of given
too_wide = refl

-- a slice shorter than k: 2, before 3; one that is just long enough, or longer, is not refused
short : map number_of
    (given 1 2 0 0 (0 ∷ []) ∷ given 1 1 255 0 [] ∷ given 1 1 0 0 (0 ∷ []) ∷ given 1 1 0 0 (0 ∷ 0 ∷ []) ∷ [])
    ≡ 2 ∷ 2 ∷ 0 ∷ 0 ∷ []
unfolding computed number_of given
short = refl

-- a start bit, a home bit, an arrow's p, an arrow's q at or above n: 3; beyond the first k numbers nothing is read
beyond : map number_of
    (given 2 1 (mask (2 ∷ [])) 0 (0 ∷ [])
    ∷ given 2 1 0 (mask (7 ∷ [])) (0 ∷ [])
    ∷ given 2 1 0 0 (event (2 ⇒ 0 ∷ []) ∷ [])
    ∷ given 2 1 0 0 (event (0 ⇒ 2 ∷ []) ∷ [])
    ∷ given 2 1 0 0 (event (1 ⇒ 7 ∷ []) ∷ [])
    ∷ given 7 2 0 0 (0 ∷ event (7 ⇒ 7 ∷ []) ∷ [])
    ∷ given 2 1 0 0 (0 ∷ event (7 ⇒ 7 ∷ []) ∷ [])
    ∷ [])
    ≡ 3 ∷ 3 ∷ 3 ∷ 3 ∷ 3 ∷ 3 ∷ 0 ∷ []
unfolding computed number_of given
beyond = refl

-- the number, how many sets and profiles stand in the tables, and how many letters in the word memory
counts : Model → ℕ → ℕ → ℕ → List ℕ
counts m room_s room_t room_w =
    let j = verdict_answer eight m room_s room_t room_w in
    j.number ∷ length j.sets ∷ length j.profiles ∷ length (words j.verdict) ∷ []

-- C needs 2 sets, 3 profiles and 1 byte of word memory
c_rooms : counts C 0 3 1 ∷ counts C 1 0 0 ∷ counts C 2 0 0 ∷ counts C 2 2 0 ∷ counts C 2 3 0 ∷ counts C 2 3 1 ∷ []
    ≡ (4 ∷ 0 ∷ 0 ∷ 0 ∷ [])
    ∷ (4 ∷ 1 ∷ 0 ∷ 0 ∷ [])
    ∷ (5 ∷ 2 ∷ 0 ∷ 0 ∷ [])
    ∷ (5 ∷ 2 ∷ 2 ∷ 0 ∷ [])
    ∷ (6 ∷ 2 ∷ 3 ∷ 0 ∷ [])
    ∷ (0 ∷ 2 ∷ 3 ∷ 1 ∷ [])
    ∷ []
unfolding computed counts
c_rooms = refl

-- "covered" needs no word memory; D needs 2 bytes
word_rooms : counts A 1 1 0 ∷ counts D 2 1 1 ∷ counts D 2 1 2 ∷ []
    ≡ (0 ∷ 1 ∷ 1 ∷ 0 ∷ []) ∷ (6 ∷ 2 ∷ 1 ∷ 0 ∷ []) ∷ (0 ∷ 2 ∷ 1 ∷ 2 ∷ []) ∷ []
unfolding computed counts
word_rooms = refl

-- the number, and how many states and arrows were written
opposites : Model → ℕ → ℕ → List ℕ
opposites m room_states room_arrows =
    let o = opposite_answer eight m 256 2048 room_states room_arrows in
    o.number ∷ length o.flags ∷ length o.arrows ∷ []

-- C's opposite needs room for 6 states and 16 arrows
c_opposites : opposites C 6 15 ∷ opposites C 5 16 ∷ opposites C 6 16 ∷ []
    ≡ (7 ∷ 0 ∷ 0 ∷ []) ∷ (7 ∷ 0 ∷ 0 ∷ []) ∷ (0 ∷ 6 ∷ 16 ∷ []) ∷ []
unfolding opposites c_answers c_flags c_arrows
c_opposites = rw (c_answered 6 15, c_answered 5 16, c_answered 6 16)

-- one course: 10 before 9, and 1, 2 and 3 before both
course_number : Model → Word → Word → ℕ
course_number m u v = (first_of (course_checks eight m u v)).number

courses : course_number C [] (1 ∷ []) ∷ course_number C [] []
    ∷ course_number C (2 ∷ []) [] ∷ course_number C (2 ∷ []) (0 ∷ []) ∷ course_number C [] (0 ∷ 2 ∷ [])
    ∷ course_number (given 9 1 0 0 (0 ∷ [])) [] [] ∷ course_number (given 1 1 0 0 []) [] [] ∷ course_number (given 1 1 2 0 (0 ∷ [])) [] [] ∷ []
    ≡ 0 ∷ 10 ∷ 10 ∷ 9 ∷ 9 ∷ 1 ∷ 2 ∷ 3 ∷ []
unfolding computed course_number given
courses = refl

-- the order of words: the shorter first, then the lower at the first difference; no word is before itself
order : before [] (0 ∷ []) ∷ before (9 ∷ []) (0 ∷ 0 ∷ [])
    ∷ before (0 ∷ 9 ∷ []) (1 ∷ 0 ∷ []) ∷ before (1 ∷ 0 ∷ []) (0 ∷ 9 ∷ [])
    ∷ before (2 ∷ 0 ∷ []) (2 ∷ 1 ∷ []) ∷ before (0 ∷ 0 ∷ []) (9 ∷ [])
    ∷ before (3 ∷ 1 ∷ []) (3 ∷ 1 ∷ [])
    ∷ []
    ≡ true ∷ true ∷ true ∷ false ∷ true ∷ false ∷ false ∷ []
unfolding computed
order = refl

-- a word three times; not at all
powers : power 3 (0 ∷ 1 ∷ []) ++ power 0 (5 ∷ []) ≡ 0 ∷ 1 ∷ 0 ∷ 1 ∷ 0 ∷ 1 ∷ []
unfolding computed
powers = refl

-- so many entries of lent memory
lent : ℕ → List ℕ
lent size = replicate size 9

lent_length : (size : ℕ) → length (lent size) ≡ size
unfolding lent
lent_length size = length-replicate size 9

-- the room is the least of the slices, whichever that is, and the limit where all are longer
set_rooms : map (room_for_sets eight)
    (record { masks = lent 3; from = lent 4; event = lent 5 }
    ∷ record { masks = lent 5; from = lent 3; event = lent 4 }
    ∷ record { masks = lent 4; from = lent 5; event = lent 3 }
    ∷ record { masks = lent 257; from = lent 300; event = lent 400 }
    ∷ [])
    ≡ 3 ∷ 3 ∷ 3 ∷ 256 ∷ []
unfolding room_for_sets
set_rooms = simp lent_length

profile_rooms : map (room_for_profiles eight)
    (record { arrows = lent 3; marks = lent 4; from = lent 5; event = lent 6 }
    ∷ record { arrows = lent 6; marks = lent 3; from = lent 4; event = lent 5 }
    ∷ record { arrows = lent 5; marks = lent 6; from = lent 3; event = lent 4 }
    ∷ record { arrows = lent 4; marks = lent 5; from = lent 6; event = lent 3 }
    ∷ record { arrows = lent 2049; marks = lent 2050; from = lent 2051; event = lent 2052 }
    ∷ [])
    ≡ 3 ∷ 3 ∷ 3 ∷ 3 ∷ 2048 ∷ []
unfolding room_for_profiles
profile_rooms = simp lent_length

opposite_rooms : map room_for_arrows
    (record { from = lent 3; event = lent 4; to = lent 5; flags = [] }
    ∷ record { from = lent 5; event = lent 3; to = lent 4; flags = [] }
    ∷ record { from = lent 4; event = lent 5; to = lent 3; flags = [] }
    ∷ record { from = lent 65536; event = lent 65536; to = lent 65536; flags = [] }
    ∷ [])
    ++ map room_for_states
    (record { from = []; event = []; to = []; flags = lent 7 } ∷ record { from = []; event = []; to = []; flags = lent 65536 } ∷ [])
    ≡ 3 ∷ 3 ∷ 3 ∷ 65535 ∷ 7 ∷ 65535 ∷ []
unfolding room_for_arrows room_for_states
opposite_rooms = simp lent_length

-- C's verdict in lent memory with four sets, five profiles and three bytes of room: what was written, and then what stood there
lent_sets : SetSlices
lent_sets = record { masks = lent 4; from = lent 4; event = lent 5 }

lent_profiles : ProfileSlices
lent_profiles = record { arrows = lent 5; marks = lent 5; from = lent 6; event = lent 5 }

-- the set slices, the profile slices and the word memory after the verdict
after_verdict : VerdictAnswer → List ℕ → SetSlices × ProfileSlices × List ℕ
after_verdict answer memory = (set_slices answer.sets lent_sets, profile_slices answer.profiles lent_profiles, word_memory answer memory)

c_judged : VerdictAnswer
c_judged = record { number = 0; sets = c_set_entries; profiles = c_profile_entries; verdict = some (uncovered [] (1 ∷ [])) }

c_in_room : verdict_in eight C lent_sets lent_profiles (lent 3) ≡ c_judged
unfolding computed lent lent_sets lent_profiles c_set_entries c_profile_entries set profile c_judged
c_in_room = refl

c_in_memory : after_verdict (verdict_in eight C lent_sets lent_profiles (lent 3)) (lent 3)
    ≡ (
      record { masks = 1 ∷ 2 ∷ 9 ∷ 9 ∷ []; from = 65535 ∷ 0 ∷ 9 ∷ 9 ∷ []; event = 255 ∷ 0 ∷ 9 ∷ 9 ∷ 9 ∷ [] },
      record {
        arrows = 514 ∷ 257 ∷ 257 ∷ 9 ∷ 9 ∷ [];
        marks = 514 ∷ 0 ∷ 257 ∷ 9 ∷ 9 ∷ [];
        from = 65535 ∷ 65535 ∷ 0 ∷ 9 ∷ 9 ∷ 9 ∷ [];
        event = 0 ∷ 1 ∷ 1 ∷ 9 ∷ 9 ∷ [];
      },
      1 ∷ 9 ∷ 9 ∷ [],
    )
unfolding computed lent lent_sets lent_profiles after_verdict c_set_entries c_profile_entries set profile c_judged
c_in_memory = ap (λ answer. after_verdict answer (lent 3)) c_in_room ∙ refl

-- D needs two bytes of word memory: with one, the tables are complete and the memory is untouched
d_words : after_verdict (verdict_in eight D lent_sets lent_profiles (lent 1)) (lent 1)
    ≡ (
      record { masks = 1 ∷ 0 ∷ 9 ∷ 9 ∷ []; from = 65535 ∷ 0 ∷ 9 ∷ 9 ∷ []; event = 255 ∷ 0 ∷ 9 ∷ 9 ∷ 9 ∷ [] },
      record {
        arrows = 0 ∷ 9 ∷ 9 ∷ 9 ∷ 9 ∷ [];
        marks = 0 ∷ 9 ∷ 9 ∷ 9 ∷ 9 ∷ [];
        from = 65535 ∷ 9 ∷ 9 ∷ 9 ∷ 9 ∷ 9 ∷ [];
        event = 0 ∷ 9 ∷ 9 ∷ 9 ∷ 9 ∷ [];
      },
      9 ∷ [],
    )
unfolding computed lent lent_sets lent_profiles after_verdict
d_words = refl

-- each call goes by the room of its own slices: D needs 2 sets, 1 profile, 2 bytes, 2 states and 2 arrows
one_set : SetSlices
one_set = record { masks = lent 4; from = lent 4; event = lent 1 }

no_profile : ProfileSlices
no_profile = record { arrows = lent 4; marks = lent 0; from = lent 4; event = lent 4 }

d_closing : (closing_in eight D one_set lent_profiles).number
    ∷ (closing_in eight D lent_sets no_profile).number
    ∷ (closing_in eight D lent_sets lent_profiles).number
    ∷ []
    ≡ 4 ∷ 5 ∷ 0 ∷ []
unfolding computed lent lent_sets lent_profiles one_set no_profile
d_closing = refl

d_verdict : (verdict_in eight D one_set lent_profiles (lent 2)).number
    ∷ (verdict_in eight D lent_sets no_profile (lent 2)).number
    ∷ (verdict_in eight D lent_sets lent_profiles (lent 1)).number
    ∷ (verdict_in eight D lent_sets lent_profiles (lent 2)).number
    ∷ []
    ≡ 4 ∷ 5 ∷ 6 ∷ 0 ∷ []
unfolding computed lent lent_sets lent_profiles one_set no_profile
d_verdict = refl

-- the opposite's slices with room for so many arrows and states
opposite_lent : ℕ → ℕ → OppositeSlices
opposite_lent arrows states = record { from = lent arrows; event = lent 3; to = lent 3; flags = lent states }

d_opposites : (opposite_in eight D one_set lent_profiles (opposite_lent 2 2)).number
    ∷ (opposite_in eight D lent_sets no_profile (opposite_lent 2 2)).number
    ∷ (opposite_in eight D lent_sets lent_profiles (opposite_lent 1 2)).number
    ∷ (opposite_in eight D lent_sets lent_profiles (opposite_lent 2 1)).number
    ∷ (opposite_in eight D lent_sets lent_profiles (opposite_lent 2 2)).number
    ∷ []
    ≡ 4 ∷ 5 ∷ 7 ∷ 7 ∷ 0 ∷ []
unfolding computed lent lent_sets lent_profiles one_set no_profile opposite_lent
d_opposites = refl

-- u first
u_first : words (some (uncovered (1 ∷ 2 ∷ []) (3 ∷ []))) ≡ 1 ∷ 2 ∷ 3 ∷ []
unfolding computed
u_first = refl

-- D's opposite in lent memory; with one state of room nothing of it is written
d_memory : OppositeSlices → OppositeSlices
d_memory l = let o = opposite_in eight D lent_sets lent_profiles l in opposite_slices o.flags o.arrows l

d_in_memory : d_memory (record { from = lent 3; event = lent 3; to = lent 2; flags = lent 4 })
    ≡ record { from = 0 ∷ 1 ∷ 9 ∷ []; event = 0 ∷ 0 ∷ 9 ∷ []; to = 1 ∷ 1 ∷ []; flags = 0 ∷ 1 ∷ 9 ∷ 9 ∷ [] }
unfolding computed lent lent_sets lent_profiles d_memory
d_in_memory = refl

d_refused : d_memory (record { from = lent 3; event = lent 3; to = lent 2; flags = lent 1 })
    ≡ record { from = lent 3; event = lent 3; to = lent 2; flags = lent 1 }
unfolding computed lent lent_sets lent_profiles d_memory
d_refused = refl
