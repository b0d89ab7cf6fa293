-- Theorems put to use at C and E, where their conditions are met. C's listed tables hold all sets and profiles, C does not accept the
-- course of its row, and of every course exactly one of C and its listed opposite accepts; C's answers say so too. E accepts every course.
use Prim.Native.Nat.{ℕ}
use native.Mathlib.Omega.{arith}
use mathlib.Core.Path.{◌≡◌, refl, sym, ap, subst, ◌∙◌}
use mathlib.Core.List.{[], ◌∷◌}
use Rattle.laws.specs.Words.{Word}
use Rattle.laws.specs.Model.{Accepted, Course, eight, machine, Within}
use Rattle.laws.specs.Tables.{UpTo}
use Rattle.laws.specs.Profiles.{uncovered, verdict, RightVerdict, HoldsSets, HoldsProfiles, profile_table}
use Rattle.laws.specs.Opposite.{written, Opposed}
use Rattle.laws.specs.Answers.{verdict_from, verdict_answer, OppositeAnswer, opposite_answer}
use Rattle.laws.specs.HandWorked.{C, E}
use Rattle.laws.proofs.Computed.{computed}
use Rattle.laws.proofs.HandWorked.{And, ◌▸◌, set, profile, c_set_entries, c_profile_entries, c_profile_table}
use Rattle.laws.proofs.HandWorked.{c_closed, c_tables, e_closed, e_tables, c_flags, c_arrows, c_answers, c_answered}
use Rattle.laws.proofs.Complete.{profile_steps}
use Rattle.laws.proofs.Tables.{up_to}
use Rattle.laws.proofs.Theorems.{every_model, sets_close, profiles_close, words_rebuilt, verdict_is_right, opposite_is_opposed}
use Rattle.laws.proofs.Answered.{closing_whole, verdict_answers, opposite_answers}

-- C's states are below 8
c_within : Within 8 (machine 8 C)
unfolding C
c_within = every_model 8 C (omega arith)

-- C's listed tables hold all its sets and profiles
c_sets_hold : HoldsSets 8 (machine 8 C) 2 c_set_entries
unfolding computed set c_set_entries
c_sets_hold = (sets_close 8 (machine 8 C) 2).uncut 256 refl

c_profiles_hold : HoldsProfiles 8 (machine 8 C) 2 c_profile_entries
unfolding profile_table
c_profiles_hold =
    subst (λ t. HoldsProfiles 8 (machine 8 C) 2 t.entries) c_profile_table
    ((profiles_close 8 (machine 8 C) 2).uncut 2048 (ap (λ t. t.cut) c_profile_table))

-- C's profiles with room for two of three are cut, with room for three or more they are not
UpToRoom : ℕ → Type 0
UpToRoom room = UpTo room c_profile_entries (profile_table 8 (machine 8 C) 2 room)

c_up_to : And (UpToRoom 2) (And (UpToRoom 3) (UpToRoom 4))
unfolding UpToRoom profile_table
c_up_to =
    let with_room = up_to (profile_steps 8 (machine 8 C)) c_profile_entries c_profiles_hold in
    with_room 2 ▸ with_room 3 ▸ with_room 4

-- the least word of its second set is 0, and that of its third profile 0 1
least_words : And (c_sets_hold.word 1 ≡ 0 ∷ []) (c_profiles_hold.word 2 ≡ 0 ∷ 1 ∷ [])
unfolding computed set profile c_set_entries c_profile_entries
least_words =
    sym (words_rebuilt c_set_entries c_sets_hold (omega arith) (omega arith) 1 (set 2 0 0) refl)
    ▸ sym (words_rebuilt c_profile_entries c_profiles_hold (omega arith) (omega arith) 2 (profile 257 257 0 1) refl)

-- C's verdict is right, so the course of its row is not accepted
c_uncovered : Accepted (machine 8 C) [] (1 ∷ []) → ⊥
unfolding computed set profile c_set_entries c_profile_entries
c_uncovered =
    (verdict_is_right 8 (machine 8 C) 2 c_set_entries c_profile_entries c_sets_hold c_profiles_hold c_within
    (omega arith) (omega arith) (omega arith)).uncovered_rejects [] (1 ∷ []) refl

-- of every course exactly one of C and its listed opposite accepts
c_opposed : Opposed (machine 8 C) (written c_flags c_arrows) 2
unfolding computed set profile c_set_entries c_profile_entries c_flags c_arrows
c_opposed = opposite_is_opposed 8 (machine 8 C) 2 c_set_entries c_profile_entries c_sets_hold c_profiles_hold c_within

-- E's verdict is right too: every course over its one event is accepted
e_right : RightVerdict (machine 8 E) 1 (verdict 8 e_closed.sets e_closed.profiles)
unfolding E e_closed
e_right =
    let whole = rw e_tables at (closing_whole eight E 256 2048 (ap (λ c. c.number) e_tables)) in
    verdict_is_right 8 (machine 8 E) 1 e_closed.sets e_closed.profiles whole.sets_hold whole.profiles_hold
    (every_model 8 E (omega arith)) (omega arith) (omega arith) (omega arith)

e_covered : (u v : Word) → Course 1 u v → Accepted (machine 8 E) u v
unfolding computed set profile e_closed
e_covered = e_right.covered_accepts refl

-- C's answers, in the kind of eight, with the rooms that the program will lend: its verdict is right, and what is written is an opposite
c_number : (verdict_from 8 c_closed 2304).number ≡ 0
unfolding computed set profile c_set_entries c_profile_entries c_closed
c_number = refl

c_judged : (verdict_answer eight C 256 2048 2304).number ≡ 0
unfolding verdict_answer
c_judged = ap (λ c. (verdict_from 8 c 2304).number) c_tables ∙ c_number

c_right : RightVerdict (machine 8 C) 2 (verdict 8 c_closed.sets c_closed.profiles)
unfolding C
c_right = rw c_tables at (verdict_answers eight C 256 2048 2304 (omega arith) (omega arith) (omega arith) c_judged).1

c_verdict : RightVerdict (machine 8 C) 2 (uncovered [] (1 ∷ []))
unfolding computed set profile c_set_entries c_profile_entries c_closed
c_verdict = c_right

c_answer : OppositeAnswer
c_answer = opposite_answer eight C 256 2048 6 16

c_opposite_written : Opposed (machine 8 C) (written c_answer.flags c_answer.arrows) 2
unfolding C c_answer c_answers
c_opposite_written = opposite_answers eight C 256 2048 6 16 (ap (λ o. o.number) (c_answered 6 16))
