-- WHAT FOLLOWS FROM THE CONTRACT OF THE VERDICT: no second result meets it, and what is past u and v stays as it was.
use Prim.Native.Nat.{ℕ, ◌+◌, ◌≤◌}
use native.Mathlib.Omega.{arith}
use mathlib.Core.Path.{◌≡◌, refl, sym, ap, ◌∙◌}
use mathlib.Core.Logic.{⊎_elim}
use mathlib.Core.List.{List}
use mathlib.Core.Option.{some}
use lib.ListN.{length, take, length-append}
use Rattle.std.proofs.Common.{Result, Ok, Err}
use Rattle.laws.specs.Model.{eight, machine}
use Rattle.laws.specs.Profiles as paper
use Rattle.laws.specs.Answers.{SetSlices, ProfileSlices, room_for_sets, room_for_profiles, closing_in}
use Rattle.laws.specs.Answers.{Kept, closing_of, u_and_v, words, verdict_from, verdict_answer, verdict_in, word_memory}
use Rattle.laws.proofs.Answered.{verdict_within}
use Rattle.laws.proofs.Answered.{closing_numbers, closing_whole, verdict_given, verdict_exactly_6}
use Rattle.laws.proofs.Over.{written}
use Rattle.laws.proofs.Theorems.{verdict_is_short}
use Rattle.model.specs.Asked.{asked}
use Rattle.model.specs.declared.Model.{Model}
use Rattle.closing.specs.Closing.{due}
use Rattle.closing.specs.declared.Refused.{Refused}
use Rattle.closing.proofs.Promises.{first_k_only, one_closing, same_refused}
use Rattle.cover.specs.Verdicts.{told, tells, given, GivesVerdict, due as verdict_due}
use Rattle.cover.specs.declared.answer.Answer.{Answer}
use Rattle.cover.specs.declared.answer.Answer.TheVariants.{Covered, Uncovered}
use Rattle.cover.proofs.Verdicts.{given_is}

-- THE VERDICT reads only the first k numbers of arrows, as closing does
pub verdict_first_k : (m : Model) (arrows other : List ℕ) (S : SetSlices) (T : ProfileSlices) (memory : List ℕ) → m.k ≤ length arrows
    → m.k ≤ length other → take m.k arrows ≡ take m.k other → verdict_due m arrows S T memory ≡ verdict_due m other S T memory
unfolding verdict_in verdict_answer closing_in
verdict_first_k m arrows other S T memory here there same =
    ap (λ c. verdict_from 8 c (length memory)) (first_k_only m arrows other S T here there same)

-- no two answers tell the same
told_once : (a b : Result Answer Refused) → told a ≡ told b → a ≡ b
unfolding told
told_once a b e =
    go a b (ap (λ t. t.covered) e) (ap (λ t. t.number) e) (ap (λ t. t.sets) e) (ap (λ t. t.profiles) e) (ap (λ t. t.u) e)
    (ap (λ t. t.v) e)
  where
    go : (a b : Result Answer Refused) → (told a).covered ≡ (told b).covered → (told a).number ≡ (told b).number
        → (told a).sets ≡ (told b).sets → (told a).profiles ≡ (told b).profiles → (told a).u ≡ (told b).u → (told a).v ≡ (told b).v → a ≡ b
    go (Ok (Covered s p)) (Ok (Covered t q)) c n g h i j = cc
    go (Ok (Covered s p)) (Ok (Uncovered t q w x)) c n g h i j = cc
    go (Ok (Covered s p)) (Err y) c n g h i j = cc
    go (Ok (Uncovered s p u v)) (Ok (Covered t q)) c n g h i j = cc
    go (Ok (Uncovered s p u v)) (Ok (Uncovered t q w x)) c n g h i j = cc
    go (Ok (Uncovered s p u v)) (Err y) c n g h i j = cc
    go (Err x) (Ok (Covered t q)) c n g h i j = cc
    go (Err x) (Ok (Uncovered t q w y)) c n g h i j = cc
    go (Err x) (Err y) c n g h i j = ap Err (same_refused x y n g h)

-- of the tables that closing gives with number 0, u has at most 255 letters and v at most 2,048
short : (m : Model) (arrows : List ℕ) (S : SetSlices) (T : ProfileSlices) → (due m arrows S T).number ≡ 0
    → (x : paper.Verdict) → paper.verdict 8 (due m arrows S T).sets (due m arrows S T).profiles ≡ x
    → (length (u_and_v (some x)).0 ≤ 255) × (length (u_and_v (some x)).1 ≤ 2048)
unfolding u_and_v closing_in room_for_sets room_for_profiles
short m arrows S T closed paper.covered e = omega arith
short m arrows S T closed (paper.uncovered u v) e =
    let c = closing_whole eight (asked m arrows) (room_for_sets eight S) (room_for_profiles eight T) closed in
    omega (
      arith,
      verdict_is_short 8 (machine 8 (asked m arrows)) m.k _ _ c.sets_hold c.profiles_hold
          (omega (arith, c.sets_fit)) (omega (arith, c.profiles_fit)) (omega (arith, c.model.k_most)) u v e,
      c.profiles_fit,
    )

module _ {m : Model} {arrows : List ℕ} {S S' : SetSlices} {T T' : ProfileSlices} {memory memory' : List ℕ} where
  module _ {answer : Result Answer Refused} (j : GivesVerdict m arrows S S' T T' memory memory' answer) where
    -- THE VERDICT has one result: the answer, and what all lent memory holds
    pub one_verdict : {S'' : SetSlices} {T'' : ProfileSlices} {memory'' : List ℕ} {other : Result Answer Refused}
        → GivesVerdict m arrows S S'' T T'' memory memory'' other → (answer ≡ other) × (S' ≡ S'') × (T' ≡ T'') × (memory' ≡ memory'')
    one_verdict k =
        let (_, sets, profiles) = one_closing j.closing k.closing in
        (told_once answer _ (j.answered ∙ sym k.answered), sets, profiles, j.word_memory_is ∙ sym k.word_memory_is)

    -- the answer due is document 01's for complete tables: so 6 comes exactly if u and v of these have more letters than there is room
    pub verdict_listed : verdict_due m arrows S T memory
        ≡ verdict_from 8
        (closing_of eight (asked m arrows) (room_for_sets eight S) (room_for_profiles eight T) j.closing.all_sets j.closing.all_profiles)
        (length memory)
    unfolding verdict_in verdict_answer closing_in
    verdict_listed = ap (λ c. verdict_from 8 c (length memory)) j.closing.listed

    -- THE VERDICT THAT IS GIVEN by the answer, and the word memory as it is left, is document 01's
    pub gives_due : given answer memory' ≡ (verdict_due m arrows S T memory).verdict
    gives_due = rw j.word_memory_is (given_is answer (verdict_due m arrows S T memory) memory j.answered)

    -- what was written are u and v
    words_long : length (words (verdict_due m arrows S T memory).verdict) ≡ (told answer).u + (told answer).v
    unfolding words tells
    words_long = simp length-append (sym (ap (λ t. t.u + t.v) j.answered))

    -- u and v are not more than the word memory has room for
    pub words_within : (told answer).u + (told answer).v ≤ length memory
    unfolding verdict_in verdict_answer closing_in
    words_within = let within = verdict_within 8 (due m arrows S T) (length memory) in omega (arith, words_long)

    -- and past them the word memory has not changed
    pub words_kept : Kept ((told answer).u + (told answer).v) memory memory'
    unfolding word_memory
    words_kept = rw j.word_memory_is (written _ memory _ words_long words_within)

    -- u has at most 255 letters and v at most 2,048; after a refusal and with "covered" they have none
    pub words_short : ((told answer).u ≤ 255) × ((told answer).v ≤ 2048)
    unfolding tells verdict_in verdict_answer closing_in u_and_v
    words_short =
        rw j.answered
        (⊎_elim (λ e. rw e (omega arith)) (λ e. rw e.1 (short m arrows S T e.0 _ refl))
        (verdict_given 8 (due m arrows S T) (length memory)))

    -- so with room for 2,303 letters 6 does not come
    pub never_6 : 2303 ≤ length memory → (told answer).number ≡ 6 → ⊥
    unfolding tells verdict_in verdict_answer closing_in words
    never_6 room h =
        let numbers = closing_numbers eight (asked m arrows) (room_for_sets eight S) (room_for_profiles eight T) in
        let is_6 = sym (ap (λ t. t.number) j.answered) ∙ h in
        let (closed, more) = (verdict_exactly_6 8 (due m arrows S T) (length memory) numbers).0 is_6 in
        omega (arith, simp length-append at more, short m arrows S T closed _ refl)
