-- What the verdict ensures, from what closing ensures: after a refusal nothing more, and otherwise what follows from the first places of
-- the slices, where the complete tables stand. The verdict that is given is then document 01's, and that one is right.
use Prim.Native.Nat.{ℕ}
use native.Mathlib.Omega.{arith}
use mathlib.Core.Path.{◌≡◌, refl, sym, ap, ap₂, ◌∙◌}
use mathlib.Core.List.{List, ◌++◌, append_assoc}
use mathlib.Core.Option.{Option, none, some}
use lib.ListN.{length, take, drop, length-take}
use Rattle.std.proofs.Common.{Result, Ok, Err}
use lib.Seq.{take_at, drop_at, get_or-take, length-take-le}
use Rattle.laws.specs.Model.{eight, machine}
use Rattle.laws.specs.Profiles as paper
use Rattle.laws.specs.Answers.{SetSlices, ProfileSlices, room_for_sets, room_for_profiles, over, VerdictAnswer, u_and_v, words, verdict_from}
use Rattle.laws.specs.Answers.{verdict_answer, closing_in, verdict_in, word_memory}
use Rattle.laws.proofs.Answered.{verdict_refused, verdict_answers}
use Rattle.model.specs.Asked.{asked}
use Rattle.closing.specs.Memory.{sets_in, profiles_in}
use Rattle.closing.specs.Closing.{Closed}
use Rattle.closing.specs.Closing as closing
use Rattle.cover.specs.Verdicts.{told, is_covered, tells, given, due, GivesVerdict, wholly, Concludes}
use Rattle.cover.specs.Tables.{first_sets, first_profiles}
use Rattle.model.specs.declared.Model.{Model}
use Rattle.closing.specs.declared.Complete.{Complete}
use Rattle.closing.specs.declared.Refused.{Refused}
use Rattle.cover.specs.WordMemory.{Linked}
use Rattle.model.proofs.Numbers.{number_from_1}
use Rattle.cover.specs.declared.answer.Answer.{Answer}
use Rattle.cover.specs.declared.answer.Answer.TheVariants.{Covered, Uncovered}
use Rattle.closing.proofs.Slices.{entries_part}
use Rattle.closing.proofs.SetTable.{set_layout}
use Rattle.closing.proofs.ProfileTable.{profile_layout}
use Rattle.cover.proofs.Rebuilding.{linked}
use Rattle.closing.proofs.Promises.{sets_stand, profiles_stand}

-- what is read in the first n places of slices
sets_part : (n : ℕ) (l : SetSlices) → sets_in (first_sets n l) n ≡ sets_in l n
unfolding sets_in
sets_part n l = entries_part _ _ l.from l.event n (λ i h. get_or-take n l.masks i 0 h)

profiles_part : (n : ℕ) (l : ProfileSlices) → profiles_in (first_profiles n l) n ≡ profiles_in l n
unfolding profiles_in
profiles_part n l =
    entries_part _ _ l.from l.event n (λ i h. rw (get_or-take n l.arrows i 0 h, get_or-take n l.marks i 0 h))

-- u and v are read back from the word memory
module _ (u v memory : List ℕ) where
  abbrev after : List ℕ
  after = over (u ++ v) memory

  first_word : take (length u) after ≡ u
  unfolding over
  first_word = rw append_assoc (take_at u _ (length u) refl)

  second_word : take (length v) (drop (length u) after) ≡ v
  unfolding over
  second_word = rw (append_assoc, drop_at u (v ++ drop (length (u ++ v)) memory) (length u) refl) (take_at v _ (length v) refl)

-- THE VERDICT THAT IS GIVEN by an answer that tells what document 01's tells, and the word memory beside it, is document 01's
pub given_is : (answer : Result Answer Refused) (d : VerdictAnswer) (memory : List ℕ) → told answer ≡ tells d
    → given answer (word_memory d memory) ≡ d.verdict
unfolding told tells is_covered given word_memory words u_and_v
given_is answer d memory e = go answer d.verdict (ap (λ t. t.covered) e) (ap (λ t. t.u) e) (ap (λ t. t.v) e)
  where
    go : (answer : Result Answer Refused) (o : Option paper.Verdict) → (told answer).covered ≡ is_covered o
        → (told answer).u ≡ length (u_and_v o).0 → (told answer).v ≡ length (u_and_v o).1 → given answer (over (words o) memory) ≡ o
    go (Ok (Covered s p)) (some paper.covered) c l k = refl
    go (Ok (Covered s p)) (some (paper.uncovered u v)) c l k = cc
    go (Ok (Covered s p)) none c l k = cc
    go (Ok (Uncovered s p _ _)) (some paper.covered) c l k = cc
    go (Ok (Uncovered s p _ _)) (some (paper.uncovered u v)) c l k = rw (l, k, first_word u v memory, second_word u v memory)
    go (Ok (Uncovered s p _ _)) none c l k = cc
    go (Err x) (some paper.covered) c l k = cc
    go (Err x) (some (paper.uncovered u v)) c l k = cc
    go (Err x) none c l k = refl

-- an answer that tells what document 01's tells gives a verdict that is right
gives : {m : Model} {arrows : List ℕ} {S S' : SetSlices} {T T' : ProfileSlices} {closed : Closed}
    → closing.Closing m arrows S S' T T' closed → {memory memory' : List ℕ} {answer : Result Answer Refused} → told answer ≡ tells (due m arrows S T memory)
    → memory' ≡ word_memory (due m arrows S T memory) memory → GivesVerdict m arrows S S' T T' memory memory' answer
unfolding verdict_in tells room_for_sets room_for_profiles
gives {m} {arrows} {S} {S'} {T} {T'} c {memory} {memory'} {answer} answered written =
    record { closed = _; closing = c; answered = answered; word_memory_is = written; right = right }
  where
    right : (told answer).number ≡ 0
        → (x : paper.Verdict) × (given answer memory' ≡ some x) × paper.RightVerdict (machine 8 (asked m arrows)) m.k x
    right z =
        let (is, so) =
        verdict_answers eight (asked m arrows) (room_for_sets eight S) (room_for_profiles eight T) (length memory) (omega arith)
        (omega arith) (omega arith) (sym (ap (λ t. t.number) answered) ∙ z) in
        (_, rw written (given_is answer (due m arrows S T memory) memory answered) ∙ is, so)

-- A REFUSAL of closing is the verdict's, and nothing goes to the word memory
pub refuses : {m : Model} {arrows : List ℕ} {S S' : SetSlices} {T T' : ProfileSlices} {x : Refused} (memory : List ℕ)
    → closing.Closing m arrows S S' T T' (closing.told (Err x)) → GivesVerdict m arrows S S' T T' memory memory (Err x)
unfolding verdict_in verdict_answer closing_in told tells is_covered word_memory words u_and_v over
refuses {m} {arrows} {S} {S'} {T} {T'} {x} memory c =
    let (n, e) = number_from_1 x.refusal in
    let d = verdict_refused 8 (closing.due m arrows S T) (length memory) n (sym c.number ∙ e) in
    gives c (rw (d, e, c.sets, c.profiles)) (rw d)

module _ {m : Model} {arrows : List ℕ} {S S' : SetSlices} {T T' : ProfileSlices} {x : Complete}
    (c : closing.Closing m arrows S S' T T' (closing.told (Ok x))) where
  -- the first places of the slices of sets and profiles
  abbrev P : SetSlices
  P = first_sets x.sets S'

  abbrev Q : ProfileSlices
  Q = first_profiles x.profiles T'

  -- they hold a table each and nothing else
  pub sets_linked : Linked P.from P.event
  unfolding sets_in
  sets_linked =
      let s = sets_stand c in
      linked _ _ _ _ sets_held (length-take-le _ _ (omega arith)) (simp length-take (omega arith))
    where
      sets_held : closing.AllSets m arrows (sets_in P x.sets)
      sets_held = rw sets_part (c.all_sets_stored refl)

  pub profiles_linked : Linked Q.from Q.event
  unfolding profiles_in
  profiles_linked =
      let t = profiles_stand c in
      linked _ _ _ _ profiles_held (length-take-le _ _ (omega arith)) (simp length-take (omega arith))
    where
      profiles_held : closing.AllProfiles m arrows (profiles_in Q x.profiles)
      profiles_held = rw profiles_part (c.all_profiles_stored refl)

  wholly_due : wholly P Q ≡ closing.due m arrows S T
  unfolding wholly
  wholly_due =
      ap₂ (λ es ts. record { number = 0; sets = es; profiles = ts }) sets_read profiles_read
      ∙ ap (λ n. record { number = n; sets = (closing.due m arrows S T).sets; profiles = (closing.due m arrows S T).profiles }) c.number
    where
      sets_read : sets_in P (length P.masks) ≡ (closing.due m arrows S T).sets
      sets_read =
          let s = sets_stand c in
          rw (length-take-le x.sets S'.masks (omega arith), sets_part, c.set_slices_are, c.sets)
          (set_layout.back _ S)

      profiles_read : profiles_in Q (length Q.arrows) ≡ (closing.due m arrows S T).profiles
      profiles_read =
          let t = profiles_stand c in
          rw (length-take-le x.profiles T'.arrows (omega arith), profiles_part, c.profile_slices_are, c.profiles)
          (profile_layout.back _ T)

  -- WHAT FOLLOWS from them is what is due
  pub gives_concluded : {memory memory' : List ℕ} {answer : Result Answer Refused} → Concludes P Q memory memory' answer
      → GivesVerdict m arrows S S' T T' memory memory' answer
  unfolding verdict_in verdict_answer closing_in
  gives_concluded {memory} d =
      let same : verdict_from 8 (wholly P Q) (length memory) ≡ due m arrows S T memory =
      ap (λ y. verdict_from 8 y (length memory)) wholly_due in
      gives c (d.answered ∙ ap tells same) (d.word_memory_is ∙ ap (λ y. word_memory y memory) same)
