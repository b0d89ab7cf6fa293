-- What the program prints depends on the first 212 bytes of its file alone, and never has more than 8,192 bytes.
use Prim.Native.Nat.{ℕ, zero, suc, ◌+◌, ◌*◌, ◌/◌, ◌%◌, ◌<◌, ◌≤◌}
use native.Mathlib.Omega.{arith}
use mathlib.Core.Path.{◌≡◌, refl, ap}
use mathlib.Core.Bool.{Bool, true, false, cond, and-eq-true_iff}
use mathlib.Core.List.{List, [], ◌∷◌, ◌++◌}
use mathlib.Core.Option.{none, some}
use lib.ListN.{length, take, length-append}
use lib.Dec.{ltb}
use borrow.Author.Tests.{lt-ltb, ltb-true, ltb-false}
use Rattle.laws.specs.Words.{Word, letters_are_below}
use Rattle.laws.specs.Model.{eight, Model, Course}
use Rattle.laws.specs.Profiles.{Verdict, covered, uncovered, verdict}
use Rattle.laws.specs.Refusals.{Fault}
use Rattle.laws.specs.File.{reading}
use Rattle.laws.specs.Answers.{ClosingAnswer, closing_answer, verdict_answer}
use Rattle.laws.specs.Program.{digits_within, decimal, letters, word_line, count_line, verdict_lines}
use Rattle.laws.specs.Program.{answer_lines, fault_line, told, printed}
use Rattle.laws.specs.Program.{sets_text, profiles_text, refused_text, at_text}
use Rattle.laws.proofs.Places.{length_one_more}
use Rattle.laws.proofs.Answered.{closing_whole, verdict_refused, verdict_covered, verdict_6, verdict_uncovered, verdict_answers}
use Rattle.laws.proofs.FileBytes.{first_bytes}

-- what is printed for a file without a fault, and for one that has a fault
pub printed_read : (file : List ℕ) → (reading file 16).fault.number ≡ 0
    → printed file ≡ told (verdict_answer eight (reading file 16).model 256 2048 2304)
unfolding printed
printed_read file e = rw (e, printed)

pub printed_refused : (file : List ℕ) (n : ℕ) → (reading file 16).fault.number ≡ suc n → printed file ≡ fault_line (reading file 16).fault
unfolding printed
printed_refused file n e = rw (e, printed)

-- THE FIRST 212 BYTES tell all that is printed
pub printed_beginning : (file : List ℕ) → printed (take 212 file) ≡ printed file
unfolding printed
printed_beginning file =
    ap (λ r. elim r.fault.number [ suc n ↦ fault_line r.fault | zero ↦ told (verdict_answer eight r.model 256 2048 2304) ])
    (first_bytes file 16)

-- the last digit, and the others where there are any
digits_more : (most n : ℕ) → length (digits_within (suc most) n) ≤ suc (length (digits_within most (n / 10)))
unfolding digits_within
digits_more most n = go (ltb n 10)
  where
    go : (b : Bool) → length (cond b [] (digits_within most (n / 10)) ++ ((48 + n % 10) ∷ [])) ≤ suc (length (digits_within most (n / 10)))
    go true = omega arith
    go false = omega (arith, length_one_more (digits_within most (n / 10)) (48 + n % 10))

digits_one : (most n : ℕ) → n < 10 → length (digits_within (suc most) n) ≤ 1
unfolding digits_within
digits_one most n l = rw (lt-ltb n 10 l) (omega arith)

-- a number has at most twenty digits, and below 100 at most two
digits_few : (most n : ℕ) → length (digits_within most n) ≤ most
unfolding digits_within
digits_few zero n = omega arith
digits_few (suc most) n = omega (arith, digits_more most n, digits_few most (n / 10))

decimal_few : (n : ℕ) → length (decimal n) ≤ 20
unfolding decimal
decimal_few n = digits_few 20 n

decimal_two : (n : ℕ) → n < 100 → length (decimal n) ≤ 2
unfolding decimal
decimal_two n l = omega (arith, digits_more 19 n, digits_one 18 (n / 10) (omega arith))

-- so an event takes at most three bytes, and a course three for each letter beside the text of its lines
module _ (k : ℕ) (few : k ≤ 100) where
  letters_few : (w : Word) → letters_are_below k w ≡ true → length (letters w) ≤ 3 * length w
  unfolding letters letters_are_below
  letters_few [] h = omega arith
  letters_few (a ∷ w) h =
      let (first, others) = (and-eq-true_iff (ltb a k) (letters_are_below k w)).0 h in
      simp length-append (omega (arith, decimal_two a (omega (arith, ltb-true a k first)), letters_few w others))

  word_few : (name : ℕ) (w : Word) → letters_are_below k w ≡ true → length (word_line name w) ≤ 2 + 3 * length w
  unfolding word_line
  word_few name w h = simp length-append (omega (arith, letters_few w h))

  course_few : (u v : Word) → Course k u v → length (verdict_lines (uncovered u v)) ≤ 14 + 3 * length (u ++ v)
  unfolding verdict_lines
  course_few u v c = simp length-append (omega (arith, word_few 117 u c.u_letters, word_few 118 v c.v_letters))

-- a count takes its text, its digits and the end of the line
count_few : (text : List ℕ) (n : ℕ) → length (count_line text n) ≤ length text + 21
unfolding count_line
count_few text n = simp length-append (omega (arith, decimal_few n))

fault_few : (f : Fault) → length (fault_line f) ≤ 53
unfolding fault_line
fault_few f = simp length-append (omega (arith, decimal_few f.number, count_few at_text f.offset))

-- the line of a refusal; and before the lines of a verdict stand two counts
refused_few : (number sets profiles : ℕ) → length (answer_lines number sets profiles none) ≤ 29
unfolding answer_lines
refused_few number sets profiles = count_few refused_text number

given_few : (number sets profiles most : ℕ) (x : Verdict) → length (verdict_lines x) ≤ most
    → length (answer_lines number sets profiles (some x)) ≤ 56 + most
unfolding answer_lines
given_few number sets profiles most x l =
    simp length-append (omega (arith, count_few sets_text sets, count_few profiles_text profiles))

module _ (m : Model) where
  abbrev C : ClosingAnswer
  C = closing_answer eight m 256 2048

  -- the lines of an answer: u and v have no more letters than there is room for words, and each is an event
  answer_few : length (told (verdict_answer eight m 256 2048 2304)) ≤ 8192
  unfolding told verdict_answer verdict_lines
  answer_few = go C.number (verdict 8 C.sets C.profiles) refl refl
    where
      lines : (u v : Word) → C.number ≡ 0 → verdict 8 C.sets C.profiles ≡ uncovered u v
          → (b : Bool) → ltb 2304 (length (u ++ v)) ≡ b → length (told (verdict_answer eight m 256 2048 2304)) ≤ 8192
      lines u v e x true h =
          rw (verdict_6 8 C 2304 e u v x (ltb-true 2304 (length (u ++ v)) h))
          (omega (arith, refused_few 6 (length C.sets) (length C.profiles)))
      lines u v e x false h =
          let fits = ltb-false 2304 (length (u ++ v)) h in
          let is = verdict_uncovered 8 C 2304 e u v x fits in
          let (_, right) =
          verdict_answers eight m 256 2048 2304 (omega arith) (omega arith) (omega arith) (ap (λ d. d.number) is) in
          let most = (closing_whole eight m 256 2048 e).model.k_most in
          let few = course_few m.k (omega (arith, most)) u v (right.uncovered_course u v x) in
          rw is
          (omega (arith, given_few 0 (length C.sets) (length C.profiles) (14 + 3 * length (u ++ v)) (uncovered u v) few))

      go : (n : ℕ) (x : Verdict) → C.number ≡ n → verdict 8 C.sets C.profiles ≡ x
          → length (told (verdict_answer eight m 256 2048 2304)) ≤ 8192
      go (suc n) x e h =
          rw (verdict_refused 8 C 2304 n e) (omega (arith, refused_few (suc n) (length C.sets) (length C.profiles)))
      go zero covered e h =
          rw (verdict_covered 8 C 2304 e h)
          (omega (arith, given_few 0 (length C.sets) (length C.profiles) 8 covered (omega arith)))
      go zero (uncovered u v) e h = lines u v e h (ltb 2304 (length (u ++ v))) refl

-- WHAT IS PRINTED has room in 8,192 bytes, whatever the file
pub printed_short : (file : List ℕ) → length (printed file) ≤ 8192
printed_short file = go (reading file 16).fault.number refl
  where
    go : (n : ℕ) → (reading file 16).fault.number ≡ n → length (printed file) ≤ 8192
    go zero e = rw (printed_read file e) (answer_few (reading file 16).model)
    go (suc n) e = rw (printed_refused file n e) (omega (arith, fault_few (reading file 16).fault))
