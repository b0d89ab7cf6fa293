-- Which refusal of a course is the first, by the tests that the code makes; and that its words are a course where none applies.
use Prim.Native.Nat.{ℕ, zero, suc, ◌<◌}
use native.Mathlib.Omega.{arith}
use mathlib.Core.Path.{◌≡◌, refl, sym, ap, ◌∙◌}
use mathlib.Core.Bool.{Bool, true, false, and-false}
use mathlib.Core.List.{[], ◌∷◌}
use lib.ListN.{length}
use Rattle.laws.specs.Bits.{every_of}
use Rattle.laws.specs.Words.{Word, letters_are_below, empty}
use Rattle.laws.specs.Model.{Kind, Model, Course}
use Rattle.laws.specs.Refusals.{first_of, fault, refuse, model_checks, word_checks, course_checks, Unrefused}
use Rattle.laws.proofs.Booleans.{never}
use Rattle.laws.proofs.Checks.{first_decides, second_decides}
use Rattle.laws.proofs.Unrefused.{unrefused}
use Rattle.model.specs.Numbers.{number_of}
use Rattle.model.specs.declared.refusals.Refusal.{Refusal}
use Rattle.model.proofs.Numbers.{some_number}
use Rattle.course.proofs.Judging.{some_letter}

-- a word has a letter exactly if its length is not 0
no_letter : (w : Word) → length w ≡ 0 → empty w ≡ true
unfolding empty
no_letter [] e = refl
no_letter (a ∷ w) e = absurd (omega arith)

letter_none : (w : Word) → empty w ≡ true → length w ≡ 0
unfolding empty
letter_none [] e = refl
letter_none (a ∷ w) e = never e

letter_some : (w : Word) → 0 < length w → empty w ≡ false
unfolding empty
letter_some [] l = absurd (omega arith)
letter_some (a ∷ w) l = refl

-- WHICH REFUSAL OF A COURSE IS THE FIRST: the model's, then 10, then 9
module _ (K : Kind) (m : Model) (u v : Word) where
  abbrev First : ℕ → Type 0
  First number = number ≡ (first_of (course_checks K m u v)).number

  pub by_model : (r : Refusal) → number_of r ≡ (first_of (model_checks K m)).number → First (number_of r)
  unfolding course_checks
  by_model r is =
      is ∙ sym (ap (λ f. f.number) (first_decides (model_checks K m) (word_checks m.k u v) (λ z. some_number r (is ∙ z))))

  module _ (none : 0 ≡ (first_of (model_checks K m)).number) where
    by_words : first_of (course_checks K m u v) ≡ first_of (word_checks m.k u v)
    unfolding course_checks model_checks refuse fault every_of
    by_words = second_decides (model_checks K m) (word_checks m.k u v) refl (sym none)

    pub by_empty : length v ≡ 0 → First 10
    unfolding first_of refuse fault word_checks
    by_empty e = rw (by_words, no_letter v e)

    module _ (there : 0 < length v) where
      pub by_beginning : letters_are_below m.k u ≡ false → First 9
      unfolding first_of refuse fault word_checks
      by_beginning e = rw (by_words, letter_some v there, e)

      pub by_round : letters_are_below m.k v ≡ false → First 9
      unfolding first_of refuse fault word_checks
      by_round e = rw (by_words, letter_some v there, e, and-false)

      pub by_none : letters_are_below m.k u ≡ true → letters_are_below m.k v ≡ true → First 0
      unfolding first_of refuse fault word_checks
      by_none e f = rw (by_words, letter_some v there, e, f)

  decided : (n : ℕ) → (first_of (model_checks K m)).number ≡ suc n → (first_of (course_checks K m u v)).number ≡ suc n
  unfolding course_checks
  decided n is =
      ap (λ f. f.number) (first_decides (model_checks K m) (word_checks m.k u v) (λ z. omega (arith, is, z))) ∙ is

  -- with number 0 the model and the course are as asked
  pub course_asked : First 0 → Unrefused K m × Course m.k u v
  course_asked z =
      go (first_of (model_checks K m)).number (empty v) (letters_are_below m.k u) (letters_are_below m.k v) refl refl refl refl
    where
      go : (n : ℕ) (b a c : Bool) → (first_of (model_checks K m)).number ≡ n → empty v ≡ b → letters_are_below m.k u ≡ a
          → letters_are_below m.k v ≡ c → Unrefused K m × Course m.k u v
      go (suc n) b a c f e g h = absurd (omega (arith, z, decided n f))
      go zero true a c f e g h = absurd (omega (arith, z, by_empty (sym f) (letter_none v e)))
      go zero false false c f e g h = absurd (omega (arith, z, by_beginning (sym f) (some_letter v e) g))
      go zero false true false f e g h = absurd (omega (arith, z, by_round (sym f) (some_letter v e) h))
      go zero false true true f e g h = (unrefused K m f, record { u_letters = g; v_letters = h; v_some = e })

-- and where none applies the words are a course
pub is_course : (k : ℕ) (u v : Word) → 0 < length v → letters_are_below k u ≡ true → letters_are_below k v ≡ true → Course k u v
is_course k u v there e f = record { u_letters = e; v_letters = f; v_some = letter_some v there }

pub ruleset refusals = (by_model, by_empty, by_beginning, by_round, by_none, is_course)
