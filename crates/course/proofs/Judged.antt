-- A course that is refused has the number of its first refusal.
use Prim.Native.Nat.{ℕ}
use mathlib.Core.Path.{◌≡◌, sym}
use mathlib.Core.List.{List}
use borrow.Author.Tests.{ne_eqb}
use Rattle.std.proofs.Common.{Err}
use Rattle.laws.specs.Words.{Word}
use Rattle.laws.specs.Model.{eight}
use Rattle.laws.specs.Refusals.{first_of, course_checks}
use Rattle.laws.proofs.Booleans.{never}
use Rattle.model.specs.Asked.{asked}
use Rattle.model.specs.Numbers.{number_of}
use Rattle.model.specs.declared.Model.{Model}
use Rattle.model.specs.declared.refusals.Refusal.{Refusal}
use Rattle.model.proofs.Numbers.{some_number}
use Rattle.course.specs.Courses.{number, accepted, is_said, JudgesCourse}

module _ (m : Model) (arrows : List ℕ) (u v : Word) where
  abbrev pub First : ℕ → Type 0
  First n = n ≡ (first_of (course_checks eight (asked m arrows) u v)).number

  pub refused : (r : Refusal) → First (number_of r) → JudgesCourse m arrows u v (Err r)
  unfolding number accepted is_said
  refused r is =
      record {
        course = record { number_is = is; yes_with_0 = never; yes_only_if = never; yes_if = λ z. absurd (some_number r z) };
        said_with_0 = sym (ne_eqb (number_of r) 0 (some_number r));
      }
