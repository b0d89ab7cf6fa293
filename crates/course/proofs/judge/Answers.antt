-- A course that is refused has the number of its first refusal. With number 0 the model and the course are as asked, and what `is_accepted`
-- answers is said.
use Prim.Native.Nat.{ℕ}
use mathlib.Core.Path.{◌≡◌, refl, sym, ◌∙◌}
use mathlib.Core.Bool.{Bool, true, false}
use mathlib.Core.Logic.{◌↔◌}
use mathlib.Core.List.{List}
use Rattle.std.proofs.Common.{Ok}
use Rattle.std.proofs.lemmas.Result.{err_from_is_err_and}
use Rattle.laws.specs.Words.{Word}
use Rattle.laws.specs.Model as paper
use Rattle.laws.specs.Model.{eight, machine}
use Rattle.laws.proofs.Booleans.{never}
use Rattle.model.specs.Asked.{asked}
use Rattle.model.specs.Lent.{checked_model, machine_of}
use Rattle.model.specs.declared.Model.{Model}
use Rattle.course.specs.Courses.{number, accepted, is_said, JudgesCourse}
use Rattle.course.specs.declared.Judgement.TheVariants.{Accepted, Rejected}
use Rattle.course.specs.declared.words.Course.{Course}
use Rattle.course.proofs.Judged.{First, refused}
use Rattle.course.proofs.judge.Goals as goal

module _ (m : Model) (arrows : List ℕ) (u v : Word) where
  -- c is the course, of which nothing is refused: what the test b answers of it is said
  module _ (none : First m arrows u v 0) (c : Course) (is : (checked_model c.model ≡ asked m arrows) × (c.u.now ≡ u) × (c.v.now ≡ v))
      {b : Bool} (tells : (b ≡ true) ↔ paper.Accepted (machine_of c.model) c.u.now c.v.now) where
    told : (b ≡ true) ↔ paper.Accepted (machine 8 (asked m arrows)) u v
    told = let (model, beginning, round) = is in rw (model, beginning, round) at tells

    yes : b ≡ true → JudgesCourse m arrows u v (Ok Accepted)
    unfolding number accepted is_said
    yes e =
        record {
          course = record { number_is = none; yes_with_0 = λ _. refl; yes_only_if = λ _. told.0 e; yes_if = λ _ _. refl };
          said_with_0 = refl;
        }

    no : b ≡ false → JudgesCourse m arrows u v (Ok Rejected)
    unfolding number accepted is_said
    no e =
        record {
          course = record { number_is = none; yes_with_0 = never; yes_only_if = never; yes_if = λ _ a. sym e ∙ told.1 a };
          said_with_0 = refl;
        }

pub returns-in_err-course : goal.returns-in_err-course
returns-in_err-course c =
    let (r, is, from) = err_from_is_err_and c.from_residual.result c.from_residual.ensures.1 in
    rw (is, from) (refused _ _ _ _ _ c.in_err-course.ensures.number)

pub returns-then-is_accepted : goal.returns-then-is_accepted
returns-then-is_accepted c =
    let course = c.in_ok-course.ensures in
    yes _ _ _ _ course.number c.in_ok-course.course course.checked c.is_accepted.ensures c.if-is_accepted.true

pub returns-else-is_accepted : goal.returns-else-is_accepted
returns-else-is_accepted c =
    let course = c.in_ok-course.ensures in
    no _ _ _ _ course.number c.in_ok-course.course course.checked c.is_accepted.ensures c.if-is_accepted.false
