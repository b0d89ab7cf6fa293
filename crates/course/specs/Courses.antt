-- What judging one course ensures, for every model and every two words.
use Rattle.std.specs.Prelude.{ℕ, ◌≡◌, Bool, true, false, List, eqb, Result, Ok, Err}
use Rattle.laws.specs.Words.{Word}
use Rattle.laws.specs.Model.{eight}
use Rattle.laws.specs.Answers.{CourseAnswer}
use Rattle.model.specs.Asked.{asked}
use Rattle.model.specs.Numbers.{number_of}
use Rattle.model.specs.declared.Model.{Model}
use Rattle.model.specs.declared.refusals.Refusal.{Refusal}
use Rattle.course.specs.declared.Judgement.{Judgement}
use Rattle.course.specs.declared.Judgement.TheVariants.{Accepted, Rejected}

-- THE NUMBER AND THE VALUES of each case of the judgement: whether the course is accepted, and whether that is said at all
unfoldable pub number : Result Judgement Refusal → ℕ
number (Ok Accepted) = 0
number (Ok Rejected) = 0
number (Err r) = number_of r

unfoldable pub accepted : Result Judgement Refusal → Bool
accepted (Ok Accepted) = true
accepted (Ok Rejected) = false
accepted (Err r) = false

unfoldable pub is_said : Result Judgement Refusal → Bool
is_said (Ok Accepted) = true
is_said (Ok Rejected) = true
is_said (Err r) = false

module _ (m : Model) (arrows : List ℕ) where
  -- THE CONTRACT OF JUDGING ONE COURSE: the number of document 01, and with 0 "accepted" exactly if the course is accepted
  pub record JudgesCourse (u v : Word) (answer : Result Judgement Refusal) : Type 0 where
    pub course : CourseAnswer eight (asked m arrows) u v (number answer) (accepted answer)
    pub said_with_0 : is_said answer ≡ eqb (number answer) 0
