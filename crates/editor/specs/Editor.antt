-- What the calls for C ensure: the contracts of the verdict, the opposite, one course and the reader, with the answer as numbers.
use Rattle.std.specs.Prelude.{ℕ, ◌≡◌, Bool, true, false, cond, List, Result}
use Rattle.std.proofs.Math.Option.{Option, none, some}
use Rattle.laws.specs.Words.{Word}
use Rattle.laws.specs.Answers.{SetSlices, ProfileSlices, OppositeSlices}
use Rattle.cover.specs.Verdicts.{Told, told, GivesVerdict}
use Rattle.model.specs.declared.Model.{Model}
use Rattle.model.specs.declared.refusals.Refusal.{Refusal}
use Rattle.model.specs.declared.refusals.Fault.{Fault}
use Rattle.model.specs.Reader as read
use Rattle.cover.specs.declared.answer.Answer.{Answer}
use Rattle.opposite.specs.Opposites as written
use Rattle.opposite.specs.declared.Written.{Written}
use Rattle.closing.specs.declared.Refused.{Refused}
use Rattle.course.specs.Courses as judged
use Rattle.course.specs.declared.Judgement.{Judgement}
use Rattle.editor.specs.declared.CoverVerdict.{CoverVerdict}
use Rattle.editor.specs.declared.CoverOpposite.{CoverOpposite}
use Rattle.editor.specs.declared.CoverCourse.{CoverCourse}
use Rattle.editor.specs.declared.CoverReading.{CoverReading}

-- a verdict as a number: 0 for none, 1 for "covered", 2 for "uncovered"; a judgement alike: 0 for none, 1 for accepted, 2 for not accepted
unfoldable pub code : Option Bool → ℕ
code none = 0
code (some true) = 1
code (some false) = 2

-- THE NUMBERS of an answer: what it tells
unfoldable pub in_numbers : Result Answer Refused → CoverVerdict
in_numbers answer =
    let t : Told = told answer in
    record { number = t.number; verdict = code t.covered; sets = t.sets; profiles = t.profiles; u = t.u; v = t.v }

-- THE CONTRACT OF THE EDITOR'S VERDICT: the numbers of an answer that meets the verdict's contract
pub record Exports (m : Model) (arrows : List ℕ) (S S' : SetSlices) (T T' : ProfileSlices) (memory memory' : List ℕ)
    (result : CoverVerdict) : Type 0 where
  pub answer : Result Answer Refused
  pub verdict : GivesVerdict m arrows S S' T T' memory memory' answer
  pub numbers : result ≡ in_numbers answer

-- THE NUMBERS of the opposite's answer: what it tells
unfoldable pub opposite_numbers : Result Written Refused → CoverOpposite
opposite_numbers answer =
    let t : written.Told = written.told answer in
    record { number = t.number; sets = t.sets; profiles = t.profiles; states = t.states; arrows = t.arrows }

-- THE CONTRACT OF THE EDITOR'S OPPOSITE: the numbers of an answer that meets the opposite's contract
pub record ExportsOpposite (m : Model) (arrows : List ℕ) (S S' : SetSlices) (T T' : ProfileSlices) (O O' : OppositeSlices)
    (result : CoverOpposite) : Type 0 where
  pub answer : Result Written Refused
  pub opposite : written.WritesOpposite m arrows S S' T T' O O' answer
  pub numbers : result ≡ opposite_numbers answer

-- THE NUMBERS of a judgement: its number, and what it says of the course
unfoldable pub course_numbers : Result Judgement Refusal → CoverCourse
course_numbers answer =
    let said : Option Bool = cond (judged.is_said answer) (some (judged.accepted answer)) none in
    record { number = judged.number answer; judgement = code said }

-- THE CONTRACT OF THE EDITOR'S COURSE: the numbers of a judgement that meets the contract of judging one course
pub record ExportsCourse (m : Model) (arrows : List ℕ) (u v : Word) (result : CoverCourse) : Type 0 where
  pub answer : Result Judgement Refusal
  pub course : judged.JudgesCourse m arrows u v answer
  pub numbers : result ≡ course_numbers answer

-- THE NUMBERS of a reading: what it tells
unfoldable pub reading_numbers : Result Model Fault → CoverReading
reading_numbers answer =
    let t : read.Told = read.told answer in
    record { number = t.number; offset = t.offset; n = t.n; k = t.k; start = t.start; home = t.home }

-- THE CONTRACT OF THE EDITOR'S READER: the numbers of a reading that meets the reader's contract
pub record ExportsReading (file old new : List ℕ) (result : CoverReading) : Type 0 where
  pub answer : Result Model Fault
  pub reading : read.ReadsFile file old new answer
  pub numbers : result ≡ reading_numbers answer
