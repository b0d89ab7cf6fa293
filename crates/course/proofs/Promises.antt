-- WHAT FOLLOWS FROM THE CONTRACT OF JUDGING ONE COURSE: no second result meets it.
use Prim.Native.Nat.{ℕ, ◌≤◌}
use mathlib.Core.Path.{◌≡◌, refl, sym, ap, ◌∙◌}
use mathlib.Core.List.{List}
use lib.ListN.{length, take}
use lib.Dec.{eqb}
use Rattle.std.proofs.Common.{Result, Ok, Err}
use Rattle.laws.specs.Words.{Word}
use Rattle.laws.specs.Model.{eight}
use Rattle.laws.proofs.Booleans.{never}
use Rattle.laws.proofs.Answered.{one_judged}
use Rattle.laws.proofs.Read.{course_by_numbers}
use Rattle.model.specs.Asked.{asked}
use Rattle.model.specs.declared.Model.{Model}
use Rattle.model.specs.declared.refusals.Refusal.{Refusal}
use Rattle.course.specs.Courses.{number, accepted, is_said, JudgesCourse}
use Rattle.model.proofs.Numbers.{one_number}
use Rattle.course.specs.declared.Judgement.{Judgement}
use Rattle.course.specs.declared.Judgement.TheVariants.{Accepted, Rejected}

-- JUDGING ONE COURSE reads only the first k numbers of arrows: what is right for one slice is right for the other
pub course_first_k : (m : Model) (arrows other : List ℕ) → m.k ≤ length arrows → m.k ≤ length other
    → take m.k arrows ≡ take m.k other → (u v : Word) (answer : Result Judgement Refusal) → JudgesCourse m arrows u v answer
    → JudgesCourse m other u v answer
course_first_k m arrows other here there same u v answer c =
    record {
      course = course_by_numbers (asked m arrows) other same eight here there u v (number answer) (accepted answer) c.course;
      said_with_0 = c.said_with_0;
    }

-- a judgement is its number, whether it is said, and whether the course is accepted
same_judgement : (a b : Result Judgement Refusal) → number a ≡ number b → is_said a ≡ is_said b → accepted a ≡ accepted b → a ≡ b
unfolding number is_said accepted
same_judgement (Ok Accepted) (Ok Accepted) n s e = refl
same_judgement (Ok Accepted) (Ok Rejected) n s e = never (sym e)
same_judgement (Ok Accepted) (Err l) n s e = never (sym s)
same_judgement (Ok Rejected) (Ok Accepted) n s e = never e
same_judgement (Ok Rejected) (Ok Rejected) n s e = refl
same_judgement (Ok Rejected) (Err l) n s e = never (sym s)
same_judgement (Err k) (Ok Accepted) n s e = never s
same_judgement (Err k) (Ok Rejected) n s e = never s
same_judgement (Err k) (Err l) n s e = ap Err (one_number k l n)

-- JUDGING ONE COURSE has one result
pub one_judged_course : {m : Model} {arrows : List ℕ} {u v : Word} {answer other : Result Judgement Refusal}
    → JudgesCourse m arrows u v answer → JudgesCourse m arrows u v other → answer ≡ other
one_judged_course {answer = answer} {other = other} c d =
    let (n, e) = one_judged c.course d.course in
    same_judgement answer other n (c.said_with_0 ∙ ap (λ n. eqb n 0) n ∙ sym d.said_with_0) e
