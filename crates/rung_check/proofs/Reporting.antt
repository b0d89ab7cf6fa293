-- WHAT IS TO BE PRINTED, by the contracts of reading and of the verdict: the lines of what they answer are those of the file.
use Prim.Native.Nat.{ℕ, zero, suc}
use Rattle.std.proofs.Common.{Result, Ok, Err}
use native.Mathlib.Omega.{arith}
use mathlib.Core.Path.{◌≡◌, refl, sym, ap, ◌∙◌}
use mathlib.Core.List.{List}
use lib.ListN.{length, take}
use lib.Dec.{eqb}
use Rattle.laws.specs.Model.{eight}
use Rattle.laws.specs.File as paper
use Rattle.laws.specs.File.{reading}
use Rattle.laws.specs.Answers.{SetSlices, ProfileSlices, room_for_sets, room_for_profiles, verdict_from, verdict_answer, verdict_in}
use Rattle.laws.specs.Program.{answer_lines, fault_line, told as lines_of, printed}
use Rattle.laws.proofs.Booleans.{never}
use Rattle.laws.proofs.Read.{first_numbers}
use Rattle.laws.proofs.Reports.{printed_read, printed_refused}
use Rattle.model.specs.Asked.{asked}
use Rattle.model.specs.Reader as reader
use Rattle.model.specs.Reader.{model_told, ReadsFile}
use Rattle.model.specs.declared.Model.{Model}
use Rattle.model.specs.declared.refusals.Fault.{Fault}
use Rattle.model.specs.Numbers.{number_of}
use Rattle.model.proofs.Promises.{read_kept}
use Rattle.model.proofs.FileRead.{numbers_fit, numbers_first}
use Rattle.cover.specs.Verdicts.{told, tells, given, GivesVerdict}
use Rattle.closing.specs.declared.Refused.{Refused}
use Rattle.cover.specs.declared.answer.Answer.{Answer}
use Rattle.cover.proofs.Promises.{gives_due}

-- THE VERDICT: with room for all sets, profiles and words its answer has the lines of document 01's
pub lines_of_answer : {m : Model} {arrows : List ℕ} {S S' : SetSlices} {T T' : ProfileSlices} {memory memory' : List ℕ} {answer : Result Answer Refused}
    → GivesVerdict m arrows S S' T T' memory memory' answer → room_for_sets eight S ≡ 256 → room_for_profiles eight T ≡ 2048 → length memory ≡ 2304
    → answer_lines (told answer).number (told answer).sets (told answer).profiles (given answer memory')
    ≡ lines_of (verdict_answer eight (asked m arrows) 256 2048 2304)
unfolding tells lines_of verdict_in
lines_of_answer j sets profiles words = rw (j.answered, gives_due j, sets, profiles, words)

-- what is found in a file, with room for sixteen arrow numbers
abbrev found : List ℕ → List ℕ → paper.Reading
found file old = reading file (length old)

found_is : (file old : List ℕ) → length old ≡ 16 → reading file 16 ≡ found file old
found_is file old size = rw size

-- A MODEL WAS READ: what is printed are the lines of its verdict, whatever stands behind its numbers in the slice of arrows
pub read_lines : {file old new : List ℕ} {m : Model} → ReadsFile file old new (Ok m) → length old ≡ 16
    → printed file ≡ lines_of (verdict_answer eight (asked m new) 256 2048 2304)
unfolding reader.told reader.tells verdict_answer
read_lines {file} {old} {new} c size =
    let r : paper.Reading = found file old in
    let zero_is : r.fault.number ≡ 0 = sym (ap (λ t. t.number) c.told_is) in
    let (all, fits) = numbers_fit file old in
    let long = (read_kept c).as_long in
    let first : take r.model.k r.model.arrows ≡ take r.model.k new =
    numbers_first file old ∙ ap (take r.model.k) (sym c.arrows_are) in
    printed_read file (ap (λ r. r.fault.number) (found_is file old size) ∙ zero_is)
    ∙ ap (λ r. lines_of (verdict_answer eight r.model 256 2048 2304)) (found_is file old size)
    ∙ ap (λ d. lines_of (verdict_from 8 d 2304)) (first_numbers r.model new first eight (omega arith) (omega arith) 256 2048)
    ∙ ap (λ t. lines_of (verdict_answer eight (model_told t new) 256 2048 2304)) (sym c.told_is)

-- A FAULT WAS FOUND: what is printed is its line
pub fault_lines : {file old new : List ℕ} {f : Fault} → ReadsFile file old new (Err f) → length old ≡ 16
    → printed file ≡ fault_line (record { number = number_of f.refusal; offset = f.offset })
unfolding reader.told reader.tells
fault_lines {file} {old} {f = f} c size = go (found file old).fault.number refl
  where
    go : (x : ℕ) → (found file old).fault.number ≡ x → printed file ≡ fault_line (record { number = number_of f.refusal; offset = f.offset })
    go zero e = never (ap (λ t. t.is_read) c.told_is ∙ ap (λ x. eqb x 0) e)
    go (suc x) e =
        printed_refused file x (ap (λ r. r.fault.number) (found_is file old size) ∙ e)
        ∙ ap (λ r. fault_line r.fault) (found_is file old size)
        ∙ ap (λ t. fault_line (record { number = t.number; offset = t.offset })) (sym c.told_is)
