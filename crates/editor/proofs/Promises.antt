-- WHAT FOLLOWS FROM THE CONTRACT OF EACH CALL FOR C: no second result meets it.
use Prim.Native.Nat.{ℕ}
use mathlib.Core.Path.{◌≡◌, sym, ap, ◌∙◌}
use mathlib.Core.List.{List}
use Rattle.laws.specs.Words.{Word}
use Rattle.laws.specs.Answers.{SetSlices, ProfileSlices, OppositeSlices}
use Rattle.model.specs.declared.Model.{Model}
use Rattle.cover.proofs.Promises.{one_verdict}
use Rattle.model.proofs.Promises.{one_reading}
use Rattle.opposite.proofs.Promises.{one_opposite}
use Rattle.course.proofs.Promises.{one_judged_course}
use Rattle.editor.specs.Editor.{in_numbers, Exports, opposite_numbers, ExportsOpposite}
use Rattle.editor.specs.Editor.{course_numbers, ExportsCourse, reading_numbers, ExportsReading}
use Rattle.editor.specs.declared.CoverVerdict.{CoverVerdict}
use Rattle.editor.specs.declared.CoverOpposite.{CoverOpposite}
use Rattle.editor.specs.declared.CoverCourse.{CoverCourse}
use Rattle.editor.specs.declared.CoverReading.{CoverReading}

module _ {m : Model} {arrows : List ℕ} {S S' : SetSlices} {T T' : ProfileSlices} where
  pub one_export : {memory memory' : List ℕ} {result : CoverVerdict} → Exports m arrows S S' T T' memory memory' result
      → {S'' : SetSlices} {T'' : ProfileSlices} {memory'' : List ℕ} {other : CoverVerdict} → Exports m arrows S S'' T T'' memory memory'' other
      → (result ≡ other) × (S' ≡ S'') × (T' ≡ T'') × (memory' ≡ memory'')
  one_export e f =
      let (answer, sets, profiles, memory) = one_verdict e.verdict f.verdict in
      (e.numbers ∙ ap in_numbers answer ∙ sym f.numbers, sets, profiles, memory)

  pub one_exported_opposite : {O O' : OppositeSlices} {result : CoverOpposite} → ExportsOpposite m arrows S S' T T' O O' result
      → {S'' : SetSlices} {T'' : ProfileSlices} {O'' : OppositeSlices} {other : CoverOpposite} → ExportsOpposite m arrows S S'' T T'' O O'' other
      → (result ≡ other) × (S' ≡ S'') × (T' ≡ T'') × (O' ≡ O'')
  one_exported_opposite e f =
      let (answer, sets, profiles, slices) = one_opposite e.opposite f.opposite in
      (e.numbers ∙ ap opposite_numbers answer ∙ sym f.numbers, sets, profiles, slices)

pub one_exported_course : {m : Model} {arrows : List ℕ} {u v : Word} {result other : CoverCourse} → ExportsCourse m arrows u v result
    → ExportsCourse m arrows u v other → result ≡ other
one_exported_course e f = e.numbers ∙ ap course_numbers (one_judged_course e.course f.course) ∙ sym f.numbers

pub one_exported_reading : {file old new : List ℕ} {result : CoverReading} → ExportsReading file old new result
    → {new' : List ℕ} {other : CoverReading} → ExportsReading file old new' other → (result ≡ other) × (new ≡ new')
one_exported_reading e f =
    let (answer, arrows) = one_reading _ _ e.reading f.reading in
    (e.numbers ∙ ap reading_numbers answer ∙ sym f.numbers, arrows)
