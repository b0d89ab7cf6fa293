-- The bytes of the end field are tested before the end of the file, as in the checks of that field.
use native.Mathlib.Omega.{arith}
use mathlib.Core.Path.{refl, sym}
use borrow.Author.Tests.{lt-ltb, le-ltb}
use Rattle.laws.specs.File.{end_checks}
use Rattle.laws.proofs.Checks.{passed_field, stopped_form, stopped_value}
use Rattle.model.proofs.fields.end_at.Goals as goal

pub returns-then-not-stand_at : goal.returns-then-not-stand_at
unfolding end_checks
returns-then-not-stand_at c = rw c.at.ensures (stopped_form _ 8 _ _ _ (sym c.if-not-stand_at.ensures))

pub returns-then-at-file : goal.returns-then-at-file
unfolding end_checks
returns-then-at-file c =
    rw c.at-then-at-file.ensures (stopped_value _ 8 _ _ _ (sym c.if-not-stand_at.ensures) (lt-ltb _ _ c.if-at-file.true))

pub returns : goal.returns
unfolding end_checks
returns c =
    (passed_field _ 8 _ _ _ (sym c.if-not-stand_at.ensures) (le-ltb _ _ c.if-at-file.false), (refl, omega arith))
