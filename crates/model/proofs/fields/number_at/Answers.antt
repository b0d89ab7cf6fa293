-- The form is tested before the number, as in the checks of the field.
use Rattle.laws.specs.Refusals.{outside}
use Rattle.laws.specs.File.{number_checks}
use Rattle.model.specs.declared.refusals.Refusal.TheVariants.{OutsideRange}
use Rattle.model.proofs.FieldsRead.{byte_misformed, byte_wrong, byte_right}
use Rattle.model.proofs.fields.number_at.Goals as goal

pub returns-in_err-number : goal.returns-in_err-number
unfolding number_checks
returns-in_err-number c =
    byte_misformed _ _ _ OutsideRange (outside c.args.most) _ c.in_err-number.ensures _ c.from_residual.ensures.1

pub returns-then-is_outside : goal.returns-then-is_outside
unfolding number_checks
returns-then-is_outside c =
    rw c.at.ensures (byte_wrong _ _ _ OutsideRange (outside c.args.most) c.in_ok-number.ensures c.if-is_outside.ensures)

pub returns : goal.returns
unfolding number_checks
returns c = byte_right _ _ _ OutsideRange (outside c.args.most) c.in_ok-number.ensures c.if-is_outside.ensures
