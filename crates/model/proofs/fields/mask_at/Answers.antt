-- The form is tested before the mask, as in the checks of the field.
use Rattle.laws.specs.Refusals.{mask_beyond}
use Rattle.laws.specs.File.{mask_checks}
use Rattle.model.specs.declared.refusals.Refusal.TheVariants.{MissingState}
use Rattle.model.proofs.FieldsRead.{byte_misformed, byte_wrong, byte_right}
use Rattle.model.proofs.fields.mask_at.Goals as goal

pub returns-in_err-mask : goal.returns-in_err-mask
unfolding mask_checks
returns-in_err-mask c =
    byte_misformed _ _ _ MissingState (mask_beyond c.args.n) _ c.in_err-mask.ensures _ c.from_residual.ensures.1

pub returns-then-row_beyond : goal.returns-then-row_beyond
unfolding mask_checks
returns-then-row_beyond c =
    rw c.at.ensures (byte_wrong _ _ _ MissingState (mask_beyond c.args.n) c.in_ok-mask.ensures c.if-row_beyond.ensures)

pub returns : goal.returns
unfolding mask_checks
returns c = byte_right _ _ _ MissingState (mask_beyond c.args.n) c.in_ok-mask.ensures c.if-row_beyond.ensures
