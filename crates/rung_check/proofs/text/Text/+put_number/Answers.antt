-- After the branch the digits before the last are put, and then the last one.
use native.Mathlib.Omega.{arith}
use Rattle.rung_check.specs.Putting.{Adds}
use Rattle.rung_check.proofs.Pieces.{adds_nothing, adds_both}
use Rattle.rung_check.proofs.Digits.{first_digits, first_none, first_tenth, decimal_last}
use Rattle.rung_check.proofs.text.Text.+put_number.Goals as goal
use Rattle.rung_check.proofs.text.Text.+put_number.Goals.{then-x-ge10, else-x-ge10}

pub returns : goal.returns
returns t c =
    let first : Adds (first_digits c.args.x) c.args.self.now c.if-x-ge10.self =
    elim c.if-x-ge10.branch [
      | then-x-ge10 w ↦ rw (first_tenth _ w.if-x-ge10.true, w.self-is) w.put_number.ensures
      | else-x-ge10 w ↦ rw (first_none _ w.if-x-ge10.false, w.self-is) (adds_nothing _)
    ] in
    rw (decimal_last c.args.x (omega arith)) (adds_both first c.put.ensures)
