-- What reading answers has the lines of the file: those of the model, or of the fault.
use mathlib.Core.Path.{refl, sym}
use Rattle.rung_check.proofs.Pieces.{adds_same}
use Rattle.rung_check.proofs.Reporting.{read_lines, fault_lines}
use Rattle.rung_check.proofs.report.put_report.Goals as goal

pub returns-in-Ok : goal.returns-in-Ok
returns-in-Ok c =
    adds_same (sym (read_lines (rw c.in-Ok.is at c.read.ensures) refl)) c.check.ensures

pub returns-in-Err : goal.returns-in-Err
returns-in-Err c =
    adds_same (sym (fault_lines (rw c.in-Err.is at c.read.ensures) refl)) c.put_fault.ensures
