-- The number behind its text, and then the offset, which ends the line.
use Rattle.laws.specs.Program.{fault_line}
use Rattle.rung_check.proofs.Pieces.{adds_both}
use Rattle.rung_check.proofs.report.put_fault.Goals as goal

pub returns : goal.returns
unfolding fault_line
returns c =
    rw (← c.from.ensures, ← c.from-2.ensures)
    (adds_both (adds_both c.put_text.ensures c.put_number.ensures) c.put_count.ensures)
