-- One line behind the other.
use Rattle.rung_check.proofs.Pieces.{adds_both}
use Rattle.rung_check.proofs.report.put_counts.Goals as goal

pub returns : goal.returns
returns c = adds_both c.put_count.ensures c.put_count-2.ensures
