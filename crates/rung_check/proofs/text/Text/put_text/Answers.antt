-- The bytes before an index are put, and each turn puts the next behind them.
use Rattle.rung_check.proofs.Pieces.{adds_nothing, adds_next}
use Rattle.rung_check.proofs.text.Text.put_text.Goals as goal

pub loop-byte-init : goal.loop-byte-init
loop-byte-init c = adds_nothing _

pub loop-byte-preserved : goal.loop-byte-preserved
loop-byte-preserved c = adds_next _ _ c.loop-byte-test.true c.loop-byte.invariant c.put.ensures
