-- The text, the number and the line's end, one behind the other.
use Rattle.laws.specs.Program.{count_line}
use Rattle.rung_check.proofs.Pieces.{adds_both}
use Rattle.rung_check.proofs.text.Text.put_count.Goals as goal

pub returns : goal.returns
unfolding count_line
returns c = adds_both (adds_both c.put_text.ensures c.put_number.ensures) c.put.ensures
