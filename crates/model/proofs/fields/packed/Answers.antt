-- The masks are the low bytes of the number, and behind them there are none.
use mathlib.Core.Path.{◌∙◌}
use Rattle.model.proofs.EventsRead.{all_packed}
use Rattle.model.proofs.fields.packed.Goals as goal

pub returns : goal.returns
returns c = (rw c.copy_from_slice.ensures.after at c.from_le_bytes.ensures) ∙ all_packed _ c.requires
