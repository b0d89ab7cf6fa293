-- The bytes of the number are its rows: behind the first n there is a bit exactly if the number has one there.
use native.Mathlib.Omega.{arith}
use mathlib.Core.Path.{◌∙◌}
use Rattle.std.proofs.Common.{rules, tests}
use Rattle.model.proofs.Beyond.{beyond_above, beyond_rows}
use Rattle.model.proofs.bounds.beyond.Goals as goal

pub returns-then-arrows-n-gt0 : goal.returns-then-arrows-n-gt0
returns-then-arrows-n-gt0 c =
    c.if-arrows-n-gt0.true
    ∙ beyond_above c.args.n c.args.arrows _ c.to_le_bytes-rows.ensures (omega arith) (search (rules, tests))

pub returns-else-arrows-n-gt0 : goal.returns-else-arrows-n-gt0
returns-else-arrows-n-gt0 c =
    c.some_mask_beyond.ensures
    ∙ beyond_rows c.args.n c.args.arrows _ c.to_le_bytes-rows.ensures (omega arith) c.requires (grind arith)
