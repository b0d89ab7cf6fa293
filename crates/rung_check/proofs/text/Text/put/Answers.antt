-- The byte is written where there is room for it, and otherwise nothing is.
use native.Mathlib.Omega.{arith}
use mathlib.Core.Path.{refl}
use Rattle.rung_check.proofs.Pieces.{puts_byte, puts_none}
use Rattle.rung_check.proofs.text.Text.put.Goals as goal

pub returns-then-self : goal.returns-then-self
returns-then-self c =
    record { puts = puts_byte _ _ c.args.self.now.within c.args.byte c.if-self.true; same_reference = refl }

pub returns-else-self : goal.returns-else-self
returns-else-self c =
    let none = puts_none c.args.self.now.out.now c.args.self.now.end c.args.byte (omega (arith, c.args.self.now.within)) in
    record { puts = none; same_reference = refl }
