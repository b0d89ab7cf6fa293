-- Where the file ends before the third byte the three do not stand there; where it does not, they are compared with those that do.
use Prim.Native.Nat.{◌+◌, ◌-◌}
use native.Mathlib.Omega.{arith}
use mathlib.Core.Path.{◌≡◌, ◌∙◌}
use lib.ListN.{length}
use borrow.Author.Tests.{lt-leb}
use Rattle.model.proofs.FieldsRead.{cut_short, stand_equal}
use Rattle.model.proofs.fields.stand_at.Goals as goal

pub returns-then-at-file : goal.returns-then-at-file
returns-then-at-file c =
    let a = c.args in
    let three : a.at + 3 - a.at ≡ length a.bytes = omega arith in
    c.eq.ensures ∙ rw three (stand_equal a.file.now a.at a.bytes (omega arith))

pub returns-else-at-file : goal.returns-else-at-file
returns-else-at-file c = rw (cut_short c.args.file.now c.args.at c.args.bytes (omega arith) (omega arith)) (lt-leb _ _ c.if-at-file.false)
