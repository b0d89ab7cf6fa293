-- A field that is formed is not cut, so that it has its byte.
use Prim.Native.Nat.{◌+◌}
use native.Mathlib.Omega.{arith}
use mathlib.Core.Path.{refl, sym}
use Rattle.laws.specs.File.{byte, value}
use Rattle.laws.proofs.Checks.{passed_check, stopped_check}
use Rattle.laws.proofs.FileForm.{whole}
use Rattle.model.proofs.fields.byte_at.Goals as goal

pub returns-then-not-is_formed : goal.returns-then-not-is_formed
returns-then-not-is_formed c = rw c.at.ensures (stopped_check 8 _ (rw (← c.if-not-is_formed.ensures)))

pub bounds-file-at : goal.bounds-file-at
bounds-file-at c = omega (arith, whole _ _ _ 1 (sym c.if-not-is_formed.ensures))

pub returns : goal.returns
unfolding value byte
returns c = (
  passed_check 8 _ (rw (← c.if-not-is_formed.ensures)),
  (refl, omega (arith, c.type_inv.file (c.args.at + 3))),
)
