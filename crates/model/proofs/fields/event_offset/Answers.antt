-- At most 16 events of at most 12 bytes stand before the offset, which is so at most 208.
use Prim.Native.Nat.{ℕ, ◌+◌, ◌*◌, ◌≤◌}
use native.Mathlib.Omega.{arith}
use native.Mathlib.Nat.{mul-le-mul}
use mathlib.Core.Path.{refl}
use Rattle.laws.specs.File.{offset_of_event}
use Rattle.model.proofs.fields.event_offset.Goals as goal

-- the fields of a events have so many bytes at most
events_short : {n a : ℕ} → n ≤ 8 → a ≤ 16 → a * (n + 4) ≤ 192
events_short {n = n} {a = a} h l = mul-le-mul {n₁ = a} {m₁ = n + 4} {n₂ = 16} {m₂ = 12} l (omega arith)

pub returns : goal.returns
unfolding offset_of_event
returns c = (refl, omega (arith, events_short c.requires.0 c.requires.1))
