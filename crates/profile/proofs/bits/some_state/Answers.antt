-- The states are asked one after the other. Each is below 8, so that the test may be asked of it, and answers what f is there.
use native.Mathlib.Omega.{arith}
use mathlib.Core.Path.{ap, ◌∙◌}
use Rattle.std.proofs.Common.{rules}
use Rattle.std.proofs.lemmas.Iterator.{YieldsList-from_range, serves_from_Range}
use Rattle.std.proofs.lemmas.Iterator.Search.{any_from_yields_List}
use Rattle.model.proofs.Beyond.{asked_below}
use Rattle.profile.proofs.bits.some_state.Goals as goal

pub any-requires-clause-callable : goal.any-requires-clause-callable
any-requires-clause-callable g c = serves_from_Range (λ x q k. search rules) (λ x l m. (m, c.requires x m))

pub returns : goal.returns
returns g c = λ f h.
    any_from_yields_List f _ _ _ c.any.ensures.ran (YieldsList-from_range 0 8 8 (cc) (omega arith))
    (λ x b q k. (ap (λ z. record { 0 = z }) k.met.0, h x b k.met.1.0 k.met.1.1))
    ∙ asked_below f 8
