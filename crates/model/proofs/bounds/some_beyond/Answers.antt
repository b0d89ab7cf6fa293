-- The first k arrow numbers are asked one after the other.
use mathlib.Core.Path.{◌∙◌}
use lib.ListN.{take}
use Rattle.std.proofs.Common.{rules, tests}
use Rattle.std.proofs.lemmas.Iterator.{YieldsList-from_slice}
use Rattle.std.proofs.lemmas.Iterator.Search.{any_from_yields_List}
use Rattle.laws.specs.Refusals.{arrows_beyond}
use Rattle.model.proofs.Beyond.{asked_any}
use Rattle.model.proofs.bounds.some_beyond.Goals as goal

pub returns : goal.returns
returns c =
    let first = take c.args.k c.args.arrows.now in
    any_from_yields_List (arrows_beyond 8 c.args.n) _ _ _ c.any.ensures.ran (YieldsList-from_slice first cc) (λ x b q k. search (rules, tests))
    ∙ asked_any (arrows_beyond 8 c.args.n) first
