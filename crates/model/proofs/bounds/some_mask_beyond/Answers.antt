-- The masks are asked one after the other.
use mathlib.Core.Path.{◌∙◌}
use Rattle.std.proofs.Common.{rules, tests}
use Rattle.std.proofs.lemmas.Iterator.{YieldsList-from_slice}
use Rattle.std.proofs.lemmas.Iterator.Search.{any_from_yields_List}
use Rattle.laws.specs.Refusals.{mask_beyond}
use Rattle.model.proofs.Beyond.{asked_any}
use Rattle.model.proofs.bounds.some_mask_beyond.Goals as goal

pub returns : goal.returns
returns c =
    any_from_yields_List (mask_beyond c.args.n) _ _ _ c.any.ensures.ran (YieldsList-from_slice c.args.masks.now cc) (λ x b q k. search (rules, tests))
    ∙ asked_any (mask_beyond c.args.n) c.args.masks.now
