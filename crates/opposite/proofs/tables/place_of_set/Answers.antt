-- The place of a set is the first at which its mask stands.
use borrow.Author.Rules.{rules}
use borrow.Author.Tests.{tests}
use mathlib.Core.Path.{◌≡◌, ◌∙◌}
use mathlib.Core.Bool.{true, false}
use lib.Dec.{eqb}
use Rattle.std.proofs.lemmas.Iterator.{IsFirst-from_position, YieldsList-from_slice}
use Rattle.opposite.proofs.Looking.{place_first}
use Rattle.opposite.proofs.tables.place_of_set.Goals as goal

pub returns : goal.returns
returns c =
    c.unwrap_or.ensures
    ∙ place_first (eqb c.args.set) c.args.masks.now c.position.result
    (IsFirst-from_position _ _ _ (λ m. eqb c.args.set m ≡ true) (λ m. eqb c.args.set m ≡ false) c.position.ensures.ran (YieldsList-from_slice c.args.masks.now cc)
    (λ x q k. search (rules, tests)) (λ x q k. search (rules, tests)))
