-- The first number at which a 1 stands is that of the first profile that is left.
use borrow.Author.Rules.{rules}
use borrow.Author.Tests.{tests}
use mathlib.Core.Path.{◌≡◌, refl}
use lib.ListN.{get_or}
use Rattle.std.proofs.lemmas.Iterator.{first_from_Range}
use Rattle.opposite.proofs.Rows.{next_is}
use Rattle.opposite.proofs.arrows.Shown.next_from.Goals as goal

pub returns : goal.returns
returns c =
    next_is c.args.self c.args.passed refl c.find.result
    (first_from_Range _ _ _ c.find.result (λ k. get_or c.args.self.bytes.now k 0 ≡ 1) (λ k. get_or c.args.self.bytes.now k 0 ≡ 1 → ⊥)
    c.find.ensures.ran (λ x q k. search (rules, tests)) (λ x q k. search (rules, tests)))
