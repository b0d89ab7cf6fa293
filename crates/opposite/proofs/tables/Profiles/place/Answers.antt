-- The place of a profile is the first number at which it stands.
use borrow.Author.Rules.{rules}
use borrow.Author.Tests.{tests}
use mathlib.Core.Path.{◌≡◌, ◌∙◌}
use mathlib.Core.Bool.{true, false}
use Rattle.std.proofs.lemmas.Iterator.{first_from_Range}
use Rattle.laws.specs.Profiles.{same_profile}
use Rattle.profile.specs.Values.{profile}
use Rattle.opposite.proofs.Rows.{profile_at, first_place}
use Rattle.opposite.proofs.tables.Profiles.place.Goals as goal

pub returns : goal.returns
unfolding same_profile
returns c =
    let ps = c.args.self.now in
    let same = same_profile (profile c.args.x) in
    c.unwrap_or.ensures
    ∙ first_place same ps.arrows.now ps.marks.now ps.alike c.len-many.ensures c.find.result
    (first_from_Range _ _ _ c.find.result (λ k. same (profile_at ps.arrows.now ps.marks.now k) ≡ true)
    (λ k. same (profile_at ps.arrows.now ps.marks.now k) ≡ false) c.find.ensures.ran (λ x q k. search (rules, tests)) (λ x q k. search (rules, tests)))
