-- Where y is the block's profile the arrow to its gate is put, and else there is none to put.
use mathlib.Core.Path.{◌≡◌, sym, ◌∙◌}
use mathlib.Core.Bool.{true, false}
use Rattle.laws.specs.Profiles.{same_profile}
use Rattle.profile.specs.Values.{profile}
use Rattle.opposite.proofs.Lines.{begin, all_written}
use Rattle.opposite.proofs.arrows.Lines.to_gate.Goals as goal

pub put-requires-clause-room : goal.put-requires-clause-room
unfolding same_profile
put-requires-clause-room c =
    let is : same_profile (profile c.args.y) (profile c.args.block.profile) ≡ true = sym c.is_same.ensures ∙ c.if-is_same.true in
    rw is at c.requires.room

pub returns-then-is_same : goal.returns-then-is_same
unfolding same_profile
returns-then-is_same c =
    let is : same_profile (profile c.args.y) (profile c.args.block.profile) ≡ true = sym c.is_same.ensures ∙ c.if-is_same.true in
    rw is c.put.ensures

pub returns-else-is_same : goal.returns-else-is_same
unfolding same_profile
returns-else-is_same c =
    let other : same_profile (profile c.args.y) (profile c.args.block.profile) ≡ false = sym c.is_same.ensures ∙ c.if-is_same.false in
    all_written (begin c.requires.room) (rw other)
