-- What `image` makes of the set and the lent number is the set after the event, since the model is not refused.
use Rattle.std.proofs.Common.{◌∙◌}
use Rattle.laws.specs.Profiles.{set_value, next_set}
use Rattle.profile.proofs.Lent.{set_after}
use Rattle.closing.proofs.sets.SetMemoryRows.next.Goals as goal

pub returns-in-Some : goal.returns-in-Some
unfolding set_value next_set
returns-in-Some c = rw c.in-Some.is (c.image.ensures ∙ set_after _ c.args.m.unrefused _ _ c.requires)
