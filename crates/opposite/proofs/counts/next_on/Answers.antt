-- The event's profile by its lent number is the machine's.
use Rattle.std.proofs.Common.{◌∙◌}
use Rattle.laws.specs.Profiles.{profile_value}
use Rattle.profile.proofs.Lent.{event_value_is}
use Rattle.closing.proofs.ProfileTable.{next_value_is}
use Rattle.opposite.proofs.counts.next_on.Goals as goal

pub returns : goal.returns
unfolding profile_value
returns c =
    next_value_is _ _ c.args.x (c.of_event.ensures ∙ event_value_is _ c.args.asked.now.unrefused _ c.requires) c.next.ensures
