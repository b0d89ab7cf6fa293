-- What `of_event` makes of the lent number is the profile of the event, since the model is not refused.
use Rattle.std.proofs.Common.{◌∙◌}
use Rattle.profile.proofs.Lent.{event_value_is}
use Rattle.closing.proofs.ProfileTable.{next_value_is}
use Rattle.closing.proofs.profiles.ProfileMemoryRows.next.Goals as goal

pub returns : goal.returns
returns c =
    next_value_is _ _ c.args.x (c.of_event.ensures ∙ event_value_is _ c.args.m.unrefused _ c.requires) c.next.ensures
