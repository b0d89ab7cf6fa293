-- Each slice gets its number in the row.
use Rattle.closing.specs.ProfileRows.{stored_next}
use Rattle.closing.proofs.profiles.ProfileMemoryRows.put.Goals as goal

pub returns-clause-stored : goal.returns-clause-stored
returns-clause-stored c = stored_next _ _ c.requires _
