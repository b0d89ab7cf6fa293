-- Each slice gets its number in the row.
use Rattle.closing.specs.SetRows.{stored_next}
use Rattle.closing.proofs.sets.SetMemoryRows.put.Goals as goal

pub returns-clause-stored : goal.returns-clause-stored
returns-clause-stored c = stored_next _ _ c.requires _
