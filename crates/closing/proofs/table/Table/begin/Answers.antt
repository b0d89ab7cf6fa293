-- The two cases of the empty word.
use Rattle.model.specs.Lent.{machine_of}
use Rattle.closing.proofs.Filling.{begun_by_events, begun_by_value}
use Rattle.closing.proofs.table.Table.begin.Goals as goal

pub returns-in-None-clause-fills : goal.returns-in-None-clause-fills
returns-in-None-clause-fills g c =
    let filled = rw c.requires at c.by_events.ensures.fills in
    begun_by_events g.met.R.Rows.layout _ _ c.in-None.ensures filled

pub returns-in-Some-clause-fills : goal.returns-in-Some-clause-fills
returns-in-Some-clause-fills g c =
    let filled = rw c.requires at (c.enter.ensures.fills (machine_of c.args.m)) in
    begun_by_value g.met.R.Rows.layout _ _ c.in-Some.ensures filled
