-- What each event makes of the value is entered, one after the other. The loop keeps that what the events from a on make of the entries so
-- far is the whole table.
use Rattle.std.proofs.Common.{◌∙◌}
use Rattle.closing.proofs.Filling.{passed_on, events_cut, events_next, events_done}
use Rattle.closing.proofs.table.Table.by_events.Goals as goal

pub returns-in_err-enter-clause-fills : goal.returns-in_err-enter-clause-fills
returns-in_err-enter-clause-fills g c =
    rw (passed_on _ c.from_residual.ensures)
    (events_cut g.met.R.Rows.layout _ c.loop-a.invariant.stands c.loop-a-test.true c.next-value.ensures (c.in_err-enter.ensures.fills _))

pub loop-a-preserved : goal.loop-a-preserved
loop-a-preserved g c =
    record {
      stands =
          events_next g.met.R.Rows.layout _ c.loop-a.invariant.stands c.loop-a-test.true c.next-value.ensures (c.in_ok-enter.ensures.fills _);
      same = g.met.R.Rows.chained _ _ _ c.enter.ensures.same c.loop-a.invariant.same;
      same_reference = c.enter.ensures.same_reference ∙ c.loop-a.invariant.same_reference;
    }

pub returns-clause-fills : goal.returns-clause-fills
returns-clause-fills g c = events_done g.met.R.Rows.layout _ c.loop-a.invariant.stands c.loop-a-test.false
