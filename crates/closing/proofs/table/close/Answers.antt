-- Each entry in turn goes by all events. The loop keeps that what the entries from i on lead to is the whole table.
use Rattle.std.proofs.Common.{refl, ◌∙◌, rules}
use Rattle.laws.specs.Tables.{made}
use Rattle.closing.proofs.Filling.{passed_on, at_the_end, begin_cut, entries_begin, entries_cut, entries_next, entries_done}
use Rattle.closing.proofs.table.close.Goals as goal

pub returns-in_err-begin-clause-fills : goal.returns-in_err-begin-clause-fills
unfolding made
returns-in_err-begin-clause-fills g c =
    rw (passed_on _ c.from_residual.ensures)
    (at_the_end g.R.Rows.slices (begin_cut g.met.R.Rows.layout _ _ c.in_err-begin.ensures.fills) (search rules))

pub loop-i-init : goal.loop-i-init
unfolding made
loop-i-init g c =
    record {
      stands = entries_begin g.met.R.Rows.layout _ _ c.in_ok-begin.ensures.fills;
      same = c.begin.ensures.same;
      same_reference = refl;
    }

pub returns-in_err-by_events-clause-fills : goal.returns-in_err-by_events-clause-fills
returns-in_err-by_events-clause-fills g c =
    rw (passed_on _ c.from_residual-in_err-by_events.ensures)
    (at_the_end g.R.Rows.slices
    (entries_cut g.met.R.Rows.layout _ c.loop-i.invariant.stands c.loop-i-test.true c.value-x.ensures c.in_err-by_events.ensures.fills)
    (search rules))

pub loop-i-preserved : goal.loop-i-preserved
loop-i-preserved g c =
    record {
      stands =
          entries_next g.met.R.Rows.layout _ c.loop-i.invariant.stands c.loop-i-test.true c.value-x.ensures c.in_ok-by_events.ensures.fills;
      same = g.met.R.Rows.chained _ _ _ c.by_events.ensures.same c.loop-i.invariant.same;
      same_reference = c.by_events.ensures.same_reference ∙ c.loop-i.invariant.same_reference;
    }

pub returns-clause-fills : goal.returns-clause-fills
returns-clause-fills g c =
    at_the_end g.R.Rows.slices (entries_done g.met.R.Rows.layout _ c.loop-i.invariant.stands c.loop-i-test.false) (search rules)
