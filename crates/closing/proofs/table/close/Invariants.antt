use Rattle.std.proofs.Common.{◌-◌, ◌≡◌}
use Rattle.laws.specs.Tables.{made}
use Rattle.model.specs.Lent.{machine_of}
use Rattle.closing.proofs.Filling.{ByEntries}
use Rattle.closing.proofs.table.close.Given as goal

abbrev pub invariant-loop-i : goal.invariant-loop-i
invariant-loop-i g l = let r = g.R.Rows in
    let Val = r.values (machine_of l.m) in
    let room = r.room_for (r.slices l.fn.rows) in record {
      stands : ByEntries Val r.write l.m.model.k room (made Val l.m.model.k room) (r.slices l.fn.rows) (r.slices l.table.rows.now) l.table.count l.i;
      same : r.Same l.table.rows.now l.fn.rows;
      same_reference : l.table.rows.ghost_name ≡ l.initial.table.rows.ghost_name;
    }

abbrev pub decreases-loop-i : goal.decreases-loop-i
decreases-loop-i g l = let r = g.R.Rows in r.room_for (r.slices l.fn.rows) - l.i
