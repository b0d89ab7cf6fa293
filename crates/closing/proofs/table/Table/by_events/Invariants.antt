use Rattle.std.proofs.Common.{◌≡◌}
use Rattle.laws.specs.Tables.{through_events}
use Rattle.model.specs.Lent.{machine_of}
use Rattle.profile.specs.Values.{so_far}
use Rattle.closing.specs.Memory.{going}
use Rattle.closing.proofs.Filling.{ByEvents}
use Rattle.closing.proofs.table.Table.by_events.Given as goal

abbrev pub invariant-loop-a : goal.invariant-loop-a
invariant-loop-a g l = let r = g.R.Rows in
    let Val = r.values (machine_of l.m) in
    let old = r.slices l.fn.self.rows.now in
    let room = r.room_for old in record {
      stands : ByEvents Val r.write room l.from (so_far r.paper l.x) l.m.model.k
          (through_events Val room l.from (so_far r.paper l.x) l.m.model.k 0 (going (r.read old l.fn.self.count))) old
          (r.slices l.self.rows.now) l.self.count l.a;
      same : r.Same l.self.rows.now l.fn.self.rows.now;
      same_reference : l.self.rows.ghost_name ≡ l.fn.self.rows.ghost_name;
    }
