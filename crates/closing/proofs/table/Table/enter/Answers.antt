-- A value that is there leaves the slices as they are, and so does one for which there is no room; a new one is stored in the next row.
use Rattle.std.proofs.Common.{sym, ◌∙◌, arith}
use Rattle.closing.proofs.Filling.{fills_there, fills_full, fills_new}
use Rattle.closing.proofs.table.Table.enter.Goals as goal

pub returns-then-is_there-clause-fills : goal.returns-then-is_there-clause-fills
returns-then-is_there-clause-fills g c M =
    fills_there g.met.R.Rows.layout (g.R.Rows.values M) c.args.self.now.within _ (sym (c.is_there.ensures M) ∙ c.if-is_there.true)

pub returns-then-room-self-clause-fills : goal.returns-then-room-self-clause-fills
returns-then-room-self-clause-fills g c M =
    fills_full g.met.R.Rows.layout (g.R.Rows.values M) c.args.self.now.within _ (sym (c.is_there.ensures M) ∙ c.if-is_there.false)
    (omega (arith, c.room.ensures))

pub returns-clause-fills : goal.returns-clause-fills
returns-clause-fills g c M =
    fills_new g.met.R.Rows.layout (g.R.Rows.values M) c.args.self.now.within _ (sym (c.is_there.ensures M) ∙ c.if-is_there.false)
    (omega (arith, c.room.ensures)) c.put.ensures.stored
