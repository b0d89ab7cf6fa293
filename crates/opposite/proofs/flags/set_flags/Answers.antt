-- Each turn writes the flag of one set. The loop keeps that the flags of the sets from number i on are left to write.
use borrow.Author.Rules.{rules}
use Rattle.opposite.proofs.Flagging.{sets_begin, sets_next, sets_done}
use Rattle.opposite.proofs.flags.set_flags.Goals as goal

pub loop-i-init : goal.loop-i-init
loop-i-init c = sets_begin c.args.masks.now c.args.flags.now c.requires

pub loop-i-preserved : goal.loop-i-preserved
loop-i-preserved c = sets_next _ c.loop-i.invariant c.loop-i-test.true (search rules)

pub returns : goal.returns
returns c = sets_done _ c.loop-i.invariant c.loop-i-test.false
