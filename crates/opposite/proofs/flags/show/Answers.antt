-- Each turn writes whether one profile has a block: it has one exactly if it rejects with a set other than the empty one. The loop keeps
-- that what is to be written for the profiles from number j on is left to write.
use borrow.Author.Rules.{rules}
use Rattle.opposite.proofs.Adding.{block_by_pairs}
use Rattle.opposite.proofs.Flagging.{shown_begin, shown_next, shown_done}
use Rattle.opposite.proofs.flags.show.Goals as goal

pub loop-j-init : goal.loop-j-init
loop-j-init c = shown_begin 8 c.args.masks.now c.args.profiles.now _ c.requires

pub loop-j-preserved : goal.loop-j-preserved
loop-j-preserved c =
    let has = block_by_pairs 8 _ _ c.pairs_of.ensures in
    shown_next 8 c.args.masks.now c.args.profiles.now _ c.requires c.loop-j.invariant c.loop-j-test.true c.at.ensures
    (rw (← has) (search rules))

pub returns : goal.returns
returns c = shown_done 8 c.args.masks.now c.args.profiles.now _ c.requires c.loop-j.invariant c.loop-j-test.false
