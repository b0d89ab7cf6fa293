-- The search ends with no pair, or with the first that rejects. Then its words have room or have none: each return is one of these cases.
use Rattle.cover.proofs.Concluding.{covers, too_long, uncovers}
use Rattle.cover.proofs.answer.conclude.Goals as goal

pub returns-in_default : goal.returns-in_default
returns-in_default c = covers c.args.s c.args.t c.in_default.ensures

pub returns-in_default-place : goal.returns-in_default-place
returns-in_default-place c = too_long c.args.s c.args.t c.in-Some.ensures c.in_default-place.ensures

pub returns : goal.returns
returns c = uncovers c.args.s c.args.t c.in-Some.ensures c.in-Some-place.ensures
