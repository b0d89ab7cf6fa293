-- A row has a bit n or above exactly if its quotient by 2^n is not 0.
use Rattle.laws.specs.Refusals.{mask_beyond}
use Rattle.model.proofs.Beyond.{quotient_test}
use Rattle.model.proofs.bounds.row_beyond.Goals as goal

pub returns : goal.returns
unfolding mask_beyond
returns c = rw c.from.ensures (quotient_test c.args.n c.args.row)
