-- The set of the empty word is the start mask, since the model is not refused.
use Rattle.std.proofs.Common.{sym, ap}
use Rattle.std.proofs.Math.Option.{some}
use Rattle.laws.specs.Model.{eight}
use Rattle.laws.specs.Profiles.{set_value, word_set, set_from}
use Rattle.laws.proofs.Unrefused.{start_mask}
use Rattle.closing.proofs.sets.SetMemoryRows.of_empty_word.Goals as goal

pub returns : goal.returns
unfolding set_value word_set set_from
returns c = ap some (sym (start_mask eight _ c.args.m.unrefused))
