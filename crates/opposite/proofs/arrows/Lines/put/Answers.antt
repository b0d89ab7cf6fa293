-- Each number is set in its slice behind those that stand there, and so the arrow is written there.
use mathlib.Core.Path.{refl}
use Rattle.opposite.proofs.Writing.{puts_one}
use Rattle.opposite.proofs.arrows.Lines.put.Goals as goal

pub returns : goal.returns
returns c =
    record {
      puts = puts_one _ _ _ _ _ c.requires.room.room;
      same = record { from = refl; event = refl; to = refl };
    }
