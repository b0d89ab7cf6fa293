use Rattle.model.specs.Lent.{checked_model}
use Rattle.opposite.specs.Lent.{profiles_of, shown_of}
use Rattle.opposite.specs.Lines.{sets_lines}
use Rattle.opposite.proofs.Leaving.{SetsLeaving}
use Rattle.opposite.proofs.arrows.Lines.sets.Given as goal

abbrev pub invariant-loop-i : goal.invariant-loop-i
invariant-loop-i l = SetsLeaving (checked_model l.shown.tables.now.asked) l.shown.tables.now.masks.now (profiles_of l.shown.tables.now.profiles) (shown_of l.shown.tables.now l.shown.bytes.now)
    (sets_lines l.shown) l.initial.self l.self l.i
