use Rattle.model.specs.Lent.{checked_model}
use Rattle.opposite.specs.Lent.{profiles_of, shown_of}
use Rattle.opposite.specs.Lines.{set_lines}
use Rattle.opposite.proofs.Leaving.{Leaving}
use Rattle.opposite.proofs.arrows.Lines.from_set.Given as goal

abbrev pub invariant-loop-a : goal.invariant-loop-a
invariant-loop-a l = Leaving (checked_model l.shown.tables.now.asked) l.shown.tables.now.masks.now (profiles_of l.shown.tables.now.profiles) (shown_of l.shown.tables.now l.shown.bytes.now) l.i l.set
    (set_lines l.shown l.set l.i) l.initial.self l.self l.a
