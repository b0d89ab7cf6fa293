-- The place of y gives the number of its state; the arrow to the gate, if there is one, and that to the state are put one behind the other.
use native.Mathlib.Omega.{arith}
use mathlib.Core.Path.{refl}
use Rattle.opposite.specs.Drawing.{onto_at}
use Rattle.opposite.proofs.Rows.{profile_within}
use Rattle.opposite.proofs.Leading.{first_room, second_room, both_written, onto_both}
use Rattle.opposite.proofs.arrows.Lines.onto.Goals as goal

pub to_gate-requires-clause-room : goal.to_gate-requires-clause-room
unfolding onto_at
to_gate-requires-clause-room c = first_room c.requires.room _ _ refl

pub overflow_add-block-2 : goal.overflow_add-block-2
overflow_add-block-2 c = omega (arith, profile_within _ _ c.args.block.profiles.alike _ c.place.ensures)

pub put-requires-clause-room : goal.put-requires-clause-room
put-requires-clause-room c =
    second_room c.requires.room _ _ (onto_both c.args.block c.args.p c.args.a c.args.y c.place.ensures) c.to_gate.ensures

pub put-requires-clause-p_bound : goal.put-requires-clause-p_bound
put-requires-clause-p_bound c = omega (arith, profile_within _ _ c.args.block.profiles.alike _ c.place.ensures)

pub returns : goal.returns
returns c =
    both_written c.requires.room _ _ (onto_both c.args.block c.args.p c.args.a c.args.y c.place.ensures) c.to_gate.ensures
    c.put.ensures
