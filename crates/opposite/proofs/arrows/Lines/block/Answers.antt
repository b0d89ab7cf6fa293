-- The gate's arrows are written, and then those of one state each turn. The loop keeps that those of the states from number i on are left
-- to write.
use native.Mathlib.Omega.{arith}
use Rattle.opposite.proofs.Leading.{gate_room, states_begin, state_fits, room_of_state, state_written, states_done}
use Rattle.opposite.proofs.arrows.Lines.block.Goals as goal

pub leads_on-requires-clause-room : goal.leads_on-requires-clause-room
leads_on-requires-clause-room c = gate_room c.args.asked.now c.args.block c.requires.room

pub loop-i-init : goal.loop-i-init
loop-i-init c = rw c.iter-x-items.ensures (states_begin c.args.asked.now c.args.block c.requires.room c.leads_on.ensures)

pub overflow_add-block-in-loop-i : goal.overflow_add-block-in-loop-i
overflow_add-block-in-loop-i c = omega (arith, state_fits c.args.asked.now c.args.block c.loop-i.invariant c.in-Some.ensures.steps)

pub leads_on-requires-in-loop-i-clause-p_bound : goal.leads_on-requires-in-loop-i-clause-p_bound
leads_on-requires-in-loop-i-clause-p_bound c =
    omega (arith, state_fits c.args.asked.now c.args.block c.loop-i.invariant c.in-Some.ensures.steps)

pub leads_on-requires-in-loop-i-clause-room : goal.leads_on-requires-in-loop-i-clause-room
leads_on-requires-in-loop-i-clause-room c = room_of_state c.args.asked.now c.args.block c.loop-i.invariant c.in-Some.ensures.steps

pub overflow_step-i : goal.overflow_step-i
overflow_step-i c = omega (arith, state_fits c.args.asked.now c.args.block c.loop-i.invariant c.in-Some.ensures.steps)

pub loop-i-preserved : goal.loop-i-preserved
loop-i-preserved c =
    state_written c.args.asked.now c.args.block c.loop-i.invariant c.in-Some.ensures.steps c.leads_on-in-loop-i.ensures

pub returns : goal.returns
returns c =
    states_done c.args.asked.now c.args.block c.requires.room c.leads_on.ensures c.loop-i.invariant c.in-None.ensures.steps.0
