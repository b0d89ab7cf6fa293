use Rattle.model.specs.Lent.{machine_of}
use Rattle.profile.specs.Values.{profile, before as before_of}
use Rattle.opposite.specs.Lent.{profiles_of}
use Rattle.opposite.specs.Lines.{leads_lines}
use Rattle.opposite.proofs.Lines.{Left}
use Rattle.opposite.proofs.Leading.{leads_from}
use Rattle.opposite.proofs.arrows.Lines.leads_on.Given as goal

abbrev pub invariant-loop-a : goal.invariant-loop-a
invariant-loop-a l = Left (leads_lines l.asked l.block l.p l.x) l.initial.self l.self
    (leads_from 8 (machine_of l.asked) l.asked.model.k (profiles_of l.block.profiles) l.block.gate (profile l.block.profile) l.p
    (before_of l.x) l.a)
