-- A checked model, as document 01's.
use Rattle.std.specs.Prelude.{ℕ}
use Rattle.laws.specs.Model as laws
use Rattle.laws.specs.Model.{Machine, machine}
use Rattle.model.specs.Asked.{asked}
use Rattle.model.specs.declared.checked.Checked.{Checked}

-- the model with its arrows, and its machine
abbrev pub checked_model : Checked → laws.Model
checked_model c = asked c.model c.arrows.now

abbrev pub machine_of : Checked → Machine ℕ
machine_of c = machine 8 (checked_model c)
