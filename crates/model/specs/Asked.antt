-- How a model of the code stands for that of document 01.
use Rattle.std.specs.Prelude.{ℕ, List}
use Rattle.laws.specs.Model as laws
use Rattle.model.specs.declared.Model.{Model}

-- the model that is asked about: its numbers and masks, and the slice of arrows beside it
abbrev pub asked : Model → List ℕ → laws.Model
asked m arrows = record { n = m.n; k = m.k; start = m.start; home = m.home; arrows = arrows }
