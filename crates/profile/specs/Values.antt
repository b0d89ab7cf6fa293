-- How the code's values stand for those of document 01: a profile, and the profile of what was read.
use Rattle.std.specs.Prelude.{ℕ, ◌&&◌, Option as Maybe, Some, None}
use Rattle.std.proofs.Math.Option.{Option, none, some}
use Rattle.laws.specs.Bits.{bit, cell, grid}
use Rattle.laws.specs.Profiles as paper
use Rattle.profile.specs.declared.Profile.{Profile}

-- a profile's two numbers
abbrev pub profile : Profile → paper.Profile
profile t = record { arrows = t.arrows; marks = t.marks }

-- arrows alone: what a set is led to does not depend on marks
abbrev pub plain : ℕ → paper.Profile
plain arrows = record { arrows = arrows; marks = 0 }

-- the profile of one event from its lent number: an arrow is marked when it arrives at a home state
unfoldable pub event_value : ℕ → ℕ → paper.Profile
event_value arrows home = record { arrows = arrows; marks = grid 8 (λ p q. cell 8 arrows p q && bit home q) }

-- the value of what was read so far, as document 01's: none where it has none
abbrev pub so_far : {A B : Type 0} → (A → B) → Maybe A → Option B
so_far f None = none
so_far f (Some x) = some (f x)

-- the profile of what was read so far: none where nothing was
abbrev pub before : Maybe Profile → Option paper.Profile
before = so_far profile

-- the profile of what was read with one event more
abbrev pub next_value : Maybe Profile → Profile → paper.Profile
next_value None event = profile event
next_value (Some t) event = paper.join 8 (profile t) (profile event)
