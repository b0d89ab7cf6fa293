-- What reading one field ensures.
use Rattle.std.specs.Prelude.{ℕ, ◌^◌, ◌<◌, ◌≡◌, not, List, [], ◌∷◌, Result, Ok, Err}
use Rattle.laws.specs.Refusals.{Check, Passed, Stopped, fault}
use Rattle.laws.specs.File.{formed}
use Rattle.model.specs.Numbers.{number_of}
use Rattle.model.specs.declared.refusals.Fault.{Fault}

-- the answer of a field with these checks and this value, of so many bits: the value if none of its checks applies, else the number and
-- the offset of the first that does
abbrev pub IsField : ℕ → List Check → ℕ → Result ℕ Fault → Type 0
IsField bits checks value (Ok x) = Passed checks × ((x ≡ value) × (x < 2 ^ bits))
IsField bits checks value (Err f) = Stopped checks (number_of f.refusal) f.offset

-- the check of a field of one byte that is made before its value is looked at: the first of a number's and of a mask's
abbrev pub form_checks : List ℕ → ℕ → ℕ → List Check
form_checks file at tag = fault 8 at (not (formed file at tag 1)) ∷ []
