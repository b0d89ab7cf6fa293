-- What reading a model file ensures, for every file and every lent slice of arrows: the answer and all memory.
use Rattle.std.specs.Prelude.{ℕ, ◌≤◌, ◌≡◌, Bool, true, false, List, length, eqb, Result, Ok, Err}
use Rattle.laws.specs.Model as laws
use Rattle.laws.specs.Refusals.{Passed, Stopped}
use Rattle.laws.specs.File as paper
use Rattle.laws.specs.Answers.{arrow_slice}
use Rattle.model.specs.declared.Model.{Model}
use Rattle.model.specs.declared.refusals.Fault.{Fault}
use Rattle.model.specs.Numbers.{number_of}

-- what a reading tells: whether a model was read, the number and the offset, and the model's numbers and masks
pub record Told : Type 0 where
  pub is_read : Bool
  pub number : ℕ
  pub offset : ℕ
  pub n : ℕ
  pub k : ℕ
  pub start : ℕ
  pub home : ℕ

-- THE NUMBER AND THE VALUES of each case of a reading
unfoldable pub told : Result Model Fault → Told
told (Ok m) = record { is_read = true; number = 0; offset = 0; n = m.n; k = m.k; start = m.start; home = m.home }
told (Err f) = record { is_read = false; number = number_of f.refusal; offset = f.offset; n = 0; k = 0; start = 0; home = 0 }

-- the same of what document 01 finds in a file: a model is read exactly with number 0
unfoldable pub tells : paper.Reading → Told
tells r =
    record {
      is_read = eqb r.fault.number 0;
      number = r.fault.number;
      offset = r.fault.offset;
      n = r.model.n;
      k = r.model.k;
      start = r.model.start;
      home = r.model.home;
    }

-- the model that was told, with the slice of arrows beside it
abbrev pub model_told : Told → List ℕ → laws.Model
model_told t arrows = record { n = t.n; k = t.k; start = t.start; home = t.home; arrows = arrows }

-- THE CONTRACT OF READING: the slice of arrows was old when it was lent, and is now new
pub record ReadsFile (file old new : List ℕ) (answer : Result Model Fault) : Type 0 where
  -- the number, the offset, n, k and both masks
  pub told_is : told answer ≡ tells (paper.reading file (length old))
  -- a number for each event and then what stood there before; as it was after a refusal
  pub arrows_are : new ≡ arrow_slice (paper.reading file (length old)) old
  -- with number 0 the file is, byte for byte, that of the model that now stands there
  pub form_is : (told answer).number ≡ 0 → paper.file_of (model_told (told answer) new) ≡ file

-- the four fields before the events were read: none of their checks applies, and m has their values, with n and k in their ranges and
-- room for k arrow numbers
pub record FrontRead (file : List ℕ) (room : ℕ) (m : Model) : Type 0 where
  pub n_is : m.n ≡ paper.value file 0
  pub k_is : m.k ≡ paper.value file 4
  pub start_is : m.start ≡ paper.value file 8
  pub home_is : m.home ≡ paper.value file 12
  pub n_most : m.n ≤ 8
  pub k_most : m.k ≤ 16
  pub k_fits : m.k ≤ room
  pub passed : Passed (paper.front_checks file m.n m.k room)

-- or one of them has the first fault
pub record FrontRefused (file : List ℕ) (room : ℕ) (f : Fault) : Type 0 where
  pub stopped : Stopped (paper.front_checks file (paper.value file 0) (paper.value file 4) room) (number_of f.refusal) f.offset

abbrev pub IsFront : List ℕ → ℕ → Result Model Fault → Type 0
IsFront file room (Ok m) = FrontRead file room m
IsFront file room (Err f) = FrontRefused file room f
