-- The whole of a file: the first fault of its fields in their order, or the model that was read.
use Prim.Native.Nat.{ℕ, zero, suc, ◌<◌, ◌≤◌}
use native.Mathlib.Omega.{arith}
use mathlib.Core.Path.{◌≡◌, refl, sym, ap, ap₂, ◌∙◌}
use mathlib.Core.List.{List, ◌++◌}
use lib.ListN.{length, take, drop}
use lib.Seq.{length-take-le}
use borrow.Author.Tests.{ne_eqb}
use Rattle.std.specs.Prelude.{Result, Ok, Err}
use Rattle.laws.specs.Bits.{from_rows, each_below}
use Rattle.laws.specs.Refusals.{Check, Fault as FirstFault, first_of}
use Rattle.laws.specs.File as paper
use Rattle.laws.specs.File.{file_of, offset_of_event, value, masks, number_checks, mask_checks, event_checks, end_checks, front_checks, file_checks}
use Rattle.laws.specs.File.{model_read, found, reading}
use Rattle.laws.specs.Answers.{over, arrow_slice}
use Rattle.laws.proofs.Over.{over_first}
use Rattle.laws.proofs.Checks.{passed_each, stopped_each, all_passed, first_stops}
use Rattle.laws.proofs.FileForm.{read_fault, form_read, arrows_read, form_first}
use Rattle.model.specs.Fields.{IsField}
use Rattle.model.specs.Reader.{told, tells, model_told, ReadsFile, FrontRead, FrontRefused}
use Rattle.model.specs.declared.Model.{Model}
use Rattle.model.specs.Numbers.{number_of}
use Rattle.model.specs.declared.refusals.Fault.{Fault}
use Rattle.model.proofs.Numbers.{some_number}
use Rattle.model.proofs.EventsRead.{Gathered, all_gathered}

-- the checks behind the four fields before the events
abbrev later_checks : List ℕ → ℕ → ℕ → List Check
later_checks file n k = each_below k (event_checks file n) ++ end_checks file (offset_of_event n k)

front_before : (file : List ℕ) (n k room : ℕ) → file_checks file n k room ≡ front_checks file n k room ++ later_checks file n k
unfolding file_checks front_checks number_checks mask_checks
front_before file n k room = refl

module _ (file old : List ℕ) where
  abbrev read : paper.Reading
  read = reading file (length old)

  abbrev first : FirstFault
  first = first_of (file_checks file (value file 0) (value file 4) (length old))

  -- what is read where the first fault is f
  abbrev read_with : FirstFault → paper.Reading
  read_with f = found f (model_read file (value file 0) (value file 4))

  read_with_is : {f : FirstFault} → first ≡ f → read ≡ read_with f
  unfolding reading
  read_with_is e = ap read_with e

  -- there are k numbers of arrows, none after a fault, and there is room for them
  pub numbers_fit : (length read.model.arrows ≡ read.model.k) × (read.model.k ≤ length old)
  unfolding found
  numbers_fit = go first.number refl
    where
      go : (x : ℕ) → first.number ≡ x → (length read.model.arrows ≡ read.model.k) × (read.model.k ≤ length old)
      go zero e = arrows_read file (length old) (ap (λ f. f.number) (read_fault file (length old)) ∙ e)
      go (suc x) e =
          let f : first ≡ record { number = suc x; offset = first.offset } = ap (λ y. record { number = y; offset = first.offset }) e in
          rw (read_with_is f) (refl, omega arith)

  -- the model that was read has the arrow numbers that now stand first in the slice
  pub numbers_first : take read.model.k read.model.arrows ≡ take read.model.k (arrow_slice read old)
  unfolding arrow_slice
  numbers_first = over_first read.model.arrows old read.model.k numbers_fit.0

  -- what is told and what the slice holds is all: with number 0 the file is that of the model that now stands there
  reads_as : {new : List ℕ} {answer : Result Model Fault} → told answer ≡ tells read → new ≡ arrow_slice read old → ReadsFile file old new answer
  unfolding tells
  reads_as {new} {answer} t s =
      let form : read.fault.number ≡ 0 → file_of (model_told (tells read) (arrow_slice read old)) ≡ file =
      λ h. sym (form_first read.model (arrow_slice read old) numbers_first) ∙ form_read file (length old) h in
      record { told_is = t; arrows_are = s; form_is = λ h. rw (t, s) (form (ap (λ u. u.number) (sym t) ∙ h)) }

  -- a first fault is told, and the slice is as it was
  refuses : {f : Fault} → first ≡ record { number = number_of f.refusal; offset = f.offset } → ReadsFile file old old (Err f)
  unfolding told tells arrow_slice over found
  refuses {f} s = go (number_of f.refusal) refl
    where
      go : (x : ℕ) → number_of f.refusal ≡ x → ReadsFile file old old (Err f)
      go zero z = absurd (some_number f.refusal z)
      go (suc x) z =
          let e : first ≡ record { number = suc x; offset = f.offset } = rw z at s in
          let g : FirstFault = record { number = suc x; offset = f.offset } in
          let same : told (Err f) ≡ tells (read_with g) = rw (z, ne_eqb (suc x) 0 (λ n. omega arith)) in
          reads_as (same ∙ sym (ap tells (read_with_is e))) (sym (ap (λ r. arrow_slice r old) (read_with_is e)))

  -- a fault before the events
  pub refuses_front : {f : Fault} → FrontRefused file (length old) f → ReadsFile file old old (Err f)
  refuses_front r = refuses (ap first_of (front_before file (value file 0) (value file 4) (length old)) ∙ r.stopped _)

  module _ {m : Model} (h : FrontRead file (length old) m) where
    -- where the fields before the events have no fault, the others decide
    behind_front : {f : FirstFault} → first_of (later_checks file m.n m.k) ≡ f → first ≡ f
    behind_front e =
        ap₂ (λ n k. first_of (file_checks file n k (length old))) (sym h.n_is) (sym h.k_is)
        ∙ ap first_of (front_before file m.n m.k (length old)) ∙ h.passed (later_checks file m.n m.k) ∙ e

    module _ {numbers : List ℕ} {a : ℕ} (g : Gathered file m.n m.k numbers a) where
      -- a fault of an event
      pub refuses_event : {f : Fault} → a < m.k → IsField 64 (event_checks file m.n a) (from_rows 8 (masks file m.n a)) (Err f)
          → ReadsFile file old old (Err f)
      refuses_event l stopped = refuses (behind_front (stopped_each (event_checks file m.n) m.k a l g.passed stopped _))

      -- none of the events' checks applies
      module _ (all : m.k ≤ a) where
        behind_events : {f : FirstFault} → first_of (end_checks file (offset_of_event m.n m.k)) ≡ f → first ≡ f
        behind_events e = behind_front (passed_each (event_checks file m.n) m.k (λ b l. g.passed b (omega arith)) _ ∙ e)

        module _ {at : ℕ} (there : at ≡ offset_of_event m.n m.k) where
          -- a fault of the end field, or a byte behind it
          pub refuses_end : {f : Fault} → IsField 8 (end_checks file at) 0 (Err f) → ReadsFile file old old (Err f)
          refuses_end stopped = refuses (behind_events (rw (← there) (first_stops (end_checks file at) stopped)))

          -- no fault at all: the model was read, and its arrow numbers stand in the slice
          pub reads : {x : ℕ} {new : List ℕ} → IsField 8 (end_checks file at) 0 (Ok x) → new ≡ take m.k numbers ++ drop m.k old
              → ReadsFile file old new (Ok m)
          unfolding told tells arrow_slice over model_read found
          reads (passed, _) so =
              let none : first ≡ record { number = 0; offset = 0 } = behind_events (rw (← there) (all_passed (end_checks file at) passed)) in
              let e = read_with_is none in
              let long : length (take m.k numbers) ≡ m.k = length-take-le m.k numbers (omega (arith, g.long, h.k_most)) in
              let stand = all_gathered g h.k_most all in
              reads_as (rw (h.n_is, h.k_is, h.start_is, h.home_is) (sym (ap tells e)))
              (so ∙ ap (λ n. take m.k numbers ++ drop n old) (sym long) ∙ ap (λ xs. over xs old) (stand ∙ rw (h.n_is, h.k_is)) ∙ sym (ap (λ r. arrow_slice r old) e))
