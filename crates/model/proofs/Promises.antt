-- WHAT FOLLOWS FROM THE CONTRACTS OF THE MODEL'S CALLS: no second result meets them; and of reading: a model that was read is not refused,
-- a file is read exactly if it is that of a model, and what is past the events stays as it was.
use Prim.Native.Nat.{ℕ, min, ◌≤◌}
use native.Mathlib.Omega.{arith}
use mathlib.Core.Path.{◌≡◌, refl, sym, ap, ap₂, ◌∙◌}
use mathlib.Core.Logic.{◌↔◌}
use mathlib.Core.List.{List}
use lib.ListN.{length, take}
use Rattle.std.specs.Prelude.{Result, Ok, Err, IfOk}
use Rattle.laws.specs.Model as laws
use Rattle.laws.specs.Model.{eight}
use Rattle.laws.specs.Refusals.{first_of, model_checks, Unrefused}
use Rattle.laws.specs.File as paper
use Rattle.laws.specs.File.{file_of, reading}
use Rattle.laws.specs.Answers.{Kept, arrow_slice}
use Rattle.laws.proofs.Booleans.{never, one_value}
use Rattle.laws.proofs.Unrefused.{as_asked}
use Rattle.laws.proofs.Read.{with_arrows, event_same}
use Rattle.laws.proofs.Over.{over_length, written}
use Rattle.laws.proofs.FileForm.{unrefused_read}
use Rattle.laws.proofs.FileBack.{valid_exactly}
use Rattle.model.specs.Asked.{asked}
use Rattle.model.specs.Numbers.{refused}
use Rattle.model.specs.declared.refusals.Refusal.{Refusal}
use Rattle.model.specs.declared.checked.Checked.{Checked}
use Rattle.model.specs.Reader.{told, tells, model_told, ReadsFile}
use Rattle.model.specs.declared.Model.{Model}
use Rattle.model.specs.declared.refusals.Fault.{Fault}
use Rattle.model.proofs.Numbers.{some_number, one_number}
use Rattle.model.proofs.FileRead.{numbers_fit, numbers_first}

-- WHAT IS REFUSED OF A MODEL is one number
pub one_refusal : (m : Model) (arrows : List ℕ) {r s : ℕ} → r ≡ (first_of (model_checks eight (asked m arrows))).number
    → s ≡ (first_of (model_checks eight (asked m arrows))).number → r ≡ s
one_refusal m arrows = one_value

-- what the contract of `check` says of a result
abbrev pub Checks : Model → List ℕ → Result Checked Refusal → Type 0
Checks m arrows result =
    (refused result ≡ (first_of (model_checks eight (asked m arrows))).number)
    × IfOk result (λ c. (c.model ≡ m) × (c.arrows.now ≡ arrows))

-- two results are of one refusal, or of one model with the same arrow numbers
abbrev pub SameCheck : Result Checked Refusal → Result Checked Refusal → Type 0
SameCheck (Ok c) (Ok d) = (c.model ≡ d.model) × (c.arrows.now ≡ d.arrows.now)
SameCheck (Ok c) (Err e) = ⊥
SameCheck (Err r) (Ok d) = ⊥
SameCheck (Err r) (Err e) = r ≡ e

-- CHECKING A MODEL has one result
pub one_check : (m : Model) (arrows : List ℕ) (a b : Result Checked Refusal) → Checks m arrows a → Checks m arrows b → SameCheck a b
one_check m arrows (Ok c) (Ok d) h g = (one_value h.1.0 g.1.0, one_value h.1.1 g.1.1)
one_check m arrows (Ok c) (Err e) h g = some_number e (one_value g.0 h.0)
one_check m arrows (Err r) (Ok d) h g = some_number r (one_value h.0 g.0)
one_check m arrows (Err r) (Err e) h g = one_number r e (one_value h.0 g.0)

-- THE SMALLER of two numbers is one
pub one_least : (a b : ℕ) {r s : ℕ} → r ≡ min a b → s ≡ min a b → r ≡ s
one_least a b = one_value

-- a model of the code is its numbers and masks
same_model : (a b : Model) → a.n ≡ b.n → a.k ≡ b.k → a.start ≡ b.start → a.home ≡ b.home → a ≡ b
same_model a b n k s h =
    ap₂ (λ x y. record { n = x; k = y; start = a.start; home = a.home }) n k
    ∙ ap₂ (λ x y. record { n = b.n; k = b.k; start = x; home = y }) s h

-- no two readings tell the same
told_once : (a b : Result Model Fault) → told a ≡ told b → a ≡ b
unfolding told
told_once a b e =
    go a b (ap (λ t. t.is_read) e) (ap (λ t. t.number) e) (ap (λ t. t.offset) e) (ap (λ t. t.n) e) (ap (λ t. t.k) e)
    (ap (λ t. t.start) e) (ap (λ t. t.home) e)
  where
    go : (a b : Result Model Fault) → (told a).is_read ≡ (told b).is_read → (told a).number ≡ (told b).number → (told a).offset ≡ (told b).offset
        → (told a).n ≡ (told b).n → (told a).k ≡ (told b).k → (told a).start ≡ (told b).start → (told a).home ≡ (told b).home → a ≡ b
    go (Ok m) (Ok l) r f o n k s h = ap Ok (same_model m l n k s h)
    go (Ok m) (Err d) r f o n k s h = never (sym r)
    go (Err d) (Ok l) r f o n k s h = never r
    go (Err d) (Err e) r f o n k s h =
        ap₂ (λ x y. Err (record { refusal = x; offset = y })) (one_number d.refusal e.refusal f) o

-- READING has one result: the answer, and what the slice holds
pub one_reading : (file old : List ℕ) {new new' : List ℕ} {answer answer' : Result Model Fault} → ReadsFile file old new answer
    → ReadsFile file old new' answer' → (answer ≡ answer') × (new ≡ new')
one_reading file old c d = (told_once _ _ (c.told_is ∙ sym d.told_is), c.arrows_are ∙ sym d.arrows_are)

-- a model as asked is so with every slice that begins with its k arrow numbers
still_asked : (m : laws.Model) (arrows : List ℕ) → take m.k m.arrows ≡ take m.k arrows → m.k ≤ length arrows → Unrefused eight m
    → Unrefused eight (with_arrows m arrows)
still_asked m arrows same there u =
    record {
      n_least = u.n_least;
      n_most = u.n_most;
      k_least = u.k_least;
      k_most = u.k_most;
      arrows_there = there;
      start_inside = u.start_inside;
      home_inside = u.home_inside;
      arrows_inside = λ a p q l w b. u.arrows_inside a p q l w (rw (event_same m arrows same a l) b);
    }

module _ {file old new : List ℕ} {answer : Result Model Fault} (c : ReadsFile file old new answer) where
  abbrev read : paper.Reading
  read = reading file (length old)

  -- what is told, of what is found in the file
  number_is : (told answer).number ≡ read.fault.number
  unfolding tells
  number_is = ap (λ t. t.number) c.told_is

  model_is : model_told (told answer) new ≡ with_arrows read.model (arrow_slice read old)
  unfolding tells
  model_is = rw (c.told_is, c.arrows_are)

  -- A MODEL IS READ exactly if the file is that of a model as asked, for whose arrows there is room
  pub read_exactly : ((told answer).number ≡ 0) ↔ ((m : laws.Model) × Unrefused eight m × (m.k ≤ length old) × (file_of m ≡ file))
  read_exactly = rw number_is (valid_exactly file (length old))

  -- the slice is as long as before, and past the events, all of it after a refusal, it is as it was
  pub read_kept : Kept (told answer).k old new
  unfolding tells arrow_slice
  read_kept = let (all, fits) = numbers_fit file old in rw (c.told_is, c.arrows_are) (written _ old _ all fits)

  told_unrefused : (told answer).number ≡ 0 → (first_of (model_checks eight (model_told (told answer) new))).number ≡ 0
  unfolding arrow_slice
  told_unrefused h =
      let (all, fits) = numbers_fit file old in
      let long = over_length read.model.arrows old (omega arith) in
      let u = unrefused_read file (length old) (sym number_is ∙ h) in
      ap (λ m. (first_of (model_checks eight m)).number) model_is
      ∙ as_asked eight _ (still_asked read.model (arrow_slice read old) (numbers_first file old) (omega arith) u)

-- THE MODEL THAT WAS READ, with the slice as it now is, is not refused
pub read_unrefused : {file old new : List ℕ} {m : Model} → ReadsFile file old new (Ok m)
    → (first_of (model_checks eight (asked m new))).number ≡ 0
unfolding told
read_unrefused c = told_unrefused c refl
