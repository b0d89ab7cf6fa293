-- The events of a file as the code reads them: the masks of one, tested and packed; its field; and the arrow numbers of all of them.
use Prim.Native.Nat.{ℕ, ◌+◌, ◌^◌, ◌<◌, ◌≤◌}
use native.Mathlib.Omega.{arith}
use mathlib.Core.Path.{◌≡◌, refl, sym, ◌∙◌}
use mathlib.Core.Bool.{Bool, true, false, ◌&&◌}
use mathlib.Core.List.{List, [], ◌∷◌, ◌++◌, map}
use lib.ListN.{length, get_or, take, drop, set, length-set}
use lib.Seq.{get_or-set_same, get_or-set_other}
use lib.Dec.{eqb}
use borrow.Author.Count.{below_more}
use borrow.Author.Tests.{eq-eqb, ne_eqb}
use Rattle.std.specs.Int.{w64, from_le_bytes}
use Rattle.std.specs.Prelude.{replicate, Result, Ok, Err}
use Rattle.laws.specs.Bits.{from_rows, counted, some_of}
use Rattle.laws.specs.Refusals.{Passed, mask_beyond}
use Rattle.laws.specs.File.{offset_of_event, byte, formed, value, masks, event_checks}
use Rattle.laws.proofs.Parts.{counted_same, counted_part}
use Rattle.laws.proofs.Checks.{passed_field, stopped_form, stopped_value}
use Rattle.model.specs.Fields.{IsField}
use Rattle.model.specs.declared.refusals.Fault.{Fault}
use Rattle.model.specs.declared.refusals.Refusal.TheVariants.{MissingState, BrokenForm}

-- at most eight masks, with none behind them, are the bytes of their number, the low byte first
pub all_packed : (xs : List ℕ) → length xs ≤ 8 → from_le_bytes w64 (xs ++ drop (length xs) (replicate 8 0)) ≡ from_rows 8 xs
unfolding from_rows
all_packed [] l = refl
all_packed (a ∷ []) l = omega arith
all_packed (a ∷ b ∷ []) l = omega arith
all_packed (a ∷ b ∷ c ∷ []) l = omega arith
all_packed (a ∷ b ∷ c ∷ d ∷ []) l = omega arith
all_packed (a ∷ b ∷ c ∷ d ∷ e ∷ []) l = omega arith
all_packed (a ∷ b ∷ c ∷ d ∷ e ∷ f ∷ []) l = omega arith
all_packed (a ∷ b ∷ c ∷ d ∷ e ∷ f ∷ g ∷ []) l = omega arith
all_packed (a ∷ b ∷ c ∷ d ∷ e ∷ f ∷ g ∷ h ∷ []) l = omega arith
all_packed (a ∷ b ∷ c ∷ d ∷ e ∷ f ∷ g ∷ h ∷ x ∷ xs) l = absurd (omega arith)

-- what reading the field of event a gives: its fault or its arrow number, by the tests that were made at its offset
module _ (file : List ℕ) (n a at : ℕ) (there : at ≡ offset_of_event n a) where
  abbrev right : Bool
  right = formed file (offset_of_event n a) 0x05 (n + 1) && eqb (value file (offset_of_event n a)) a

  abbrev wrong : Bool
  wrong = some_of (mask_beyond n) (masks file n a)

  abbrev IsEvent : Result ℕ Fault → Type 0
  IsEvent = IsField 64 (event_checks file n a) (from_rows 8 (masks file n a))

  misformed : right ≡ false → IsEvent (Err (record { refusal = BrokenForm; offset = at }))
  unfolding event_checks
  misformed e = rw there (stopped_form (offset_of_event n a) 3 (offset_of_event n a) right wrong e)

  pub event_misformed : formed file at 0x05 (n + 1) ≡ false → IsEvent (Err (record { refusal = BrokenForm; offset = at }))
  event_misformed e = misformed (rw (← there, e))

  module _ (form : formed file at 0x05 (n + 1) ≡ true) where
    pub other_event : (get_or file (at + 3) 0 ≡ a → ⊥) → IsEvent (Err (record { refusal = BrokenForm; offset = at }))
    unfolding value byte
    other_event ne = misformed (rw (← there, form, ne_eqb _ _ ne))

    module _ (event : get_or file (at + 3) 0 ≡ a) where
      is_right : right ≡ true
      unfolding value byte
      is_right = rw (← there, form, eq-eqb _ _ event)

      -- the masks that were looked at are those of the event, d of them
      pub event_beyond : {d : ℕ} → some_of (mask_beyond n) (take d (drop (at + 4) file)) ≡ true → d ≡ n
          → IsEvent (Err (record { refusal = MissingState; offset = at }))
      unfolding event_checks masks
      event_beyond e all =
          rw there (stopped_value (offset_of_event n a) 3 (offset_of_event n a) right wrong is_right (rw (← there) (rw all at e)))

      pub event_value_is : {x d : ℕ} → some_of (mask_beyond n) (take d (drop (at + 4) file)) ≡ false
          → x ≡ from_rows 8 (take d (drop (at + 4) file)) → d ≡ n → x < 2 ^ 64 → IsEvent (Ok x)
      unfolding event_checks masks
      event_value_is e is all small = (
        passed_field (offset_of_event n a) 3 (offset_of_event n a) right wrong is_right (rw (← there) (rw all at e)),
        (is ∙ rw (all, there), small),
      )

-- the first a of k events were read: none of their checks applies, and their arrow numbers stand first among 16
pub record Gathered (file : List ℕ) (n k : ℕ) (numbers : List ℕ) (a : ℕ) : Type 0 where
  pub at_most : a ≤ k
  pub long : length numbers ≡ 16
  pub passed : (b : ℕ) → b < a → Passed (event_checks file n b)
  pub stand : (b : ℕ) → b < a → get_or numbers b 0 ≡ from_rows 8 (masks file n b)

module _ {file : List ℕ} {n k : ℕ} {numbers : List ℕ} where
  pub none_gathered : length numbers ≡ 16 → Gathered file n k numbers 0
  none_gathered e = record { at_most = omega arith; long = e; passed = λ b l. absurd (omega arith); stand = λ b l. absurd (omega arith) }

  module _ {a : ℕ} (g : Gathered file n k numbers a) (few : k ≤ 16) where
    -- one event more
    pub one_gathered : {x : ℕ} → a < k → IsField 64 (event_checks file n a) (from_rows 8 (masks file n a)) (Ok x)
        → Gathered file n k (set numbers a x) (a + 1)
    one_gathered {x} l (passed, (same, _)) =
        let there : a < length numbers = omega (arith, g.long) in
        record {
          at_most = omega arith;
          long = length-set numbers a x ∙ g.long;
          passed = below_more (λ b. Passed (event_checks file n b)) a g.passed passed;
          stand =
              below_more (λ b. get_or (set numbers a x) b 0 ≡ from_rows 8 (masks file n b)) a
              (λ b below. get_or-set_other numbers a b x 0 (λ e. omega arith) ∙ g.stand b below)
              (get_or-set_same numbers a x 0 there ∙ same);
        }

    -- all events: the first k numbers are those of their masks
    pub all_gathered : k ≤ a → take k numbers ≡ map (λ b. from_rows 8 (masks file n b)) (counted 0 k)
    all_gathered all =
        sym (counted_part 0 numbers 0 k (omega (arith, g.long)))
        ∙ counted_same (λ b. get_or numbers b 0) (λ b. from_rows 8 (masks file n b)) 0 k (λ b l. g.stand b (omega arith))
