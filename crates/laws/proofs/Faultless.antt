-- A file without a fault, said field by field: this is so exactly if none of its checks applies.
use Prim.Native.Nat.{ℕ, ◌+◌, ◌<◌}
use mathlib.Core.Path.{◌≡◌, ◌∙◌}
use mathlib.Core.Bool.{Bool, true, false, ◌&&◌}
use mathlib.Core.List.{List}
use lib.ListN.{length}
use lib.Dec.{eqb, ltb}
use borrow.Author.Tests.{eqb-true, eq-eqb}
use Rattle.laws.specs.Bits.{some_of}
use Rattle.laws.specs.Refusals.{first_of, Passed, outside, mask_beyond}
use Rattle.laws.specs.File.{end_field, offset_of_event, stand_from, formed, value, masks}
use Rattle.laws.specs.File.{number_checks, mask_checks, event_checks, end_checks, front_checks, file_checks}
use Rattle.laws.proofs.Booleans.{both, and_left, and_right}
use Rattle.laws.proofs.Checks.{passed_check, passed_field, passed_each, all_passed}
use Rattle.laws.proofs.Checks.{Shows, shows_check, shows_field, shows_each, shown}

-- nothing is wrong in the field of event a
pub record RightEvent (bytes : List ℕ) (n a : ℕ) : Type 0 where
  pub event_form : formed bytes (offset_of_event n a) 0x05 (n + 1) ≡ true
  pub event_number : value bytes (offset_of_event n a) ≡ a
  pub masks_inside : some_of (mask_beyond n) (masks bytes n a) ≡ false

-- nothing is wrong in a file that says n and k, read with room for so many arrow numbers
pub record Faultless (bytes : List ℕ) (n k room : ℕ) : Type 0 where
  pub n_form : formed bytes 0 0x01 1 ≡ true
  pub n_inside : outside 8 (value bytes 0) ≡ false
  pub k_form : formed bytes 4 0x02 1 ≡ true
  pub k_inside : outside 16 (value bytes 4) ≡ false
  pub arrows_fit : ltb room k ≡ false
  pub start_form : formed bytes 8 0x03 1 ≡ true
  pub start_inside : mask_beyond n (value bytes 8) ≡ false
  pub home_form : formed bytes 12 0x04 1 ≡ true
  pub home_inside : mask_beyond n (value bytes 12) ≡ false
  pub events : (a : ℕ) → a < k → RightEvent bytes n a
  pub end : stand_from bytes (offset_of_event n k) end_field ≡ true
  pub nothing_behind : ltb (offset_of_event n k + 3) (length bytes) ≡ false

module _ (bytes : List ℕ) (n : ℕ) where
  -- the checks of event a say so
  shows_event : (a : ℕ) → Shows (event_checks bytes n a) (RightEvent bytes n a)
  unfolding event_checks
  shows_event a rest h =
      let o : ℕ = offset_of_event n a in
      let form : Bool = formed bytes o 0x05 (n + 1) in
      let ((right, inside), r) = shows_field o 2 o (form && eqb (value bytes o) a) _ rest h in (
        record {
          event_form = and_left form (eqb (value bytes o) a) right;
          event_number = eqb-true (value bytes o) a (and_right form _ right);
          masks_inside = inside;
        },
        r,
      )

  passed_event : (a : ℕ) → RightEvent bytes n a → Passed (event_checks bytes n a)
  unfolding event_checks
  passed_event a e =
      let o : ℕ = offset_of_event n a in
      passed_field o 3 o _ _ (both e.event_form (eq-eqb (value bytes o) a e.event_number)) e.masks_inside

module _ (bytes : List ℕ) (n k room : ℕ) where
  -- where a file's checks come to number 0, nothing is wrong in it
  pub faultless : (first_of (file_checks bytes n k room)).number ≡ 0 → Faultless bytes n k room
  unfolding front_checks file_checks number_checks mask_checks end_checks
  faultless h =
      let ((n_form, n_inside), h₁) = shows_field 0 0 0 _ _ _ h in
      let ((k_form, k_inside), h₂) = shows_field 4 0 4 _ _ _ h₁ in
      let (arrows_fit, h₃) = shows_check 1 4 _ _ h₂ in
      let ((start_form, start_inside), h₄) = shows_field 8 2 8 _ _ _ h₃ in
      let ((home_form, home_inside), h₅) = shows_field 12 2 12 _ _ _ h₄ in
      let (events, h₆) = shows_each (event_checks bytes n) k (RightEvent bytes n) (λ a l. shows_event bytes n a) _ h₅ in
      let (end, nothing_behind) = shown _ (shows_field (offset_of_event n k) 7 (offset_of_event n k + 3) _ _) h₆ in
      record {
        n_form = n_form;
        n_inside = n_inside;
        k_form = k_form;
        k_inside = k_inside;
        arrows_fit = arrows_fit;
        start_form = start_form;
        start_inside = start_inside;
        home_form = home_form;
        home_inside = home_inside;
        events = events;
        end = end;
        nothing_behind = nothing_behind;
      }

  -- and where nothing is wrong, none of its checks applies
  pub faultless_passed : Faultless bytes n k room → first_of (file_checks bytes n k room) ≡ record { number = 0; offset = 0 }
  unfolding front_checks file_checks number_checks mask_checks end_checks
  faultless_passed f =
      passed_field 0 1 0 _ _ f.n_form f.n_inside _
      ∙ passed_field 4 1 4 _ _ f.k_form f.k_inside _
      ∙ passed_check 2 4 f.arrows_fit _
      ∙ passed_field 8 3 8 _ _ f.start_form f.start_inside _
      ∙ passed_field 12 3 12 _ _ f.home_form f.home_inside _
      ∙ passed_each (event_checks bytes n) k (λ a l. passed_event bytes n a (f.events a l)) _
      ∙ all_passed _ (passed_field (offset_of_event n k) 8 (offset_of_event n k + 3) _ _ f.end f.nothing_behind)
