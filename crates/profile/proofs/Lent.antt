-- What an event of a model that is not refused is and does, by its lent number: its profile, and the set that it leads a set to.
use Prim.Native.Nat.{ℕ, ◌<◌}
use mathlib.Core.Path.{◌≡◌, refl, sym, ap, ap₂, ◌∙◌}
use mathlib.Core.Bool.{Bool, ◌&&◌}
use lib.ListN.{get_or}
use Rattle.laws.specs.Bits.{bit, cell, grid}
use Rattle.laws.specs.Model.{Machine, Model, eight, machine}
use Rattle.laws.specs.Refusals.{Unrefused}
use Rattle.laws.specs.Profiles.{Profile, leads_to, image, after, event_profile}
use Rattle.laws.proofs.Packing.{bit_number_of_bits, cell_grid, grid_below, same_cells}
use Rattle.laws.proofs.Joins.{leads_event, after_event}
use Rattle.laws.proofs.Unrefused.{home_mask, event_arrows}
use Rattle.profile.specs.Values.{plain, event_value}

-- where a profile leads a set, its arrows alone lead it
pub led_by_arrows : (P : ℕ) (t : Profile) → image 8 P (plain t.arrows) ≡ image 8 P t
unfolding image leads_to
led_by_arrows P t = refl

module _ (m : Model) (u : Unrefused eight m) where
  abbrev M : Machine ℕ
  M = machine 8 m

  -- the profile of an event is that of its lent number and the home mask
  pub event_value_is : (a : ℕ) → a < m.k → event_value (get_or m.arrows a 0) m.home ≡ event_profile 8 M a
  unfolding event_value event_profile leads_to
  event_value_is a l =
      ap₂ (λ arrows marks. record { arrows = arrows; marks = marks }) (sym arrows_lent)
      (same_cells 8 (grid 8 lent) (grid 8 marks) (grid_below 8 lent) (grid_below 8 marks)
      (λ p q hp hq. cell_grid 8 lent p q hp hq ∙ ap₂ ◌&&◌ (leads p q hp hq) (home q hq) ∙ sym (cell_grid 8 marks p q hp hq)))
    where
      lent : ℕ → ℕ → Bool
      lent p q = cell 8 (get_or m.arrows a 0) p q && bit m.home q

      marks : ℕ → ℕ → Bool
      marks p q = M.arrow p a q && M.home q

      arrows_lent : (event_profile 8 M a).arrows ≡ get_or m.arrows a 0
      arrows_lent = event_arrows eight m u a l

      leads : (p q : ℕ) → p < 8 → q < 8 → cell 8 (get_or m.arrows a 0) p q ≡ M.arrow p a q
      leads p q hp hq = ap (λ x. cell 8 x p q) (sym arrows_lent) ∙ leads_event 8 M a p q hp hq

      home : (q : ℕ) → q < 8 → bit m.home q ≡ M.home q
      home q hq = ap (λ x. bit x q) (sym (home_mask eight m u)) ∙ bit_number_of_bits 8 M.home q hq

  -- what an event makes of a set is what its lent number leads it to
  pub set_after : (P a : ℕ) → a < m.k → image 8 P (plain (get_or m.arrows a 0)) ≡ after 8 M P a
  unfolding image leads_to
  set_after P a l = rw (after_event 8 M a P, ← event_arrows eight m u a l)
