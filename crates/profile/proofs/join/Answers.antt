-- What is marked leads, so that nothing is lost where only what leads is asked for a mark.
use Prim.Native.Nat.{ℕ}
use Rattle.std.specs.Prelude.{◌/◌, ◌%◌}
use mathlib.Core.Path.{◌≡◌, ap, ap₂, ◌∙◌}
use mathlib.Core.Bool.{Bool, ◌&&◌, ◌||◌}
use Rattle.std.proofs.Common.{rules}
use Rattle.laws.specs.Bits.{bit, grid, some_below, number_of_bits}
use Rattle.laws.specs.Profiles.{Profile, leads_to, marked, join}
use Rattle.laws.proofs.Booleans.{and_right, both, below_some, same_test, some_is_below}
use Rattle.laws.proofs.Packing.{bit_number_of_bits}
use Rattle.profile.specs.Values.{profile}
use Rattle.profile.proofs.join.Goals as goal

module _ (s t : Profile) (i : ℕ) where
  way : ℕ → Bool
  way r = leads_to 8 s (i / 8) r && leads_to 8 t r (i % 8)

  mark : ℕ → Bool
  mark r = leads_to 8 s (i / 8) r && leads_to 8 t r (i % 8) && (marked 8 s (i / 8) r || marked 8 t r (i % 8))

  marked_leads : (some_below 8 way && some_below 8 mark) ≡ some_below 8 mark
  unfolding way mark
  marked_leads =
      same_test (and_right (some_below 8 way) (some_below 8 mark))
      (λ m.
      let (r, below, here) = below_some mark 8 m in
      both (some_is_below way 8 r below (search rules)) m)

pub returns : goal.returns
unfolding join grid way mark
returns c =
    let x = profile c.args.s in
    let y = profile c.args.t in
    let ways : c.pack-arrows.result ≡ number_of_bits 64 (λ i. some_below 8 (way x y i)) =
    c.pack-arrows.ensures.bits (λ i. some_below 8 (way x y i)) (λ i b l k. search rules) in
    let marks : c.pack-marks.result ≡ number_of_bits 64 (λ i. some_below 8 (mark x y i)) =
    c.pack-marks.ensures.bits (λ i. some_below 8 (mark x y i))
    (λ i b l k.
    let asked : b ≡ (bit c.pack-arrows.result i && some_below 8 (mark x y i)) = search rules in
    let leads : bit c.pack-arrows.result i ≡ some_below 8 (way x y i) =
    ap (λ n. bit n i) ways ∙ bit_number_of_bits 64 (λ i. some_below 8 (way x y i)) i l in
    asked ∙ ap (λ w. w && some_below 8 (mark x y i)) leads ∙ marked_leads x y i) in
    ap₂ (λ a m. record { arrows = a; marks = m }) ways marks
