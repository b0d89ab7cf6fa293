-- A profile as one number: those of joins and of events are below a bound, and tell profiles apart. So some power of every profile,
-- joined with itself, is itself.
use Prim.Native.Nat.{ℕ, ◌+◌, ◌*◌, ◌/◌, ◌<◌, ◌^◌}
use native.Mathlib.Omega.{arith}
use native.Mathlib.Nat.{mul-suc, mul-le-mul_left, mul-add-div, div-eq_of_lt}
use mathlib.Core.Path.{◌≡◌, sym, ap, ap₂, ◌∙◌}
use Rattle.laws.specs.Bits.{times}
use Rattle.laws.specs.Profiles.{Profile, join}
use Rattle.laws.proofs.Joins.{Small, join_small, join_assoc}
use Rattle.laws.proofs.Powers.{idempotent_power}

module _ (W : ℕ) where
  -- the marks above, the arrows below
  unfoldable pub code : Profile → ℕ
  code t = 2 ^ (W * W) * t.marks + t.arrows

  -- what stands above is the quotient
  marks_above : (t : Profile) → Small W t → code t / 2 ^ (W * W) ≡ t.marks
  unfolding code
  marks_above t small =
      let d = div-eq_of_lt small.arrows_below in
      omega (arith, mul-add-div {m = 2 ^ (W * W)} (omega arith) t.marks t.arrows)

  -- a small profile's number is below the bound
  pub code_below : (t : Profile) → Small W t → code t < 2 ^ (W * W) * 2 ^ (W * W)
  unfolding code
  code_below t small = omega (arith, mul-suc (2 ^ (W * W)) t.marks, mul-le-mul_left (2 ^ (W * W)) small.marks_below)

  -- and tells it from the others
  pub code_apart : (s t : Profile) → Small W s → Small W t → code s ≡ code t → s ≡ t
  unfolding code
  code_apart s t small_s small_t h =
      let m : s.marks ≡ t.marks = sym (marks_above s small_s) ∙ ap (λ x. x / 2 ^ (W * W)) h ∙ marks_above t small_t in
      let e : s.arrows ≡ t.arrows = omega (arith, ap (λ x. 2 ^ (W * W) * x) m) in
      ap₂ (λ x y. record { arrows = x; marks = y }) e m

  -- IDEMPOTENT POWER: some power of every profile, the exponent at least 1, joined with itself is itself
  pub idempotent : (t : Profile) → (n : ℕ) × (join W (times (join W) n t) (times (join W) n t) ≡ times (join W) n t)
  idempotent t =
      idempotent_power (join W) (join_assoc W) code (2 ^ (W * W) * 2 ^ (W * W)) (λ x y. code_below (join W x y) (join_small W x y))
      (λ x y z w. code_apart (join W x y) (join W z w) (join_small W x y) (join_small W z w)) t
