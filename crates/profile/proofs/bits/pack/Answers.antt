-- The bits are packed from the top, by Horner's rule: one bit more is the lowest of the next number. A number of at most 64 bits is below
-- 2^64, so nothing overflows.
use Prim.Native.Nat.{ℕ, suc, ◌+◌, ◌-◌, ◌*◌, ◌^◌, ◌<◌, ◌≤◌}
use native.Mathlib.Omega.{arith}
use native.Mathlib.Nat.{pow-succ', pow-le-pow_right}
use mathlib.Core.Path.{◌≡◌, ap, ◌∙◌}
use mathlib.Core.Bool.{Bool, false}
use mir.Val.{bool_byte}
use Rattle.laws.specs.Bits.{number_of_bits}
use Rattle.laws.proofs.Packing.{number_of_bits_same}
use Rattle.profile.proofs.bits.pack.Goals as goal

-- one bit more
module _ {n i x : ℕ} (l : 0 < i) (u : i ≤ n) where
  below : (b : Bool) → x < 2 ^ (n - i) → 2 * x + bool_byte b < 2 ^ (n - (i - 1))
  below b s =
      let more : n - (i - 1) ≡ suc (n - i) = omega arith in
      rw more (grind (arith, pow-succ' 2 (n - i)))

  fits : (b : Bool) → x < 2 ^ (n - i) → n ≤ 64 → 2 * x + bool_byte b < 2 ^ 64
  fits b s w = omega (arith, below b s, pow-le-pow_right {n = 2} (omega arith) {i = n - (i - 1)} {j = 64} (omega arith))

  number : {b : Bool} (f : ℕ → Bool) → x ≡ number_of_bits (n - i) (λ j. f (i + j)) → b ≡ f (i - 1)
      → 2 * x + bool_byte b ≡ number_of_bits (n - (i - 1)) (λ j. f (i - 1 + j))
  unfolding number_of_bits
  number {b} f s is =
      let more : n - (i - 1) ≡ suc (n - i) = omega arith in
      let low : b ≡ f (i - 1 + 0) = is ∙ ap f (omega arith) in
      let rest = number_of_bits_same (n - i) (λ j. f (i + j)) (λ j. f (i - 1 + suc j)) (λ j h. ap f (omega arith)) in
      rw (more, ← low) (grind (arith, s, rest))

-- and at the end all of them are packed
end : (n i x : ℕ) (f : ℕ → Bool) → i ≡ 0 → x ≡ number_of_bits (n - i) (λ j. f (i + j)) → x ≡ number_of_bits n f
end n i x f none s =
    let all : n - i ≡ n = omega arith in
    rw all at s ∙ number_of_bits_same n (λ j. f (i + j)) f (λ j h. ap f (omega arith))

pub overflow_mul-x : goal.overflow_mul-x
overflow_mul-x g c = omega (arith, fits c.loop-i-test.true c.loop-i.auto.i false c.loop-i.invariant.below c.requires.few)

pub loop-i-preserved : goal.loop-i-preserved
loop-i-preserved g c =
    let s = c.loop-i.invariant in
    let i = c.loop-i-test.true in
    let n = c.loop-i.auto.i in
    rw c.from.ensures
    record {
      below = below i n c.test.result s.below;
      number = λ f h. number i n f (s.number f h) (h (c.loop-i.i - 1) c.test.result (omega arith) c.test.ensures);
    }

pub overflow_add-x : goal.overflow_add-x
overflow_add-x g c =
    record { fits = rw c.from.ensures (fits c.loop-i-test.true c.loop-i.auto.i c.test.result c.loop-i.invariant.below c.requires.few) }

pub returns-clause-bits : goal.returns-clause-bits
returns-clause-bits g c = λ f h. end _ _ _ f (omega arith) (c.loop-i.invariant.number f h)
