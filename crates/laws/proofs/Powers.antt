-- Where joining is associative and its results are finitely many, every element has a power that joined with itself is itself.
use Prim.Native.Nat.{ℕ, zero, suc, ◌+◌, ◌-◌, ◌*◌, ◌<◌}
use native.Mathlib.Omega.{arith}
use native.Mathlib.Nat.{zero-add, suc-add, zero-mul, suc-mul, mul-suc}
use mathlib.Core.Path.{◌≡◌, sym}
use Rattle.laws.specs.Bits.{times}
use Rattle.laws.proofs.Pigeonhole.{pigeonhole}

module _ {A : Type 0} (op : A → A → A) where
  module _ (assoc : (x y z : A) → op (op x y) z ≡ op x (op y z)) where
    -- the numbers of joined elements add up
    pub times_add : (m n : ℕ) (t : A) → op (times op m t) (times op n t) ≡ times op (suc (m + n)) t
    unfolding times
    times_add zero n t = rw zero-add
    times_add (suc m) n t = rw (suc-add, assoc, times_add m n t)

    -- and multiply
    times_times : (q d : ℕ) (t : A) → times op q (times op d t) ≡ times op (q * suc d + d) t
    unfolding times
    times_times zero d t = rw (zero-mul, zero-add)
    times_times (suc q) d t =
        let count : suc q * suc d + d ≡ suc (d + (q * suc d + d)) = omega (arith, suc-mul q (suc d)) in
        rw (count, times_times q d t, times_add)

    -- where s changes nothing behind x, no power of s does
    unchanged_by : (x s : A) → op x s ≡ x → (q : ℕ) → op x (times op q s) ≡ x
    unfolding times
    unchanged_by x s e zero = e
    unchanged_by x s e (suc q) = rw (← assoc, e, unchanged_by x s e q)

    -- where s changes nothing behind a power of t, it changes nothing behind a later one
    unchanged_later : (t s : A) (a c : ℕ) → op (times op a t) s ≡ times op a t → op (times op (c + a) t) s ≡ times op (c + a) t
    unfolding times
    unchanged_later t s a zero e = rw (zero-add, e)
    unchanged_later t s a (suc c) e = rw (suc-add, assoc, unchanged_later t s a c e)

    -- where t^(d+1) changes nothing behind t^(a+1), the power (a+1)(d+1) joined with itself is itself
    idempotent_at : (t : A) (a d : ℕ) → op (times op a t) (times op d t) ≡ times op a t
        → (n : ℕ) × (op (times op n t) (times op n t) ≡ times op n t)
    idempotent_at t a d e =
        let n = a * suc d + d in
        let late : n ≡ (a * d + d) + a = omega (arith, mul-suc a d) in
        let same : op (times op n t) (times op d t) ≡ times op n t = rw late (unchanged_later t (times op d t) a (a * d + d) e) in
        (n, rw (times_times a d t) at (unchanged_by (times op n t) (times op d t) same a))

    -- where t^(a+1) is a later t^(b+1), what lies between them changes nothing
    repeated : (t : A) (a b : ℕ) → a < b → times op a t ≡ times op b t → (n : ℕ) × (op (times op n t) (times op n t) ≡ times op n t)
    repeated t a b h e =
        let count : suc (a + (b - suc a)) ≡ b = omega arith in
        idempotent_at t a (b - suc a) (rw (times_add, count) (sym e))

    module _ (code : A → ℕ) (bound : ℕ) (below : (x y : A) → code (op x y) < bound)
        (apart : (x y z w : A) → code (op x y) ≡ code (op z w) → op x y ≡ op z w) where
      -- two of the powers up to bound + 2 are the same, so some power joined with itself is itself
      pub idempotent_power : (t : A) → (n : ℕ) × (op (times op n t) (times op n t) ≡ times op n t)
      unfolding times
      idempotent_power t =
          let r = pigeonhole bound (λ i. code (times op (suc i) t)) (λ i h. below t (times op i t)) in
          repeated t (suc r.0) (suc r.1) (omega arith) (apart t (times op r.0 t) t (times op r.1 t) r.4)
