-- Courses worked by hand against the definition of "accepted": model E accepts (empty, 0). Model C does not accept (0, 1), since event 1
-- leads to state 0 alone, which is not home; C's opposite, read from its written lists, does. Assumes nothing.
use Prim.Native.Nat.{ℕ, zero, suc, ◌≤◌, ◌<◌}
use native.Mathlib.Omega.{arith}
use mathlib.Core.Path.{◌≡◌, refl, sym, ap, ap₂, ◌∙◌}
use mathlib.Core.Bool.{Bool, true, false, ◌&&◌, ◌||◌, false≢true, and-eq-true_iff}
use mathlib.Core.List.{List, [], ◌∷◌}
use lib.ListN.{get_or}
use lib.Dec.{ltb}
use borrow.Author.Tests.{ltb-true}
use Rattle.laws.specs.Bits.{cell}
use Rattle.laws.specs.Words.{power}
use Rattle.laws.specs.Model.{Path, stop, step, homed, Accepted, is_state, leads, machine}
use Rattle.laws.specs.Profiles.{marked_path}
use Rattle.laws.specs.Opposite.{written}
use Rattle.laws.specs.HandWorked.{C, E}
use Rattle.laws.proofs.Computed.{computed}
use Rattle.laws.proofs.HandWorked.{c_flags, c_arrows}

-- 0 to 1 and back, past the home state 1
pub e_accepts : Accepted (machine 8 E) [] (0 ∷ [])
unfolding computed
e_accepts =
    record {
      i = 0;
      j = 2;
      r = 0;
      from = 0;
      from_start = refl;
      reach = stop;
      j_from_1 = omega arith;
      round = step {r = 1} refl (step {r = 0} refl stop);
      round_homed = refl;
    }

-- the states of an arrow are states of the model
states : (p q : ℕ) → leads 8 C p 1 q ≡ true → (p < 2) × (q < 2)
unfolding leads is_state C
states p q e =
    let event = ((and-eq-true_iff (ltb p 2 && ltb q 2 && true) (cell 8 (get_or C.arrows 1 0) p q)).0 e).0 in
    let both = (and-eq-true_iff (ltb p 2) (ltb q 2)).0 ((and-eq-true_iff (ltb p 2 && ltb q 2) true).0 event).0 in
    (ltb-true p 2 both.0, ltb-true q 2 both.1)

-- in C, event 1 leads to 0 alone
to_0 : (p q : ℕ) → p < 2 → q < 2 → leads 8 C p 1 q ≡ true → q ≡ 0
unfolding computed
to_0 p zero hp hq e = refl
to_0 zero (suc zero) hp hq e = absurd (false≢true e)
to_0 (suc zero) (suc zero) hp hq e = absurd (false≢true e)
to_0 (suc (suc p)) (suc zero) hp hq e = absurd (omega arith)
to_0 p (suc (suc q)) hp hq e = absurd (omega arith)

-- a path that reads event 1 at least once ends in 0
ends : (j : ℕ) {p q : ℕ} → 1 ≤ j → Path (machine 8 C) p (power j (1 ∷ [])) q → q ≡ 0
unfolding machine power
ends zero h s = absurd (omega arith)
ends (suc zero) h (step {p = p} {r = r} e stop) = let b = states p r e in to_0 p r b.0 b.1 e
ends (suc (suc j)) h (step e s) = ends (suc j) (omega arith) s

-- a path that reads event 1 only, from 0, meets no home state
lost : (j : ℕ) {p q : ℕ} → p ≡ 0 → (s : Path (machine 8 C) p (power j (1 ∷ [])) q) → homed (machine 8 C) s ≡ false
unfolding computed
lost zero z (stop {p = p}) = ap (machine 8 C).home z
lost (suc j) z (step {p = p} {r = r} e s) =
    let b = states p r e in
    ap₂ ◌||◌ (ap (machine 8 C).home z) (lost j (to_0 p r b.0 b.1 e) s)

-- so its round can have no home state
pub c_rejects : Accepted (machine 8 C) (0 ∷ []) (1 ∷ []) → ⊥
c_rejects a = false≢true (sym (lost a.j (ends a.j a.j_from_1 a.round) a.round) ∙ a.round_homed)

-- in the opposite: from set 0 by event 0 to set 1, by event 1 to set 0, to the state of event 1 in the block, to the gate; and by event 1
-- from the gate to the gate
pub c_opposite_accepts : Accepted (written c_flags c_arrows) (0 ∷ []) (1 ∷ [])
unfolding computed c_flags c_arrows
c_opposite_accepts =
    record {
      i = 3;
      j = 1;
      r = 2;
      from = 0;
      from_start = refl;
      reach = step {r = 1} refl (step {r = 0} refl (step {r = 4} refl (step {r = 2} refl stop)));
      j_from_1 = omega arith;
      round = step {r = 2} refl stop;
      round_homed = refl;
    }

-- in E the arrow from 0 to the home state 1 is marked, the one back is not, and a path with one marked arrow is
marks : List Bool
unfolding computed
marks =
    marked_path (machine 8 E) (step {p = 0} {r = 1} {a = 0} refl stop)
    ∷ marked_path (machine 8 E) (step {p = 1} {r = 0} {a = 0} refl stop)
    ∷ marked_path (machine 8 E) (step {p = 1} {r = 0} {a = 0} refl (step {r = 1} {a = 0} refl stop))
    ∷ []

e_marks : marks ≡ true ∷ false ∷ true ∷ []
unfolding computed marks
e_marks = refl
