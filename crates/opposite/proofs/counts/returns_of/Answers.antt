-- Each event is tried once. The loop keeps that the events found so far and those that are left to find are together all.
use Prim.Native.Nat.{ℕ, ◌+◌, ◌≤◌, ◌<◌}
use native.Mathlib.Omega.{arith}
use mathlib.Core.Path.{◌≡◌, sym, ap, ◌∙◌}
use mathlib.Core.Bool.{Bool}
use mathlib.Core.Logic.{inl, inr}
use mathlib.Core.List.{[], ◌∷◌, map-id}
use lib.ListN.{drop}
use Rattle.laws.specs.Bits.{counted}
use Rattle.laws.specs.Profiles.{Profile, same_profile}
use Rattle.laws.proofs.Members.{length_counted, at_counted}
use Rattle.opposite.proofs.Rows.{next_left, none_left}
use Rattle.opposite.proofs.Adding.{count_begins, count_next, count_room, count_ends}
use Rattle.opposite.proofs.counts.returns_of.Goals as goal
use Rattle.opposite.proofs.counts.returns_of.Goals.{then-is_same, else-is_same}

-- number a of the numbers below k is a, and behind it the others are left
next_number : (k a : ℕ) → a < k → drop a (counted 0 k) ≡ a ∷ drop (a + 1) (counted 0 k)
next_number k a l =
    next_left (counted 0 k) a 0 (rw (length_counted 0 k) l)
    ∙ ap (λ b. b ∷ drop (a + 1) (counted 0 k)) (rw map-id at (at_counted (λ b. b) k a 0 l))

-- at the end none is left
no_number : (k a : ℕ) → k ≤ a → drop a (counted 0 k) ≡ []
no_number k a l = none_left (counted 0 k) a (rw (length_counted 0 k) l)

-- b is whether the profile that was made is t
same_made : {made y : Profile} (t : Profile) {b : Bool} → y ≡ made → b ≡ same_profile y t → b ≡ same_profile made t
same_made t e same = same ∙ ap (λ y. same_profile y t) e

pub loop-a-init : goal.loop-a-init
loop-a-init c = count_begins _ _

pub overflow_add-found : goal.overflow_add-found
unfolding same_profile
overflow_add-found c =
    let fewer = count_room _ _ c.loop-a.invariant _ (next_number _ _ c.loop-a-test.true)
    (sym (same_made _ c.next_on.ensures c.is_same.ensures) ∙ c.if-is_same.true) in
    omega (arith, fewer, length_counted 0 c.args.asked.now.model.k)

pub loop-a-preserved : goal.loop-a-preserved
unfolding same_profile
loop-a-preserved c =
    count_next _ _ c.loop-a.invariant _ (next_number _ _ c.loop-a-test.true) (same_made _ c.next_on.ensures c.is_same.ensures)
    (elim c.if-is_same.branch [ then-is_same w ↦ inl (w.if-is_same.true, w.found-is) | else-is_same w ↦ inr (w.if-is_same.false, w.found-is) ])

pub returns : goal.returns
returns c = count_ends _ _ c.loop-a.invariant (no_number _ _ c.loop-a-test.false)
