-- WHAT FOLLOWS FROM THE CONTRACTS OF ONE PROFILE'S CALLS: each is an equation, of a number or of the two numbers of a profile, so no second
-- result meets it.
use Prim.Native.Nat.{ℕ}
use mathlib.Core.Path.{◌≡◌, ap, ap₂}
use mathlib.Core.Bool.{Bool}
use Rattle.laws.specs.Profiles as paper
use Rattle.laws.specs.Repeats.{union}
use Rattle.laws.proofs.Booleans.{one_value}
use Rattle.profile.specs.Values.{profile, event_value, next_value, plain}
use Rattle.std.specs.Prelude.{Option}
use Rattle.profile.specs.declared.Profile.{Profile}

-- a result that is to have a given profile is one only
pub one_profile : (x y : Profile) → profile x ≡ profile y → x ≡ y
one_profile x y e = ap₂ (λ a m. record { arrows = a; marks = m }) (ap (λ t. t.arrows) e) (ap (λ t. t.marks) e)

-- JOIN, UNION, OF_EVENT and NEXT give such a result
pub one_join : (s t : Profile) {x y : Profile} → profile x ≡ paper.join 8 (profile s) (profile t)
    → profile y ≡ paper.join 8 (profile s) (profile t) → x ≡ y
one_join s t e f = one_profile _ _ (one_value e f)

pub one_union : (s t : Profile) {x y : Profile} → profile x ≡ union 8 (profile s) (profile t)
    → profile y ≡ union 8 (profile s) (profile t) → x ≡ y
one_union s t e f = one_profile _ _ (one_value e f)

pub one_event : (arrows home : ℕ) {x y : Profile} → profile x ≡ event_value arrows home → profile y ≡ event_value arrows home → x ≡ y
one_event arrows home e f = one_profile _ _ (one_value e f)

pub one_next : (before : Option Profile) (event : Profile) {x y : Profile} → profile x ≡ next_value before event
    → profile y ≡ next_value before event → x ≡ y
one_next before event e f = one_profile _ _ (one_value e f)

-- IS_SAME, IMAGE, MARKS_ROUND and IS_REJECTING give one number or test
pub one_same : (s t : Profile) {b c : Bool} → b ≡ paper.same_profile (profile s) (profile t)
    → c ≡ paper.same_profile (profile s) (profile t) → b ≡ c
one_same s t = one_value

pub one_image : (set arrows : ℕ) {P Q : ℕ} → P ≡ paper.image 8 set (plain arrows) → Q ≡ paper.image 8 set (plain arrows) → P ≡ Q
one_image set arrows = one_value

pub one_round : (set : ℕ) (t : Profile) {b c : Bool} → b ≡ paper.marks_a_round 8 set (profile t)
    → c ≡ paper.marks_a_round 8 set (profile t) → b ≡ c
one_round set t = one_value

pub one_rejecting : (set : ℕ) (t : Profile) {b c : Bool} → b ≡ paper.is_rejecting_pair 8 set (profile t)
    → c ≡ paper.is_rejecting_pair 8 set (profile t) → b ≡ c
one_rejecting set t = one_value
