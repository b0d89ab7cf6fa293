-- One course against the pairs of a set and a profile: for every course some power of its round settles it by a fitting pair; where
-- that pair does not reject, the course is accepted; and the words of a rejecting pair are a course that is not.
use Prim.Native.Nat.{ℕ, zero, suc, ◌<◌, ◌≤◌}
use native.Mathlib.Omega.{arith}
use mathlib.Core.Path.{◌≡◌, refl, sym, ap, ◌∙◌}
use mathlib.Core.Bool.{Bool, true, false, not, ◌&&◌}
use mathlib.Core.List.{◌++◌, append-nil}
use mathlib.Core.Option.{some}
use lib.Dec.{eqb}
use borrow.Author.Tests.{eqb-true, eq-eqb}
use Rattle.laws.specs.Bits.{bit, times}
use Rattle.laws.specs.Words.{Word, power, empty}
use Rattle.laws.specs.Model.{Machine, Path, Accepted, Within}
use Rattle.laws.specs.Profiles.{Profile, same_profile, marked, join, image, is_fitting, marks_a_round, is_rejecting_pair, start_set}
use Rattle.laws.specs.Profiles.{set_from, word_set, word_profile}
use Rattle.laws.proofs.Booleans.{both, and_left, and_right, never, some_is_below, below_both}
use Rattle.laws.proofs.Packing.{no_bit}
use Rattle.laws.proofs.Paths.{HomePath}
use Rattle.laws.proofs.Joins.{same_equal, equal_same, image_join}
use Rattle.laws.proofs.Idempotent.{idempotent}
use Rattle.laws.proofs.Meaning.{path_below, has_profile, profile_of_two, set_append, set_image, set_of_two, set_means, marked_round}
use Rattle.laws.proofs.Meaning.{round_marked}

module _ (W : ℕ) where
  -- a fitting pair: t leads P to P, and t then t is t
  pub fits_image : (P : ℕ) (t : Profile) → is_fitting W P t ≡ true → image W P t ≡ P
  unfolding is_fitting
  fits_image P t h = eqb-true (image W P t) P (and_left (eqb (image W P t) P) (same_profile (join W t t) t) h)

  pub fits_join : (P : ℕ) (t : Profile) → is_fitting W P t ≡ true → join W t t ≡ t
  unfolding is_fitting
  fits_join P t h = same_equal (join W t t) t (and_right (eqb (image W P t) P) (same_profile (join W t t) t) h)

  -- and where both are so, the pair fits
  image_fits : (P : ℕ) (t : Profile) → image W P t ≡ P → join W t t ≡ t → is_fitting W P t ≡ true
  unfolding is_fitting
  image_fits P t i j = both (eq-eqb (image W P t) P i) (rw j (equal_same t))

  -- the test for a state of P with a marked way back to itself
  abbrev back : ℕ → Profile → ℕ → Bool
  back P t r = bit P r && marked W t r r

  -- a rejecting pair fits
  pub rejecting_fits : (P : ℕ) (t : Profile) → is_rejecting_pair W P t ≡ true → is_fitting W P t ≡ true
  unfolding is_rejecting_pair marks_a_round
  rejecting_fits P t h = and_left (is_fitting W P t) (not (marks_a_round W P t)) h

  -- and has no such state
  rejecting_unmarked : (P : ℕ) (t : Profile) → is_rejecting_pair W P t ≡ true → (r : ℕ) → r < W → bit P r ≡ true → marked W t r r ≡ true → ⊥
  unfolding is_rejecting_pair marks_a_round
  rejecting_unmarked P t h r l b m =
      let none = and_right (is_fitting W P t) (not (marks_a_round W P t)) h in
      never (rw (some_is_below (back P t) W r l (both b m)) at none)

  -- a fitting pair that does not reject has one
  fitting_marked : (P : ℕ) (t : Profile) → is_fitting W P t ≡ true → is_rejecting_pair W P t ≡ false
      → (r : ℕ) × (r < W) × (bit P r ≡ true) × (marked W t r r ≡ true)
  unfolding is_rejecting_pair marks_a_round
  fitting_marked P t f h = below_both (bit P) (λ r. marked W t r r) W (go (is_fitting W P t) (marks_a_round W P t) f h)
    where
      go : (a c : Bool) → a ≡ true → (a && not c) ≡ false → c ≡ true
      go true true e f = refl
      go true false e f = sym f
      go false c e f = never e

module _ (W : ℕ) (M : Machine ℕ) where
  -- THE SETTLING POWER: v^m has an idempotent profile e, so that the set of u·v^m and e fit
  pub record Settled (u v : Word) : Type 0 where
    pub m : ℕ
    pub e : Profile
    pub m_from_1 : 1 ≤ m
    pub round_profile : word_profile W M (power m v) ≡ some e
    pub pair_fits : is_fitting W (word_set W M (u ++ power m v)) e ≡ true

  -- the profile of v n + 1 times
  pub power_profile : (v : Word) (t : Profile) → word_profile W M v ≡ some t → (n : ℕ)
      → word_profile W M (power (suc n) v) ≡ some (times (join W) n t)
  unfolding power times
  power_profile v t h zero = rw append-nil h
  power_profile v t h (suc n) = profile_of_two W M v (power (suc n) v) t (times (join W) n t) h (power_profile v t h n)

  -- some power of a round, the exponent at least 1, has an idempotent profile
  pub idempotent_round : (v : Word) → empty v ≡ false
      → (m : ℕ) × (e : Profile) × (1 ≤ m) × (word_profile W M (power m v) ≡ some e) × (join W e e ≡ e)
  idempotent_round v h =
      let (t, v_has_t) = has_profile W M v h in
      let (n, i) = idempotent W t in
      (suc n, times (join W) n t, omega arith, power_profile v t v_has_t n, i)

  -- every course has one
  pub settled : (u v : Word) → empty v ≡ false → Settled u v
  settled u v h =
      let (m, e, m_from_1, round, i) = idempotent_round v h in
      let P : ℕ = word_set W M (u ++ power m v) in
      let back : image W P e ≡ P = rw (set_of_two W M u (power m v) e round, image_join, i) in
      record { m = m; e = e; m_from_1 = m_from_1; round_profile = round; pair_fits = image_fits W P e back i }

  module _ (within : Within W M) where
    -- A COURSE IS ACCEPTED BY a state behind u and rounds of v that some rounds of v lead back to itself, marked
    pub marked_accepted : (u v : Word) (t : Profile) (i j r : ℕ) → 1 ≤ j → word_profile W M (power j v) ≡ some t → r < W
        → bit (word_set W M (u ++ power i v)) r ≡ true → marked W t r r ≡ true → Accepted M u v
    marked_accepted u v t i j r j_from_1 round r_below r_in m =
        let (p, p_starts, reach) = (set_means W M within (u ++ power i v)).only_reached r r_in in
        let back = marked_round W M within (power j v) t r round r_below m in
        record {
          i = i;
          j = j;
          r = r;
          from = p;
          from_start = p_starts;
          reach = reach;
          j_from_1 = j_from_1;
          round = back.path;
          round_homed = back.home;
        }

    -- and what accepts a course is such a state
    pub accepted_marked : (u v : Word) (run : Accepted M u v) → (run.r < W) × (bit (word_set W M (u ++ power run.i v)) run.r ≡ true)
        × ((t : Profile) → word_profile W M (power run.j v) ≡ some t → marked W t run.r run.r ≡ true)
    accepted_marked u v run =
        let r_below = path_below W M within (within.start_below run.from run.from_start) run.reach in
        let r_in = (set_means W M within (u ++ power run.i v)).reached run.from run.r run.from_start run.reach in
        let back : HomePath M run.r (power run.j v) run.r = record { path = run.round; home = run.round_homed } in
        (r_below, r_in, λ t p. round_marked W M within (power run.j v) t run.r p r_below back)

    -- WHERE THE SETTLING PAIR DOES NOT REJECT, the course is accepted
    pub accepts : (u v : Word) (s : Settled u v) → is_rejecting_pair W (word_set W M (u ++ power s.m v)) s.e ≡ false → Accepted M u v
    accepts u v s h =
        let (r, r_below, r_in, m) = fitting_marked W (word_set W M (u ++ power s.m v)) s.e s.pair_fits h in
        marked_accepted u v s.e s.m s.m r s.m_from_1 s.round_profile r_below r_in m

    -- a round that leads P to P does so as often as one likes
    sets_stay : (P : ℕ) (v : Word) (t : Profile) → word_profile W M v ≡ some t → image W P t ≡ P → (i : ℕ) → set_from W M P (power i v) ≡ P
    unfolding power set_from
    sets_stay P v t p h zero = refl
    sets_stay P v t p h (suc i) = rw (set_append W M P v (power i v), set_image W M P v t p, h) (sets_stay P v t p h i)

    -- and the profile of every power of v is t if t then t is t
    profiles_stay : (v : Word) (t : Profile) → word_profile W M v ≡ some t → join W t t ≡ t → (j : ℕ) → 1 ≤ j
        → word_profile W M (power j v) ≡ some t
    unfolding power
    profiles_stay v t p i zero h = absurd (omega arith)
    profiles_stay v t p i (suc zero) h = rw append-nil p
    profiles_stay v t p i (suc (suc j)) h =
        profile_of_two W M v (power (suc j) v) t t p (profiles_stay v t p i (suc j) (omega arith)) ∙ ap (λ s. some s) i

    -- WHERE A PAIR REJECTS, its words are a course that is not accepted
    pub rejects : (u v : Word) (t : Profile) → is_rejecting_pair W (word_set W M u) t ≡ true → word_profile W M v ≡ some t → Accepted M u v → ⊥
    unfolding word_set
    rejects u v t h p run =
        let P : ℕ = word_set W M u in
        let w : Word = power run.i v in
        let fits = rejecting_fits W P t h in
        let stays : word_set W M (u ++ w) ≡ P = set_append W M (start_set W M) u w ∙ sets_stay P v t p (fits_image W P t fits) run.i in
        let (r_below, r_in, marks) = accepted_marked u v run in
        let back = profiles_stay v t p (fits_join W P t fits) run.j run.j_from_1 in
        rejecting_unmarked W P t h run.r r_below (rw stays at r_in) (marks t back)

    -- nothing is reached where the set is empty
    pub no_path : (u : Word) → word_set W M u ≡ 0 → (p q : ℕ) → M.start p ≡ true → Path M p u q → ⊥
    no_path u h p q s w = never (sym (no_bit q) ∙ ap (λ P. bit P q) (sym h) ∙ (set_means W M within u).reached p q s w)
