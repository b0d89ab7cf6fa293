-- One course judged: its words read letter by letter, and what is asked of the set and the profile that this gives.
use Prim.Native.Nat.{ℕ, zero, suc, ◌+◌, ◌-◌, ◌<◌, ◌≤◌}
use native.Mathlib.Omega.{arith}
use native.Mathlib.Numerals.{add-one}
use mathlib.Core.Path.{◌≡◌, refl, sym, ◌∙◌}
use mathlib.Core.Bool.{Bool, true, false}
use mathlib.Core.Logic.{◌↔◌}
use mathlib.Core.List.{[], ◌∷◌}
use mathlib.Core.Option.{some}
use lib.ListN.{length, get_or, take, drop, drop_of_length-le}
use lib.Seq.{drop-cons, take-length}
use lib.Dec.{ltb}
use borrow.Author.Tests.{ltb-true, lt-ltb}
use Rattle.std.specs.Prelude.{IsTrue, EachIndex}
use Rattle.laws.specs.Words.{Word, letters_are_below, empty}
use Rattle.laws.specs.Model.{Machine, Within, Accepted, eight}
use Rattle.laws.specs.Profiles.{Profile, join, image, marks_a_round, set_from, word_set, event_profile, next_profile, profile_from, word_profile}
use Rattle.laws.specs.Repeats.{MarksLed, Repeats, accepted_from}
use Rattle.laws.proofs.Booleans.{never, or_left, and_left, and_right, both, same_test}
use Rattle.laws.proofs.Meaning.{machine_within}
use Rattle.laws.proofs.Repeats.{word_led, accepted_from_is}
use Rattle.laws.proofs.Unrefused.{start_mask}
use Rattle.model.specs.Lent.{machine_of}
use Rattle.course.specs.declared.words.Course as words
use Rattle.profile.specs.Values.{plain, event_value}
use Rattle.profile.proofs.Lent.{event_value_is, led_by_arrows, set_after}

-- where every letter is below k, so is the one at a place
pub letter_below : (k : ℕ) (w : Word) (i : ℕ) → letters_are_below k w ≡ true → i < length w → get_or w i 0 < k
unfolding letters_are_below
letter_below k [] i h l = absurd (omega arith)
letter_below k (a ∷ w) zero h l = ltb-true a k (and_left (ltb a k) (letters_are_below k w) h)
letter_below k (a ∷ w) (suc i) h l = letter_below k w i (and_right (ltb a k) (letters_are_below k w) h) (omega arith)

-- and a test that holds exactly if that is so of each place is the test of the word
each_below : (k : ℕ) (w : Word) → EachIndex w (λ i. get_or w i 0 < k) → letters_are_below k w ≡ true
unfolding letters_are_below
each_below k [] h = refl
each_below k (a ∷ w) h = both (lt-ltb a k (h 0 (omega arith))) (each_below k w (λ i l. h (suc i) (omega arith)))

pub all_below : {b : Bool} (k : ℕ) (w : Word) → (IsTrue b ↔ EachIndex w (λ i. get_or w i 0 < k)) → b ≡ letters_are_below k w
all_below k w (all, each) = same_test (λ e. each_below k w (all e)) (λ e. each (λ i l. letter_below k w i e l))

pub some_letter : (w : Word) → empty w ≡ false → 0 < length w
unfolding empty
some_letter [] e = never (sym e)
some_letter (a ∷ w) e = omega arith

-- a word without its first letter
abbrev pub rest : Word → Word
rest w = take (length w - 1) (drop 1 w)

rest_is : (a : ℕ) (w : Word) → rest (a ∷ w) ≡ w
rest_is a w = let all : suc (length w) - 1 ≡ length w = omega arith in rw (all, take-length)

rest_below : (k : ℕ) (w : Word) → letters_are_below k w ≡ true → letters_are_below k (rest w) ≡ true
unfolding letters_are_below
rest_below k [] h = refl
rest_below k (a ∷ w) h = rw rest_is (and_right (ltb a k) (letters_are_below k w) h)

-- after the first letter the profile is that of its event
profile_first : (M : Machine ℕ) (w : Word) {t : Profile} → empty w ≡ false → t ≡ event_profile 8 M (get_or w 0 0)
    → profile_from 8 M (some t) (rest w) ≡ word_profile 8 M w
unfolding word_profile profile_from next_profile empty
profile_first M [] e is = never (sym e)
profile_first M (a ∷ w) e is = rw (rest_is, is)

-- the words of a course: c.u is read for its set, c.v for its profile
module _ (c : words.Course) where
  abbrev M : Machine ℕ
  M = machine_of c.model

  -- the number of arrows lent for an event
  abbrev lent : ℕ → ℕ
  lent a = get_or c.model.arrows.now a 0

  letter_there : (w : Word) → letters_are_below c.model.model.k w ≡ true → (i : ℕ) → i < length w
      → get_or w i 0 < length c.model.arrows.now
  letter_there w h i l = omega (arith, letter_below _ w i h l, c.model.unrefused.arrows_there)

  -- what is left of u at i, from the set P, gives the set of u
  abbrev pub SetFrom : ℕ → ℕ → Type 0
  SetFrom P i = set_from 8 M P (drop i c.u.now) ≡ word_set 8 M c.u.now

  -- before the first letter the set is that of the empty word
  pub set_start : SetFrom c.model.model.start 0
  unfolding word_set
  set_start = rw (start_mask eight _ c.model.unrefused)

  module _ {i : ℕ} where
    pub u_there : i < length c.u.now → get_or c.u.now i 0 < length c.model.arrows.now
    u_there l = letter_there c.u.now c.is_course.u_letters i l

    pub set_turn : (P : ℕ) {Q : ℕ} → SetFrom P i → i < length c.u.now → Q ≡ image 8 P (plain (lent (get_or c.u.now i 0)))
        → SetFrom Q (i + 1)
    unfolding set_from
    set_turn P left l is =
        let after = set_after _ c.model.unrefused P _ (letter_below _ c.u.now i c.is_course.u_letters l) in
        rw (add-one, is ∙ after) (rw (drop-cons c.u.now i 0 l) at left)

    pub set_end : {P : ℕ} → SetFrom P i → length c.u.now ≤ i → P ≡ word_set 8 M c.u.now
    unfolding set_from
    set_end left l = rw (drop_of_length-le c.u.now l) at left

  -- the profile of an event that was made of its lent arrows
  event_is : (w : Word) → letters_are_below c.model.model.k w ≡ true → (i : ℕ) → i < length w → {e : Profile}
      → e ≡ event_value (lent (get_or w i 0)) c.model.model.home → e ≡ event_profile 8 M (get_or w i 0)
  event_is w h i l is = is ∙ event_value_is _ c.model.unrefused _ (letter_below _ w i h l)

  pub first_there : get_or c.v.now 0 0 < length c.model.arrows.now
  first_there = letter_there c.v.now c.is_course.v_letters 0 (some_letter _ c.is_course.v_some)

  -- what is left of the rest of v at i, from the profile t, gives the profile of v
  abbrev pub ProfileFrom : Profile → ℕ → Type 0
  ProfileFrom t i = profile_from 8 M (some t) (drop i (rest c.v.now)) ≡ word_profile 8 M c.v.now

  pub profile_start : {t : Profile} → t ≡ event_value (lent (get_or c.v.now 0 0)) c.model.model.home → ProfileFrom t 0
  profile_start is =
      let there = some_letter _ c.is_course.v_some in
      profile_first M c.v.now c.is_course.v_some (event_is c.v.now c.is_course.v_letters 0 there is)

  module _ {i : ℕ} where
    pub v_there : i < length (rest c.v.now) → get_or (rest c.v.now) i 0 < length c.model.arrows.now
    v_there l = letter_there (rest c.v.now) (rest_below _ c.v.now c.is_course.v_letters) i l

    pub profile_turn : (t : Profile) {x e : Profile} → ProfileFrom t i → i < length (rest c.v.now)
        → e ≡ event_value (lent (get_or (rest c.v.now) i 0)) c.model.model.home → x ≡ join 8 t e → ProfileFrom x (i + 1)
    unfolding profile_from next_profile
    profile_turn t left l event is =
        let so = event_is (rest c.v.now) (rest_below _ c.v.now c.is_course.v_letters) i l event in
        rw (add-one, is, so) (rw (drop-cons (rest c.v.now) i 0 l) at left)

    pub profile_end : {t : Profile} → ProfileFrom t i → length (rest c.v.now) ≤ i → word_profile 8 M c.v.now ≡ some t
    unfolding profile_from
    profile_end left l = sym (rw (drop_of_length-le (rest c.v.now) l) at left)

  -- set is the set of u, t the profile of v, and all of t's repeats are in one: their two tests are those of `accepted_from`, which settle
  -- the course
  module _ {t : Profile} (p : word_profile 8 M c.v.now ≡ some t) where
    within : Within 8 M
    within = machine_within 8 _ c.model.unrefused.n_most

    pub round_led : MarksLed 8 t
    round_led = word_led 8 M within c.v.now t p

    module _ {set : ℕ} (s : set ≡ word_set 8 M c.u.now) (all : Profile) (r : Repeats 8 t all) where
      settled : {b : Bool} → b ≡ accepted_from 8 set all → (b ≡ true) ↔ Accepted M c.u.now c.v.now
      settled e = rw (e, s) (accepted_from_is 8 M within c.u.now c.v.now t all p r)

      pub at_once : {b : Bool} → b ≡ marks_a_round 8 set all → b ≡ true → (b ≡ true) ↔ Accepted M c.u.now c.v.now
      unfolding accepted_from
      at_once f h = settled (h ∙ sym (or_left (marks_a_round 8 (image 8 set all) all) (sym f ∙ h)))

      pub then_led : {b : Bool} {led : ℕ} → b ≡ marks_a_round 8 led all → led ≡ image 8 set (plain all.arrows)
          → marks_a_round 8 set all ≡ false → (b ≡ true) ↔ Accepted M c.u.now c.v.now
      unfolding accepted_from
      then_led e l h = settled (rw (h, ← led_by_arrows, ← l, e))

pub ruleset set_steps = (u_there, set_start, set_turn, set_end)

pub ruleset profile_steps = (some_letter, first_there, v_there, profile_start, profile_turn, profile_end)

pub ruleset accepting = (round_led, at_once, then_led)
