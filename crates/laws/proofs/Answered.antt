-- What the answers are, case by case, in terms of complete tables: the number, what stands in the tables, the verdict, and the opposite.
-- The cases are all there are, and no two give the same number but the two of the verdict with number 0. So each number is given exactly
-- when it is listed; and with number 0 demands 2 and 3 hold.
use Prim.Native.Nat.{ℕ, zero, suc, ◌*◌, ◌^◌, ◌<◌, ◌≤◌}
use native.Mathlib.Omega.{arith}
use mathlib.Core.Path.{◌≡◌, refl, sym, ap, ◌∙◌}
use mathlib.Core.Bool.{Bool, true, false, ◌||◌}
use mathlib.Core.Logic.{◌⊎◌, ◌↔◌, inl, inr, ⊎_elim}
use mathlib.Core.List.{List, [], ◌∷◌, ◌++◌}
use mathlib.Core.Option.{none, some}
use lib.ListN.{length, take, get_elem?, length-take}
use lib.Seq.{take_all, length-take-le}
use lib.Dec.{ltb, leb, eqb}
use borrow.Author.Tests.{lt-ltb, le-ltb, ltb-true, ltb-false, leb-true}
use Rattle.laws.specs.Words.{Word}
use Rattle.laws.specs.Model.{Kind, Machine, Model, machine}
use Rattle.laws.specs.Tables.{Entry, Table, UpTo, Closes, no_entry, no_event}
use Rattle.laws.specs.Refusals.{first_of, fault, refuse, model_checks, word_checks, course_checks, Unrefused}
use Rattle.laws.specs.Bits.{some_of, every_of}
use Rattle.laws.specs.Profiles.{Profile, Verdict, covered, uncovered, RightVerdict, verdict, values}
use Rattle.laws.specs.Profiles.{set_value, profile_value, HoldsSets, HoldsProfiles, set_table, profile_table}
use Rattle.laws.specs.Opposite.{Arrow, sorted, written, block_profiles, flags, state_count, arrows, arrow_count, opposite, Opposed}
use Rattle.laws.specs.Answers.{ClosingAnswer, closing_answer, closing_of, u_and_v, words, verdict_from, verdict_answer}
use Rattle.laws.specs.Answers.{opposite_from, opposite_answer, CourseAnswer}
use Rattle.laws.proofs.Booleans.{or_left, or_right, same_test, not_nothing}
use Rattle.laws.proofs.Checks.{first_number, OneOf}
use Rattle.laws.proofs.Tables.{up_to}
use Rattle.laws.proofs.Complete.{set_steps, profile_steps, sets_closing, profiles_closing, closed as tables_closed}
use Rattle.laws.proofs.Meaning.{machine_within}
use Rattle.laws.proofs.Verdicts.{verdict_right}
use Rattle.laws.proofs.Opposites.{opposed}
use Rattle.laws.proofs.Counts.{states_counted, arrows_counted, arrows_inside}
use Rattle.laws.proofs.Sorted.{arrows_sorted}
use Rattle.laws.proofs.Members.{member}
use Rattle.laws.proofs.Unrefused.{unrefused}

-- a table up to a room has no more entries than that
fits : {Value : Type 0} {room : ℕ} {complete : List (Entry Value)} {t : Table Value} → UpTo room complete t → length t.entries ≤ room
fits {room = room} {complete = complete} u = omega (arith, ap length u.first, length-take room complete)

-- THE VERDICT, from an answer c of closing and a room w for words; x is the verdict on its tables
module _ (W : ℕ) (c : ClosingAnswer) (w : ℕ) where
  abbrev x : Verdict
  x = verdict W c.sets c.profiles

  -- after a refusal of closing: its number and tables, and no verdict
  pub verdict_refused : (n : ℕ) → c.number ≡ suc n
      → verdict_from W c w ≡ record { number = suc n; sets = c.sets; profiles = c.profiles; verdict = none }
  unfolding verdict_from
  verdict_refused n e = rw (e, verdict_from)

  module _ (closed : c.number ≡ 0) where
    -- 0 where the verdict is "covered"
    pub verdict_covered : x ≡ covered
        → verdict_from W c w ≡ record { number = 0; sets = c.sets; profiles = c.profiles; verdict = some covered }
    unfolding verdict_from words u_and_v
    verdict_covered e = rw (closed, e, le-ltb w 0 (omega arith), verdict_from, e)

    module _ (u v : Word) (e : x ≡ uncovered u v) where
      -- 6 where it is "uncovered" and u and v together exceed the word memory
      pub verdict_6 : w < length (u ++ v)
          → verdict_from W c w ≡ record { number = 6; sets = c.sets; profiles = c.profiles; verdict = none }
      unfolding verdict_from words u_and_v
      verdict_6 l = rw (closed, e, lt-ltb w (length (u ++ v)) l, verdict_from)

      -- 0 where they do not
      pub verdict_uncovered : length (u ++ v) ≤ w
          → verdict_from W c w ≡ record { number = 0; sets = c.sets; profiles = c.profiles; verdict = some (uncovered u v) }
      unfolding verdict_from words u_and_v
      verdict_uncovered l = rw (closed, e, le-ltb w (length (u ++ v)) l, verdict_from, e)

  -- as closing's numbers are 0 to 5, 6 comes exactly where it has no refusal and u and v exceed the word memory; and no number is above 6
  abbrev Six : Type 0
  Six = (((verdict_from W c w).number ≡ 6) ↔ ((c.number ≡ 0) × (w < length (words (some x))))) × ((verdict_from W c w).number ≤ 6)

  six : c.number ≤ 5 → Six
  unfolding verdict_from
  six h = go c.number (ltb w (length (words (some x)))) refl refl
    where
      go : (n : ℕ) (l : Bool) → c.number ≡ n → ltb w (length (words (some x))) ≡ l → Six
      go (suc n) l e f = rw (e, verdict_from) (omega arith)
      go zero true e f = rw (e, f, verdict_from) (omega (arith, ltb-true w (length (words (some x))) f))
      go zero false e f = rw (e, f, verdict_from) (omega (arith, ltb-false w (length (words (some x))) f))

  pub verdict_exactly_6 : c.number ≤ 5 → ((verdict_from W c w).number ≡ 6) ↔ ((c.number ≡ 0) × (w < length (words (some x))))
  verdict_exactly_6 h = (six h).0

  pub verdict_most : c.number ≤ 5 → (verdict_from W c w).number ≤ 6
  verdict_most h = (six h).1

  -- what is given is no verdict, or that of the tables where closing has no refusal
  pub verdict_given : ((verdict_from W c w).verdict ≡ none) ⊎ ((c.number ≡ 0) × ((verdict_from W c w).verdict ≡ some x))
  unfolding verdict_from
  verdict_given = go c.number (ltb w (length (words (some x)))) refl refl
    where
      go : (n : ℕ) (l : Bool) → c.number ≡ n → ltb w (length (words (some x))) ≡ l
          → ((verdict_from W c w).verdict ≡ none) ⊎ ((c.number ≡ 0) × ((verdict_from W c w).verdict ≡ some x))
      go (suc n) l e f = inl (rw (e, verdict_from))
      go zero true e f = inl (rw (e, f, verdict_from))
      go zero false e f = inr (e, rw (e, f, verdict_from))

  -- whatever the number, no more is written than there is room
  pub verdict_within : length (words (verdict_from W c w).verdict) ≤ w
  unfolding verdict_from words u_and_v
  verdict_within = go c.number (ltb w (length (words (some x)))) refl refl
    where
      go : (n : ℕ) (l : Bool) → c.number ≡ n → ltb w (length (words (some x))) ≡ l → length (words (verdict_from W c w).verdict) ≤ w
      go (suc n) l e f = rw (e, verdict_from) (omega arith)
      go zero true e f = rw (e, f, verdict_from) (omega arith)
      go zero false e f = rw (e, f, verdict_from) (ltb-false w (length (words (some x))) f)

-- a and b are the rooms for sets and profiles; W and M are the model's, S and T its tables with these rooms, and C the answer of closing
module _ (K : Kind) (m : Model) (a b : ℕ) where
  abbrev W : ℕ
  W = K.states

  abbrev M : Machine ℕ
  M = machine W m

  abbrev S : Table ℕ
  S = set_table W M m.k a

  abbrev T : Table Profile
  T = profile_table W M m.k b

  abbrev C : ClosingAnswer
  C = closing_answer K m a b

  -- CLOSING. After 1, 2 or 3 both tables are empty
  pub closing_refused : (n : ℕ) → (first_of (model_checks K m)).number ≡ suc n → C ≡ record { number = suc n; sets = []; profiles = [] }
  unfolding closing_answer
  closing_refused n f = rw (f, closing_answer)

  module _ (passes : (first_of (model_checks K m)).number ≡ 0) (sets : List (Entry ℕ)) (hs : HoldsSets W M m.k sets) where
    -- the set table is the first part of all sets, cut exactly if there are more than room
    sets_made : UpTo a sets S
    unfolding set_table
    sets_made = up_to (set_steps W M) sets hs a

    -- 4 where there are more sets than room: as many as there is room, and no profile
    pub closing_4 : a < length sets → C ≡ record { number = 4; sets = take a sets; profiles = [] }
    unfolding closing_answer
    closing_4 l = rw (passes, sets_made.cut ∙ lt-ltb a (length sets) l, sets_made.first, closing_answer)

    module _ (fits : length sets ≤ a) (profiles : List (Entry Profile)) (hp : HoldsProfiles W M m.k profiles) where
      -- where the sets fit they are all there, and the profile table is the first part of all profiles
      sets_uncut : S.cut ≡ false
      sets_uncut = sets_made.cut ∙ le-ltb a (length sets) fits

      sets_all : S.entries ≡ sets
      sets_all = sets_made.first ∙ take_all a sets fits

      profiles_made : UpTo b profiles T
      unfolding profile_table
      profiles_made = up_to (profile_steps W M) profiles hp b

      -- 5 where there are more profiles than room: all sets, and as many profiles as there is room
      pub closing_5 : b < length profiles → C ≡ record { number = 5; sets = sets; profiles = take b profiles }
      unfolding closing_answer
      closing_5 l =
          rw (passes, sets_uncut, profiles_made.cut ∙ lt-ltb b (length profiles) l, sets_all, profiles_made.first, closing_answer)

      -- 0 where these fit too: both tables complete
      pub closing_0 : length profiles ≤ b → C ≡ record { number = 0; sets = sets; profiles = profiles }
      unfolding closing_answer
      closing_0 l =
          let uncut = profiles_made.cut ∙ le-ltb b (length profiles) l in
          rw (passes, sets_uncut, uncut, sets_all, profiles_made.first ∙ take_all b profiles l, closing_answer)

  -- together: closing answers what document 01 lists, whichever lists hold all sets and all profiles
  pub closing_listed : (sets : List (Entry ℕ)) → HoldsSets W M m.k sets → (profiles : List (Entry Profile))
      → HoldsProfiles W M m.k profiles → C ≡ closing_of K m a b sets profiles
  unfolding closing_of
  closing_listed sets hs profiles hp = go (first_of (model_checks K m)).number (ltb a (length sets)) (ltb b (length profiles)) refl refl refl
    where
      go : (n : ℕ) (s t : Bool) → (first_of (model_checks K m)).number ≡ n → ltb a (length sets) ≡ s → ltb b (length profiles) ≡ t
          → C ≡ closing_of K m a b sets profiles
      go (suc n) s t f p q = rw (f, closing_of) (closing_refused n f)
      go zero true t f p q = rw (f, p, closing_of) (closing_4 f sets hs (ltb-true a (length sets) p))
      go zero false true f p q =
          rw (f, p, q, closing_of) (closing_5 f sets hs (ltb-false a (length sets) p) profiles hp (ltb-true b (length profiles) q))
      go zero false false f p q =
          rw (f, p, q, closing_of) (closing_0 f sets hs (ltb-false a (length sets) p) profiles hp (ltb-false b (length profiles) q))

  -- its numbers are 0 to 5
  model_numbers : (first_of (model_checks K m)).number ≤ 3
  unfolding model_checks refuse fault every_of
  model_numbers = leb-true _ 3 (first_number (λ n. leb n 3) refl (model_checks K m) refl)

  pub closing_numbers : C.number ≤ 5
  unfolding closing_answer
  closing_numbers = go (first_of (model_checks K m)).number S.cut T.cut refl refl refl
    where
      go : (n : ℕ) (s t : Bool) → (first_of (model_checks K m)).number ≡ n → S.cut ≡ s → T.cut ≡ t → C.number ≤ 5
      go (suc n) s t f p q = rw (f, closing_answer) (omega (arith, model_numbers))
      go zero true t f p q = rw (f, p, closing_answer) (omega arith)
      go zero false true f p q = rw (f, p, q, closing_answer) (omega arith)
      go zero false false f p q = rw (f, p, q, closing_answer) (omega arith)

  -- so 4 comes exactly where the model is not refused and there are more sets than room, and 5 exactly where the sets fit and there are
  -- more profiles than room, whichever lists hold all sets and all profiles
  module _ (sets : List (Entry ℕ)) (hs : HoldsSets W M m.k sets) (profiles : List (Entry Profile))
      (hp : HoldsProfiles W M m.k profiles) where
    abbrev Exactly : Type 0
    Exactly =
        ((C.number ≡ 4) ↔ (((first_of (model_checks K m)).number ≡ 0) × (a < length sets)))
        × ((C.number ≡ 5) ↔ (((first_of (model_checks K m)).number ≡ 0) × (length sets ≤ a) × (b < length profiles)))

    exactly : Exactly
    exactly = go (first_of (model_checks K m)).number (ltb a (length sets)) (ltb b (length profiles)) refl refl refl
      where
        go : (n : ℕ) (s t : Bool) → (first_of (model_checks K m)).number ≡ n → ltb a (length sets) ≡ s → ltb b (length profiles) ≡ t → Exactly
        go (suc n) s t f p q = omega (arith, model_numbers, ap (λ c. c.number) (closing_refused n f))
        go zero true t f p q =
            let more = ltb-true a (length sets) p in
            omega (arith, ap (λ c. c.number) (closing_4 f sets hs more))
        go zero false true f p q =
            let fit = ltb-false a (length sets) p in
            let more = ltb-true b (length profiles) q in
            omega (arith, ap (λ c. c.number) (closing_5 f sets hs fit profiles hp more))
        go zero false false f p q =
            let fit = ltb-false a (length sets) p in
            let all = ltb-false b (length profiles) q in
            omega (arith, ap (λ c. c.number) (closing_0 f sets hs fit profiles hp all))

    pub closing_exactly_4 : (C.number ≡ 4) ↔ (((first_of (model_checks K m)).number ≡ 0) × (a < length sets))
    closing_exactly_4 = exactly.0

    pub closing_exactly_5 : (C.number ≡ 5) ↔ (((first_of (model_checks K m)).number ≡ 0) × (length sets ≤ a) × (b < length profiles))
    closing_exactly_5 = exactly.1

  -- with 4 as many sets are entered as there is room, and with 5 as many profiles
  abbrev all_sets : Closes (set_value W M) m.k (2 ^ W)
  all_sets = sets_closing W M m.k

  abbrev all_profiles : Closes (profile_value W M) m.k (2 ^ (W * W) * 2 ^ (W * W))
  all_profiles = profiles_closing W M m.k

  pub full_after_4 : C.number ≡ 4 → length C.sets ≡ a
  full_after_4 h =
      let (passes, more) = (closing_exactly_4 _ all_sets.holds _ all_profiles.holds).0 h in
      ap (λ c. length c.sets) (closing_4 passes _ all_sets.holds more) ∙ length-take-le a all_sets.complete (omega arith)

  pub full_after_5 : C.number ≡ 5 → length C.profiles ≡ b
  full_after_5 h =
      let (passes, fit, more) = (closing_exactly_5 _ all_sets.holds _ all_profiles.holds).0 h in
      ap (λ c. length c.profiles) (closing_5 passes _ all_sets.holds fit _ all_profiles.holds more)
      ∙ length-take-le b all_profiles.complete (omega arith)

  -- with room for 2^W sets 4 does not come
  pub never_4 : 2 ^ W ≤ a → C.number ≡ 4 → ⊥
  never_4 room h = omega (arith, (closing_exactly_4 _ all_sets.holds _ all_profiles.holds).0 h, all_sets.at_most)

  -- whatever the number, no more is entered than there is room
  sets_fit : length S.entries ≤ a
  unfolding set_table
  sets_fit = fits ((sets_closing W M m.k).up_to_room a)

  profiles_fit : length T.entries ≤ b
  unfolding profile_table
  profiles_fit = fits ((profiles_closing W M m.k).up_to_room b)

  pub closing_within : (length C.sets ≤ a) × (length C.profiles ≤ b)
  unfolding closing_answer
  closing_within = go (first_of (model_checks K m)).number S.cut T.cut refl refl refl
    where
      go : (n : ℕ) (s t : Bool) → (first_of (model_checks K m)).number ≡ n → S.cut ≡ s → T.cut ≡ t
          → (length C.sets ≤ a) × (length C.profiles ≤ b)
      go (suc n) s t f p q = rw (f, closing_answer) (omega arith)
      go zero true t f p q = rw (f, p, closing_answer) (sets_fit, omega arith)
      go zero false true f p q = rw (f, p, q, closing_answer) (sets_fit, profiles_fit)
      go zero false false f p q = rw (f, p, q, closing_answer) (sets_fit, profiles_fit)

  -- the tables of an answer hold all sets and profiles of a model that is not refused with 1, 2 or 3, within their rooms
  pub record Whole (c : ClosingAnswer) : Type 0 where
    pub model : Unrefused K m
    pub sets_hold : HoldsSets W M m.k c.sets
    pub profiles_hold : HoldsProfiles W M m.k c.profiles
    pub sets_fit : length c.sets ≤ a
    pub profiles_fit : length c.profiles ≤ b

  -- with number 0 closing gives such tables
  pub closing_whole : C.number ≡ 0 → Whole C
  unfolding closing_answer set_table profile_table
  closing_whole h = go (first_of (model_checks K m)).number S.cut T.cut refl refl refl
    where
      go : (n : ℕ) (s t : Bool) → (first_of (model_checks K m)).number ≡ n → S.cut ≡ s → T.cut ≡ t → Whole C
      go (suc n) s t f p q = absurd (omega (arith, rw (f, closing_answer) at h))
      go zero true t f p q = absurd (omega (arith, rw (f, p, closing_answer) at h))
      go zero false true f p q = absurd (omega (arith, rw (f, p, q, closing_answer) at h))
      go zero false false f p q =
          rw (f, p, q, closing_answer)
          (record {
            model = unrefused K m f;
            sets_hold = (sets_closing W M m.k).uncut a p;
            profiles_hold = (profiles_closing W M m.k).uncut b q;
            sets_fit = sets_fit;
            profiles_fit = profiles_fit;
          })

  module _ (w : ℕ) where
    abbrev y : Verdict
    y = verdict W C.sets C.profiles

    -- the verdict's numbers are 0 to 6
    pub verdict_gives : (verdict_answer K m a b w).number ≤ 6
    unfolding verdict_answer
    verdict_gives = verdict_most W C w closing_numbers

    -- DEMAND 2: with number 0 the verdict is that of the tables, and it is right
    pub verdict_answers : a ≤ suc no_entry → b ≤ suc no_entry → K.events ≤ no_event → (verdict_answer K m a b w).number ≡ 0
        → ((verdict_answer K m a b w).verdict ≡ some y) × RightVerdict M m.k y
    unfolding verdict_answer verdict_from
    verdict_answers la lb lk h = go C.number (ltb w (length (words (some y)))) refl refl
      where
        right : C.number ≡ 0 → RightVerdict M m.k y
        right e =
            let c = closing_whole e in
            verdict_right W M (machine_within W m c.model.n_most) m.k C.sets C.profiles
            c.sets_hold c.profiles_hold (omega arith) (omega arith) (omega arith)

        go : (n : ℕ) (l : Bool) → C.number ≡ n → ltb w (length (words (some y))) ≡ l
            → ((verdict_answer K m a b w).verdict ≡ some y) × RightVerdict M m.k y
        go (suc n) l e f = absurd (omega (arith, rw (e, verdict_from) at h))
        go zero true e f = absurd (omega (arith, rw (e, f, verdict_from) at h))
        go zero false e f = (rw (e, f, verdict_from), right e)

  -- the sets, profiles and blocks that the opposite is made from, and its counted states and arrows
  abbrev Ps : List ℕ
  Ps = values C.sets

  abbrev ts : List Profile
  ts = values C.profiles

  abbrev bs : List Profile
  bs = block_profiles W Ps ts

  abbrev states : ℕ
  states = state_count Ps ts bs

  abbrev lines : ℕ
  lines = arrow_count W M m.k Ps ts bs

  module _ (s r : ℕ) where
    -- THE OPPOSITE. After a refusal of closing: its number and tables, and nothing of the opposite
    pub opposite_refused : (n : ℕ) → C.number ≡ suc n
        → opposite_answer K m a b s r ≡ record { number = suc n; sets = C.sets; profiles = C.profiles; flags = []; arrows = [] }
    unfolding opposite_answer opposite_from
    opposite_refused n e = rw (e, opposite_from)

    module _ (closed : C.number ≡ 0) where
      -- 7 where the counted states or arrows exceed their room
      pub opposite_7 : (s < states) ⊎ (r < lines)
          → opposite_answer K m a b s r ≡ record { number = 7; sets = C.sets; profiles = C.profiles; flags = []; arrows = [] }
      unfolding opposite_answer opposite_from
      opposite_7 l =
          let over : (ltb s states || ltb r lines) ≡ true =
          ⊎_elim (λ t. or_left (ltb r lines) (lt-ltb s states t)) (λ t. or_right (ltb s states) (lt-ltb r lines t)) l in
          rw (closed, over, opposite_from)

      -- 0 where they do not: the flags and the arrows
      pub opposite_0 : states ≤ s → lines ≤ r
          → opposite_answer K m a b s r ≡ record {
            number = 0;
            sets = C.sets;
            profiles = C.profiles;
            flags = flags Ps ts bs;
            arrows = arrows W M m.k Ps ts bs;
          }
      unfolding opposite_answer opposite_from
      opposite_0 l k = rw (closed, le-ltb s states l, le-ltb r lines k, opposite_from)

    -- its numbers are 0 to 5 and 7
    pub opposite_gives : ((opposite_answer K m a b s r).number ≤ 7) × ((opposite_answer K m a b s r).number ≡ 6 → ⊥)
    unfolding opposite_answer opposite_from
    opposite_gives = go C.number (ltb s states || ltb r lines) refl refl
      where
        go : (n : ℕ) (l : Bool) → C.number ≡ n → (ltb s states || ltb r lines) ≡ l
            → ((opposite_answer K m a b s r).number ≤ 7) × ((opposite_answer K m a b s r).number ≡ 6 → ⊥)
        go (suc n) l e f = rw (e, opposite_from) (omega (arith, closing_numbers))
        go zero true e f = rw (e, f, opposite_from) (omega arith)
        go zero false e f = rw (e, f, opposite_from) (omega arith)

    -- so 7 comes exactly where closing has no refusal and the counted states or arrows exceed their room
    pub opposite_exactly_7 : ((opposite_answer K m a b s r).number ≡ 7) ↔ ((C.number ≡ 0) × ((s < states) ⊎ (r < lines)))
    unfolding opposite_answer opposite_from
    opposite_exactly_7 = (only, (λ h. ap (λ d. d.number) (opposite_7 h.0 h.1)))
      where
        only : (opposite_answer K m a b s r).number ≡ 7 → (C.number ≡ 0) × ((s < states) ⊎ (r < lines))
        only h = go C.number (ltb s states) (ltb r lines) refl refl refl
          where
            go : (n : ℕ) (x y : Bool) → C.number ≡ n → ltb s states ≡ x → ltb r lines ≡ y → (C.number ≡ 0) × ((s < states) ⊎ (r < lines))
            go (suc n) x y e f g = absurd (omega (arith, closing_numbers, rw (e, opposite_from) at h))
            go zero true y e f g = (e, inl (ltb-true s states f))
            go zero false true e f g = (e, inr (ltb-true r lines g))
            go zero false false e f g = absurd (omega (arith, rw (e, f, g, opposite_from) at h))

    -- with number 0 there are as many flags and arrows as document 01 counts
    pub opposite_counts : (opposite_answer K m a b s r).number ≡ 0
        → (length (opposite_answer K m a b s r).flags ≡ states) × (length (opposite_answer K m a b s r).arrows ≡ lines)
    unfolding opposite_answer opposite_from
    opposite_counts h = go C.number (ltb s states || ltb r lines) refl refl
      where
        go : (n : ℕ) (l : Bool) → C.number ≡ n → (ltb s states || ltb r lines) ≡ l
            → (length (opposite_answer K m a b s r).flags ≡ states) × (length (opposite_answer K m a b s r).arrows ≡ lines)
        go (suc n) l e f = absurd (omega (arith, rw (e, opposite_from) at h))
        go zero true e f = absurd (omega (arith, rw (e, f, opposite_from) at h))
        go zero false e f = rw (e, f, opposite_from) (states_counted Ps ts bs, arrows_counted W M m.k Ps ts)

    -- whatever the number, no more is written than there is room
    pub opposite_within : (length (opposite_answer K m a b s r).flags ≤ s) × (length (opposite_answer K m a b s r).arrows ≤ r)
    unfolding opposite_answer opposite_from
    opposite_within = go C.number (ltb s states) (ltb r lines) refl refl refl
      where
        go : (n : ℕ) (x y : Bool) → C.number ≡ n → ltb s states ≡ x → ltb r lines ≡ y
            → (length (opposite_answer K m a b s r).flags ≤ s) × (length (opposite_answer K m a b s r).arrows ≤ r)
        go (suc n) x y e f g = rw (e, opposite_from) (omega arith, omega arith)
        go zero true y e f g = rw (e, f, opposite_from) (omega arith, omega arith)
        go zero false true e f g = rw (e, f, g, opposite_from) (omega arith, omega arith)
        go zero false false e f g =
            rw (e, f, g, opposite_from) (
              omega (arith, states_counted Ps ts bs, ltb-false s states f),
              omega (arith, arrows_counted W M m.k Ps ts, ltb-false r lines g),
            )

    -- whatever the number, its arrows are sorted, and none is there twice
    pub opposite_sorted : sorted (opposite_answer K m a b s r).arrows ≡ true
    unfolding opposite_answer opposite_from sorted
    opposite_sorted = go C.number (ltb s states || ltb r lines) refl refl
      where
        go : (n : ℕ) (l : Bool) → C.number ≡ n → (ltb s states || ltb r lines) ≡ l → sorted (opposite_answer K m a b s r).arrows ≡ true
        go (suc n) l e f = rw (e, opposite_from)
        go zero true e f = rw (e, f, opposite_from)
        go zero false e f = rw (e, f, opposite_from) (arrows_sorted W M m.k Ps ts bs)

    -- they are on the k events, between states that have a flag
    pub opposite_inside : (i : ℕ) (e : Arrow) → get_elem? (opposite_answer K m a b s r).arrows i ≡ some e
        → (e.from < length (opposite_answer K m a b s r).flags) × (e.event < m.k) × (e.to < length (opposite_answer K m a b s r).flags)
    unfolding opposite_answer opposite_from
    opposite_inside i e = go C.number (ltb s states || ltb r lines) refl refl
      where
        go : (n : ℕ) (l : Bool) → C.number ≡ n → (ltb s states || ltb r lines) ≡ l
            → get_elem? (opposite_answer K m a b s r).arrows i ≡ some e
            → (e.from < length (opposite_answer K m a b s r).flags) × (e.event < m.k)
            × (e.to < length (opposite_answer K m a b s r).flags)
        go (suc n) l p f = rw (p, opposite_from) (λ h. absurd (not_nothing h))
        go zero true p f = rw (p, f, opposite_from) (λ h. absurd (not_nothing h))
        go zero false p f =
            let c = closing_whole p in
            let whole = tables_closed W M m.k C.sets C.profiles c.sets_hold c.profiles_hold in
            rw (p, f, opposite_from, states_counted Ps ts bs)
            (λ h. arrows_inside W M m.k Ps ts bs whole e (member (arrows W M m.k Ps ts bs) (i, h)))

    -- DEMAND 3: with number 0 of every course exactly one of the model and the machine read from its flags and arrows accepts
    pub opposite_answers : (opposite_answer K m a b s r).number ≡ 0
        → Opposed M (written (opposite_answer K m a b s r).flags (opposite_answer K m a b s r).arrows) m.k
    unfolding opposite_answer opposite_from opposite
    opposite_answers h = go C.number (ltb s states || ltb r lines) refl refl
      where
        go : (n : ℕ) (l : Bool) → C.number ≡ n → (ltb s states || ltb r lines) ≡ l
            → Opposed M (written (opposite_answer K m a b s r).flags (opposite_answer K m a b s r).arrows) m.k
        go (suc n) l e f = absurd (omega (arith, rw (e, opposite_from) at h))
        go zero true e f = absurd (omega (arith, rw (e, f, opposite_from) at h))
        go zero false e f =
            let c = closing_whole e in
            let within = machine_within W m c.model.n_most in
            rw (e, f, opposite_from) (opposed W M m.k C.sets C.profiles c.sets_hold c.profiles_hold within)

-- ONE COURSE gets 0 or one of document 01's 1, 2, 3, 10 and 9
pub course_gives : (K : Kind) (m : Model) (u v : Word) → OneOf (0 ∷ 1 ∷ 2 ∷ 3 ∷ 10 ∷ 9 ∷ []) (first_of (course_checks K m u v)).number
unfolding course_checks model_checks word_checks refuse fault every_of some_of
course_gives K m u v = first_number (λ n. some_of (eqb n) (0 ∷ 1 ∷ 2 ∷ 3 ∷ 10 ∷ 9 ∷ [])) refl (course_checks K m u v) refl

-- it has one judgement
pub one_judged : {K : Kind} {m : Model} {u v : Word} {n l : ℕ} {c d : Bool} → CourseAnswer K m u v n c → CourseAnswer K m u v l d
    → (n ≡ l) × (c ≡ d)
one_judged {K = K} {m = m} {u = u} {v = v} {n = n} {l = l} p q = (same, same_test (yes p q same) (yes q p (sym same)))
  where
    same : n ≡ l
    same = p.number_is ∙ sym q.number_is

    yes : {n l : ℕ} {c d : Bool} → CourseAnswer K m u v n c → CourseAnswer K m u v l d → n ≡ l → c ≡ true → d ≡ true
    yes p q e h = q.yes_if (sym e ∙ p.yes_with_0 h) (p.yes_only_if h)
