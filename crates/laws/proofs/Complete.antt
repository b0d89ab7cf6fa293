-- What complete tables of sets and profiles give: both are values as closing asks for them, every set and profile of a word is found,
-- and the tables are closed under one event more.
use Prim.Native.Nat.{ℕ, ◌*◌, ◌^◌, ◌<◌}
use mathlib.Core.Path.{◌≡◌, refl, ap, ◌∙◌, subst}
use mathlib.Core.Bool.{true}
use mathlib.Core.List.{List, [], ◌∷◌}
use mathlib.Core.Option.{none, some}
use lib.ListN.{get_elem?}
use borrow.Author.Tests.{eqb-true, eq-eqb}
use Rattle.laws.specs.Words.{Word, letters_are_below}
use Rattle.laws.specs.Model.{Machine}
use Rattle.laws.specs.Tables.{Entry, Steps, Codes, Closes}
use Rattle.laws.specs.Profiles.{Profile, values, join, start_set, after, set_from, word_set, event_profile, next_profile, profile_from}
use Rattle.laws.specs.Profiles.{word_profile, next_set, set_value, profile_value, HoldsSets, HoldsProfiles}
use Rattle.laws.proofs.Booleans.{inside, not_nothing}
use Rattle.laws.proofs.Packing.{number_of_bits_below}
use Rattle.laws.proofs.Order.{letters_more}
use Rattle.laws.proofs.Places.{In}
use Rattle.laws.proofs.Joins.{same_equal, equal_same, Small, join_small, event_small}
use Rattle.laws.proofs.Idempotent.{code, code_below, code_apart}
use Rattle.laws.proofs.Meaning.{profile_append, set_append, after_below}
use Rattle.laws.proofs.Rebuilt.{empty_first}
use Rattle.laws.proofs.Values.{value_at, found, found_next}
use Rattle.laws.proofs.Tables.{closes}

-- what the opposite needs of two lists: the first set is the start set, and every next set, event's profile and next profile is there
pub record Closed (W : ℕ) (M : Machine ℕ) (k : ℕ) (Ps : List ℕ) (ts : List Profile) : Type 0 where
  pub start_first : get_elem? Ps 0 ≡ some (start_set W M)
  pub next_set_is : (P a : ℕ) → In P Ps → a < k → In (after W M P a) Ps
  pub one_event : (a : ℕ) → a < k → In (event_profile W M a) ts
  pub next_one : (x : Profile) (a : ℕ) → In x ts → a < k → In (join W x (event_profile W M a)) ts

module _ (W : ℕ) (M : Machine ℕ) where
  -- sets, and profiles, are values as closing asks for them
  pub set_steps : Steps (set_value W M)
  unfolding set_value word_set next_set set_from
  set_steps =
      record {
        more = λ w a. ap some (set_append W M (start_set W M) w (a ∷ []));
        same_equal = eqb-true;
        equal_same = λ x. eq-eqb x x refl;
      }

  pub profile_steps : Steps (profile_value W M)
  unfolding profile_value word_profile profile_from
  profile_steps = record { more = λ w a. profile_append W M none w (a ∷ []); same_equal = same_equal; equal_same = equal_same }

  -- the set of a word is below 2^W
  set_below : (w : Word) (P : ℕ) → P < 2 ^ W → set_from W M P w < 2 ^ W
  unfolding set_from
  set_below [] P h = h
  set_below (a ∷ w) P h = set_below w (after W M P a) (after_below W M P a)

  -- so it is its own code
  pub set_codes : (k : ℕ) → Codes (set_value W M) k (2 ^ W)
  unfolding set_value word_set start_set
  set_codes k =
      record {
        code = λ P. P;
        below = λ w P l h. subst (λ Q. Q < 2 ^ W) (inside h) (set_below w (start_set W M) (number_of_bits_below W M.start));
        apart = λ v w P Q lv lw hv hw h. h;
      }

  -- the profile of a word is small, also from a small one on
  small_on : (w : Word) (s t : Profile) → Small W s → profile_from W M (some s) w ≡ some t → Small W t
  unfolding profile_from next_profile
  small_on [] s t small h = subst (Small W) (inside h) small
  small_on (a ∷ w) s t small h = small_on w (join W s (event_profile W M a)) t (join_small W s (event_profile W M a)) h

  profile_small : (w : Word) (t : Profile) → word_profile W M w ≡ some t → Small W t
  unfolding word_profile profile_from next_profile
  profile_small [] t h = absurd (not_nothing h)
  profile_small (a ∷ w) t h = small_on w (event_profile W M a) t (event_small W M a) h

  -- so it has a code
  profile_codes : (k : ℕ) → Codes (profile_value W M) k (2 ^ (W * W) * 2 ^ (W * W))
  unfolding profile_value
  profile_codes k =
      record {
        code = code W;
        below = λ w t l h. code_below W t (profile_small w t h);
        apart = λ v w s t lv lw hs ht. code_apart W s t (profile_small v s hs) (profile_small w t ht);
      }

  -- so both close: at most 2^W sets, and finitely many profiles
  pub sets_closing : (k : ℕ) → Closes (set_value W M) k (2 ^ W)
  sets_closing k = closes set_steps (set_codes k)

  pub profiles_closing : (k : ℕ) → Closes (profile_value W M) k (2 ^ (W * W) * 2 ^ (W * W))
  profiles_closing k = closes profile_steps (profile_codes k)

  module _ (k : ℕ) (sets : List (Entry ℕ)) (profiles : List (Entry Profile)) (hs : HoldsSets W M k sets)
      (hp : HoldsProfiles W M k profiles) where
    -- the set of every word is found, and its profile
    pub sets_found : (w : Word) → letters_are_below k w ≡ true → In (word_set W M w) (values sets)
    unfolding set_value
    sets_found w l = found sets hs w (word_set W M w) l refl

    pub profiles_found : (w : Word) (t : Profile) → letters_are_below k w ≡ true → word_profile W M w ≡ some t → In t (values profiles)
    unfolding profile_value
    profiles_found w t l h = found profiles hp w t l h

    -- the tables are closed under one event more
    pub closed : Closed W M k (values sets) (values profiles)
    unfolding set_value profile_value next_set next_profile word_set set_from word_profile profile_from letters_are_below
    closed =
        record {
          start_first = let (e, e_at, e_value) = empty_first hs {x = start_set W M} refl in value_at sets 0 e e_at ∙ ap some e_value;
          next_set_is = found_next sets hs set_steps;
          one_event = λ a l. found profiles hp (a ∷ []) (event_profile W M a) (letters_more k [] a refl l) refl;
          next_one = found_next profiles hp profile_steps;
        }
