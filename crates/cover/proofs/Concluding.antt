-- What follows from complete tables: no pair rejects, or the words of the first that does have or have no room. The first pair in the
-- slices is the first of their entries, and its words are those of the entries.
use Prim.Native.Nat.{ℕ, ◌<◌}
use native.Mathlib.Omega.{arith}
use mathlib.Core.Path.{◌≡◌, refl, sym, ap, ap₂, ◌∙◌}
use mathlib.Core.List.{List}
use mathlib.Core.Option.{some}
use lib.ListN.{length, get_or, get_elem?, length-map}
use Rattle.std.proofs.Common.{Result, Ok, Err, None}
use Rattle.laws.specs.Words.{Word}
use Rattle.laws.specs.Tables.{Entry}
use Rattle.laws.specs.Profiles.{Profile, values, is_rejecting_pair, FirstPair, covered, uncovered, verdict}
use Rattle.laws.specs.Answers.{SetSlices, ProfileSlices, VerdictAnswer, over, u_and_v, words, verdict_from, word_memory}
use Rattle.laws.proofs.Booleans.{inside}
use Rattle.laws.proofs.Places.{place_below}
use Rattle.laws.proofs.Values.{value_at}
use Rattle.laws.proofs.Verdicts.{covered_none, first_verdict}
use Rattle.laws.proofs.Answered.{verdict_covered, verdict_6, verdict_uncovered}
use Rattle.model.specs.declared.refusals.Refusal.TheVariants.{FewLetters}
use Rattle.closing.specs.Memory.{entries_in, sets_in, profiles_in}
use Rattle.closing.specs.declared.Refused.{Refused}
use Rattle.cover.specs.WordMemory.{word_in, NoRoom, Written}
use Rattle.cover.specs.Pairs.{rejects, FirstAt, First}
use Rattle.cover.specs.Verdicts.{told, is_covered, tells, wholly, Concludes}
use Rattle.cover.specs.Tables.{sets_viewed, profiles_viewed}
use Rattle.cover.specs.declared.words.Placed.{Placed}
use Rattle.cover.specs.declared.pairs.Pair.{Pair}
use Rattle.cover.specs.declared.tables.Sets.{Sets}
use Rattle.cover.specs.declared.tables.Profiles.{Profiles}
use Rattle.cover.specs.declared.answer.Answer.{Answer}
use Rattle.cover.specs.declared.answer.Answer.TheVariants.{Covered, Uncovered}
use Rattle.closing.proofs.Slices.{entries_length, entries_at}
use Rattle.cover.proofs.Rebuilding.{word_same}

-- the values of what is read, each at its place
module _ {Value : Type 0} (value : ℕ → Value) (from event : List ℕ) (n : ℕ) where
  abbrev read : List (Entry Value)
  read = entries_in value from event n

  value_there : (i : ℕ) → i < n → get_elem? (values read) i ≡ some (value i)
  value_there i l = value_at read i _ (entries_at value from event n i l)

  values_long : length (values read) ≡ n
  unfolding values
  values_long = length-map read (λ e. e.value) ∙ entries_length value from event n

  value_below : (i : ℕ) {x : Value} → get_elem? (values read) i ≡ some x → i < n
  value_below i at = omega (arith, place_below (values read) i at, values_long)

  value_is : (i : ℕ) {x : Value} → get_elem? (values read) i ≡ some x → x ≡ value i
  value_is i at = inside (sym at ∙ value_there i (value_below i at))

module _ (s : Sets) (t : Profiles) where
  abbrev S : SetSlices
  S = sets_viewed s

  abbrev T : ProfileSlices
  T = profiles_viewed t

  abbrev sets : List (Entry ℕ)
  sets = sets_in S (length S.masks)

  abbrev profiles : List (Entry Profile)
  profiles = profiles_in T (length T.arrows)

  sets_long : length sets ≡ length S.masks
  unfolding sets_in
  sets_long = entries_length _ _ _ _

  profiles_long : length profiles ≡ length T.arrows
  unfolding profiles_in
  profiles_long = entries_length _ _ _ _

  -- a set and a profile of the entries reject as the slices do at their places
  rejects_as : (i j : ℕ) {P : ℕ} {x : Profile} → get_elem? (values sets) i ≡ some P → get_elem? (values profiles) j ≡ some x
      → is_rejecting_pair 8 P x ≡ rejects S.masks T.arrows T.marks i j
  unfolding sets_in profiles_in rejects
  rejects_as i j at there = ap₂ (is_rejecting_pair 8) (value_is _ _ _ _ i at) (value_is _ _ _ _ j there)

  -- no pair rejects
  none_rejects : First S.masks T.arrows T.marks None → verdict 8 sets profiles ≡ covered
  unfolding sets_in profiles_in
  none_rejects none =
      (covered_none 8 sets profiles).1
      (λ i P at j x there. rejects_as i j at there ∙ none i j (value_below _ _ _ _ i at) (value_below _ _ _ _ j there))

  -- or this pair is the first that does
  first_rejects : (i j : ℕ) → FirstAt S.masks T.arrows T.marks i j → FirstPair 8 (values sets) (values profiles) i j
  unfolding sets_in profiles_in
  first_rejects i j f =
      let set_at = value_there _ S.from S.event _ i f.set_there in
      let profile_is_at = value_there _ T.from T.event _ j f.profile_there in
      record {
        P = get_or S.masks i 0;
        t = record { arrows = get_or T.arrows j 0; marks = get_or T.marks j 0 };
        set_at = set_at;
        profile_is_at = profile_is_at;
        rejecting = rejects_as i j set_at profile_is_at ∙ f.rejecting;
        first_profile = λ m x l at. rejects_as i m set_at at ∙ f.none_before.earlier_profile m l;
        first_set = λ l Q h at m x there. rejects_as l m at there ∙ f.none_before.earlier_set l m h (value_below _ _ _ _ m there);
      }

  -- its words are those of the entries
  abbrev u : Pair → Word
  u p = word_in S.from S.event p.set

  abbrev v : Pair → Word
  v p = word_in T.from T.event p.profile

  names : (p : Pair) → FirstAt S.masks T.arrows T.marks p.set p.profile → verdict 8 sets profiles ≡ uncovered (u p) (v p)
  unfolding sets_in profiles_in
  names p f =
      first_verdict 8 sets profiles p.set p.profile (first_rejects p.set p.profile f)
      ∙ ap₂ uncovered (rw (← s.places) (word_same _ _ _ p.set)) (rw (← t.places) (word_same _ _ _ p.profile))

  module _ {memory : List ℕ} where
    -- the answer and the word memory, by what document 01's answer comes to
    answers : {memory' : List ℕ} {answer : Result Answer Refused} {d : VerdictAnswer} → verdict_from 8 (wholly S T) (length memory) ≡ d
        → told answer ≡ tells d → memory' ≡ word_memory d memory → Concludes S T memory memory' answer
    answers e answered written =
        record { answered = answered ∙ ap tells (sym e); word_memory_is = written ∙ ap (λ d. word_memory d memory) (sym e) }

    -- "covered", and nothing was written
    pub covers : First S.masks T.arrows T.marks None → Concludes S T memory memory (Ok (Covered (length S.masks) (length T.arrows)))
    unfolding wholly told tells is_covered word_memory words u_and_v over
    covers f =
        answers (verdict_covered 8 (wholly S T) (length memory) refl (none_rejects f))
        (rw (sets_long, profiles_long)) refl

    module _ {p : Pair} (f : FirstAt S.masks T.arrows T.marks p.set p.profile) where
      -- 6, and nothing was written
      pub too_long : {memory' : List ℕ} → NoRoom (u p) (v p) memory memory'
          → Concludes S T memory memory' (Err (record { refusal = FewLetters; sets = length S.masks; profiles = length T.arrows }))
      unfolding wholly told tells is_covered word_memory words u_and_v over
      too_long n =
          answers (verdict_6 8 (wholly S T) (length memory) refl (u p) (v p) (names p f) n.lacks)
          (rw (sets_long, profiles_long)) n.memory

      -- "uncovered": u and then v, and behind them what stood there before
      pub uncovers : {memory' : List ℕ} {placed : Placed} → Written (u p) (v p) memory memory' placed
          → Concludes S T memory memory' (Ok (Uncovered (length S.masks) (length T.arrows) placed.u placed.v))
      unfolding wholly told tells is_covered word_memory words u_and_v
      uncovers w =
          answers (verdict_uncovered 8 (wholly S T) (length memory) refl (u p) (v p) (names p f) w.fits)
          (rw (sets_long, profiles_long, w.u_letters, w.v_letters)) w.memory
