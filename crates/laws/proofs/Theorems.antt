-- THE THEOREMS, to be held beside demands 2 and 3. W is the number of states of the kind of model and k the number of events; nothing
-- before the file, which is the first kind's, knows how many they are. No axiom is used, and each condition stands in its statement. Under
-- a statement stands what proves it.
use Prim.Native.Nat.{ℕ, suc, ◌*◌, ◌^◌, ◌<◌, ◌≤◌}
use native.Mathlib.Omega.{arith}
use mathlib.Core.Path.{◌≡◌, refl, sym, ap, ap₂, ◌∙◌}
use mathlib.Core.Bool.{Bool, true, false}
use mathlib.Core.Logic.{◌↔◌, ⊎_elim}
use mathlib.Core.List.{List, [], ◌++◌}
use mathlib.Core.Option.{some}
use lib.ListN.{length, get_or, get_elem?, take}
use Rattle.laws.specs.Bits.{number_of_bits, times}
use Rattle.laws.specs.Words.{Word, power, empty}
use Rattle.laws.specs.Model.{Machine, Path, homed, Accepted, Course, Kind, eight, Model, machine, Within}
use Rattle.laws.specs.Tables.{WordValue, Entry, no_entry, no_event, Holds, Table, UpTo, Steps, Codes, Closes, word_of}
use Rattle.laws.specs.Profiles.{Profile, values, marked, join, image, start_set, word_set, SetMeans, event_profile, word_profile}
use Rattle.laws.specs.Profiles.{ProfileMeans, set_value, profile_value, HoldsSets, HoldsProfiles}
use Rattle.laws.specs.Profiles.{is_rejecting_pair, FirstPair, Verdict, covered, uncovered, RightVerdict, verdict}
use Rattle.laws.specs.Repeats.{Repeats, accepted_from}
use Rattle.laws.specs.Opposite.{Arrow, sorted, block_profiles, flags, state_count, arrows, arrow_count, opposite, Opposed}
use Rattle.laws.specs.Refusals.{first_of, model_checks, Unrefused}
use Rattle.laws.specs.File.{file_of, reading}
use Rattle.laws.specs.Answers.{CourseAnswer}
use Rattle.laws.specs.Program.{printed}
use Rattle.laws.proofs.Places.{place_below}
use Rattle.laws.proofs.Members.{member}
use Rattle.laws.proofs.Joins.{join_assoc}
use Rattle.laws.proofs.Unrefused.{unrefused, as_asked, start_mask, home_mask, event_arrows}
use Rattle.laws.proofs.Meaning.{machine_within, set_means, profile_means, marked_round, round_marked, has_profile, profile_has}
use Rattle.laws.proofs.Meaning.{profile_of_two, set_of_two, one_set, one_profile}
use Rattle.laws.proofs.Idempotent.{idempotent}
use Rattle.laws.proofs.Rounds.{idempotent_round}
use Rattle.laws.proofs.Rebuilt.{rebuilt_word, word_short, word_shorter}
use Rattle.laws.proofs.Unique.{same_entries}
use Rattle.laws.proofs.Tables.{few, closes}
use Rattle.laws.proofs.Values.{entry_at}
use Rattle.laws.proofs.Complete.{set_codes, sets_closing, profiles_closing, closed}
use Rattle.laws.proofs.Verdicts.{covered_none, verdict_first, first_verdict, pair_once, verdict_right}
use Rattle.laws.proofs.Repeats.{accepted_from_is}
use Rattle.laws.proofs.Opposites.{opposed}
use Rattle.laws.proofs.Sorted.{arrows_sorted, sorted_once}
use Rattle.laws.proofs.Counts.{arrows_counted, states_counted, arrows_inside}
use Rattle.laws.proofs.Answered.{one_judged}
use Rattle.laws.proofs.Read.{with_arrows}
use Rattle.laws.proofs.FileForm.{form_read, one_model}
use Rattle.laws.proofs.FileBytes.{first_bytes, few_bytes}
use Rattle.laws.proofs.FileBack.{read_back, valid_exactly}
use Rattle.laws.proofs.Reports.{printed_beginning, printed_short}

-- The theorems speak of machines, where needed with states below W. Every model with at most W states is one
pub every_model : (W : ℕ) (m : Model) → m.n ≤ W → Within W (machine W m)
every_model = machine_within

-- A model is not refused with 1, 2 or 3 exactly if it is as asked, in terms of its bits
pub models_are_asked : (K : Kind) (m : Model) → ((first_of (model_checks K m)).number ≡ 0) ↔ Unrefused K m
models_are_asked K m = (unrefused K m, as_asked K m)

-- and its machine then has what was lent: the start mask, the home mask, and the arrow number of each event
module _ (K : Kind) (m : Model) (asked : Unrefused K m) where
  pub start_is_lent : start_set K.states (machine K.states m) ≡ m.start
  start_is_lent = start_mask K m asked

  pub home_is_lent : number_of_bits K.states (machine K.states m).home ≡ m.home
  home_is_lent = home_mask K m asked

  pub arrows_are_lent : (a : ℕ) → a < m.k → (event_profile K.states (machine K.states m) a).arrows ≡ get_or m.arrows a 0
  arrows_are_lent = event_arrows K m asked

-- 1. SETS AND PROFILES MEAN PATHS
module _ (W : ℕ) (M : Machine ℕ) (within : Within W M) where
  -- the set of a word holds exactly the states that a path reading it reaches from a start state
  pub sets_mean : (w : Word) → SetMeans W M w (word_set W M w)
  sets_mean = set_means W M within

  -- the profile of a word leads, and marks, exactly where a path reading it does
  pub profiles_mean : (w : Word) (t : Profile) → word_profile W M w ≡ some t → ProfileMeans W M w t
  profiles_mean = profile_means W M within

  -- it marks r to r exactly if some path from r to r has a home state among its states; of what a mark means, the verdict and the
  -- opposite use this alone
  pub rounds_mean : (w : Word) (t : Profile) (r : ℕ) → word_profile W M w ≡ some t → r < W
      → (marked W t r r ≡ true) ↔ ((s : Path M r w r) × (homed M s ≡ true))
  rounds_mean w t r h l = (
    (λ m. let s = marked_round W M within w t r h l m in (s.path, s.home)),
    (λ s. round_marked W M within w t r h l (record { path = s.0; home = s.1 })),
  )

module _ (W : ℕ) (M : Machine ℕ) where
  -- exactly the words of one event or more have a profile
  pub which_words : (w : Word) → (empty w ≡ false) ↔ ((t : Profile) × (word_profile W M w ≡ some t))
  which_words w = (has_profile W M w, (λ t. profile_has W M w t.0 t.1))

  -- joins are associative
  pub joins_associate : (r s t : Profile) → join W (join W r s) t ≡ join W r (join W s t)
  joins_associate = join_assoc W

  -- the profile of x then y is the join of theirs, and the set of u then w is the image of that of u
  pub profiles_join : (x y : Word) (s t : Profile) → word_profile W M x ≡ some s → word_profile W M y ≡ some t
      → word_profile W M (x ++ y) ≡ some (join W s t)
  profiles_join = profile_of_two W M

  pub sets_follow : (u w : Word) (t : Profile) → word_profile W M w ≡ some t → word_set W M (u ++ w) ≡ image W (word_set W M u) t
  sets_follow = set_of_two W M

-- 2. IDEMPOTENT POWER: some power of every profile, and of every round, the exponent at least 1, joined with itself is itself
module _ (W : ℕ) (M : Machine ℕ) where
  pub some_power : (t : Profile) → (n : ℕ) × (join W (times (join W) n t) (times (join W) n t) ≡ times (join W) n t)
  some_power = idempotent W

  pub some_repeat : (v : Word) → empty v ≡ false
      → (m : ℕ) × (e : Profile) × (1 ≤ m) × (word_profile W M (power m v) ≡ some e) × (join W e e ≡ e)
  some_repeat = idempotent_round W M

-- 3. CLOSING, for any value that can be closed and has codes; so for the sets, of which there are at most 2^W, and for the profiles
pub values_close : {Value : Type 0} {Val : WordValue Value} {k bound : ℕ} → Steps Val → Codes Val k bound → Closes Val k bound
values_close = closes

module _ (W : ℕ) (M : Machine ℕ) (k : ℕ) where
  pub sets_close : Closes (set_value W M) k (2 ^ W)
  sets_close = sets_closing W M k

  pub profiles_close : Closes (profile_value W M) k (2 ^ (W * W) * 2 ^ (W * W))
  profiles_close = profiles_closing W M k

  -- the word of a set has fewer than 2^W letters, that of a profile at most as many as there are profiles
  pub set_words : (es : List (Entry ℕ)) (h : HoldsSets W M k es) (i : ℕ) (e : Entry ℕ) → get_elem? es i ≡ some e
      → length (h.word i) < 2 ^ W
  unfolding set_value
  set_words es h i e at = omega (arith, word_shorter h {x = word_set W M []} refl i e at, place_below es i at, few (set_codes W M k) h)

  pub profile_words : (es : List (Entry Profile)) (h : HoldsProfiles W M k es) (i : ℕ) (e : Entry Profile) → get_elem? es i ≡ some e
      → length (h.word i) ≤ length es
  profile_words es h i e at = omega (arith, word_short h i e at, place_below es i at)

-- predecessor and event rebuild the least word of every entry, of sets and profiles alike; since 65,535 and 255 stand for "none", there may
-- be at most 65,536 entries and 255 events
pub words_rebuilt : {Value : Type 0} {Val : WordValue Value} {k : ℕ} (es : List (Entry Value)) (h : Holds Val k es)
    → length es ≤ suc no_entry → k ≤ no_event → (i : ℕ) (e : Entry Value) → get_elem? es i ≡ some e → word_of es i ≡ h.word i
words_rebuilt es h = rebuilt_word h

-- 4. THE VERDICT of two tables is "covered" exactly if no pair rejects, and otherwise the words of the first pair that does
module _ (W : ℕ) (sets : List (Entry ℕ)) (profiles : List (Entry Profile)) where
  pub covered_is_none : (verdict W sets profiles ≡ covered) ↔ ((i P : ℕ) → get_elem? (values sets) i ≡ some P
      → (j : ℕ) (t : Profile) → get_elem? (values profiles) j ≡ some t → is_rejecting_pair W P t ≡ false)
  covered_is_none = covered_none W sets profiles

  pub uncovered_is_first : (u v : Word) → verdict W sets profiles ≡ uncovered u v
      → (i : ℕ) × (j : ℕ) × FirstPair W (values sets) (values profiles) i j × (u ≡ word_of sets i) × (v ≡ word_of profiles j)
  uncovered_is_first = verdict_first W sets profiles

  pub first_is_uncovered : (i j : ℕ) → FirstPair W (values sets) (values profiles) i j
      → verdict W sets profiles ≡ uncovered (word_of sets i) (word_of profiles j)
  first_is_uncovered = first_verdict W sets profiles

-- ONE COURSE without tables: it is accepted exactly if all repeats of its round have a marked way back at the set of its beginning, or
-- where they lead that set
pub course_by_repeats : (W : ℕ) (M : Machine ℕ) → Within W M → (u v : Word) (t c : Profile) → word_profile W M v ≡ some t → Repeats W t c
    → (accepted_from W (word_set W M u) c ≡ true) ↔ Accepted M u v
course_by_repeats W M within u v t c = accepted_from_is W M within u v t c

module _ (W : ℕ) (M : Machine ℕ) (k : ℕ) (sets : List (Entry ℕ)) (profiles : List (Entry Profile)) (hs : HoldsSets W M k sets)
    (hp : HoldsProfiles W M k profiles) where
  -- of complete tables it is right: "covered" exactly if every course is accepted, and otherwise u and v are a course that is not accepted
  pub verdict_is_right : Within W M → length sets ≤ suc no_entry → length profiles ≤ suc no_entry → k ≤ no_event
      → RightVerdict M k (verdict W sets profiles)
  verdict_is_right within = verdict_right W M within k sets profiles hs hp

  -- u then has fewer than 2^W letters, and v at most as many as there are profiles
  pub verdict_is_short : length sets ≤ suc no_entry → length profiles ≤ suc no_entry → k ≤ no_event → (u v : Word)
      → verdict W sets profiles ≡ uncovered u v → (length u < 2 ^ W) × (length v ≤ length profiles)
  verdict_is_short few_sets few_profiles few_events u v h =
      let (i, j, first, of_u, of_v) = verdict_first W sets profiles u v h in
      let (P, P_at, _) = entry_at sets i first.P first.set_at in
      let (t, t_at, _) = entry_at profiles j first.t first.profile_is_at in
      let u_word = ap length (of_u ∙ rebuilt_word hs few_sets few_events i P P_at) in
      let v_word = ap length (of_v ∙ rebuilt_word hp few_profiles few_events j t t_at) in
      (omega (arith, set_words W M k sets hs i P P_at), omega (arith, profile_words W M k profiles hp j t t_at))

  -- 5. THE OPPOSITE of complete tables, read from its written arrows and flags: of every course exactly one of the two machines accepts
  pub opposite_is_opposed : Within W M → Opposed M (opposite W M k (values sets) (values profiles)) k
  opposite_is_opposed = opposed W M k sets profiles hs hp

  -- its arrows are on the k events, between states that have a flag
  pub opposite_is_inside : (i : ℕ) (e : Arrow) → let bs = block_profiles W (values sets) (values profiles) in
      get_elem? (arrows W M k (values sets) (values profiles) bs) i ≡ some e
      → (e.from < state_count (values sets) (values profiles) bs) × (e.event < k) × (e.to < state_count (values sets) (values profiles) bs)
  opposite_is_inside i e at =
      let bs = block_profiles W (values sets) (values profiles) in
      let es = arrows W M k (values sets) (values profiles) bs in
      arrows_inside W M k (values sets) (values profiles) bs (closed W M k sets profiles hs hp) e (member es (i, at))

module _ (W : ℕ) (M : Machine ℕ) (k : ℕ) (Ps : List ℕ) (ts : List Profile) where
  -- they are sorted by from, event, to, and none stands there twice
  pub opposite_is_sorted : sorted (arrows W M k Ps ts (block_profiles W Ps ts)) ≡ true
  opposite_is_sorted = arrows_sorted W M k Ps ts (block_profiles W Ps ts)

  pub opposite_has_none_twice : let es = arrows W M k Ps ts (block_profiles W Ps ts) in
      (i j : ℕ) (e : Arrow) → get_elem? es i ≡ some e → get_elem? es j ≡ some e → i ≡ j
  opposite_has_none_twice = sorted_once (arrows W M k Ps ts (block_profiles W Ps ts)) opposite_is_sorted

  -- they are as many as document 01 counts, and so are the states
  pub opposite_arrows : length (arrows W M k Ps ts (block_profiles W Ps ts)) ≡ arrow_count W M k Ps ts (block_profiles W Ps ts)
  opposite_arrows = arrows_counted W M k Ps ts

  pub opposite_states : length (flags Ps ts (block_profiles W Ps ts)) ≡ state_count Ps ts (block_profiles W Ps ts)
  opposite_states = states_counted Ps ts (block_profiles W Ps ts)

-- 6. ONE RESULT ONLY. What a table holds, what it is up to a room, and which pair is the first, has one solution
pub one_table : {Value : Type 0} {Val : WordValue Value} {k : ℕ} (es fs : List (Entry Value)) → Holds Val k es → Holds Val k fs → es ≡ fs
one_table = same_entries

pub one_part : {Value : Type 0} {room : ℕ} {complete : List (Entry Value)} (s t : Table Value) → UpTo room complete s
    → UpTo room complete t → s ≡ t
one_part s t a b = ap₂ (λ es c. record { entries = es; cut = c }) (a.first ∙ sym b.first) (a.cut ∙ sym b.cut)

pub one_pair : {W : ℕ} {Ps : List ℕ} {ts : List Profile} {i j l m : ℕ} → FirstPair W Ps ts i j → FirstPair W Ps ts l m
    → (i ≡ l) × (j ≡ m)
one_pair = pair_once

module _ (W : ℕ) (M : Machine ℕ) where
  -- no second set, and no second profile, means the paths of a word
  pub one_set_means : (w : Word) (P Q : ℕ) → SetMeans W M w P → SetMeans W M w Q → P ≡ Q
  one_set_means = one_set W M

  pub one_profile_means : (w : Word) (s t : Profile) → ProfileMeans W M w s → ProfileMeans W M w t → s ≡ t
  one_profile_means = one_profile W M

module _ {S : Type 0} (M : Machine S) (k : ℕ) where
  -- where one right verdict is "covered", so is every other
  pub one_verdict : (x y : Verdict) → RightVerdict M k x → RightVerdict M k y → x ≡ covered → y ≡ covered
  one_verdict x y a b h = b.accepts_covered (a.covered_accepts h)

  -- two opposites accept the same courses
  pub one_opposite : {T R : Type 0} (O : Machine T) (Q : Machine R) → Opposed M O k → Opposed M Q k → (u v : Word) → Course k u v
      → Accepted O u v → Accepted Q u v
  one_opposite O Q a b u v c h = ⊎_elim (λ m. absurd (a.not_both u v c m h)) (λ q. q) (b.one u v c)

-- the judgement of one course is one only
pub one_judgement : {K : Kind} {m : Model} {u v : Word} {n l : ℕ} {c d : Bool} → CourseAnswer K m u v n c → CourseAnswer K m u v l d
    → (n ≡ l) × (c ≡ d)
one_judgement = one_judged

-- 7. THE FILE, of the first kind. What is read without a fault are exactly the files of models that are not refused, with room for their
-- arrow numbers
pub files_are_valid : (bytes : List ℕ) (room : ℕ) → ((reading bytes room).fault.number ≡ 0)
    ↔ ((m : Model) × Unrefused eight m × (m.k ≤ room) × (file_of m ≡ bytes))
files_are_valid = valid_exactly

-- what is read of a model's file is the model, with the arrow numbers of its k events
pub files_read_back : (m : Model) (room : ℕ) → Unrefused eight m → m.k ≤ room
    → reading (file_of m) room
    ≡ record { fault = record { number = 0; offset = 0 }; model = with_arrows m (take m.k m.arrows) }
files_read_back = read_back

-- the model that was read determines the bytes: they are its file, and no others are
pub files_are_written : (bytes : List ℕ) (room : ℕ) → (reading bytes room).fault.number ≡ 0 → file_of (reading bytes room).model ≡ bytes
files_are_written = form_read

pub one_file : (bytes bytes' : List ℕ) (room room' : ℕ) → (reading bytes room).fault.number ≡ 0 → (reading bytes' room').fault.number ≡ 0
    → (reading bytes room).model ≡ (reading bytes' room').model → bytes ≡ bytes'
one_file = one_model

-- it has at most 211 bytes, and nothing behind the first 212 is looked at
pub files_are_short : (bytes : List ℕ) (room : ℕ) → (reading bytes room).fault.number ≡ 0 → length bytes ≤ 211
files_are_short = few_bytes

pub file_beginning : (bytes : List ℕ) (room : ℕ) → reading (take 212 bytes) room ≡ reading bytes room
file_beginning = first_bytes

-- 8. WHAT THE PROGRAM PRINTS depends on the first 212 bytes of its file alone, and has at most 8,192 bytes
pub report_beginning : (file : List ℕ) → printed (take 212 file) ≡ printed file
report_beginning = printed_beginning

pub report_is_short : (file : List ℕ) → length (printed file) ≤ 8192
report_is_short = printed_short
