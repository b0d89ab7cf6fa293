-- The verdict of two complete tables is right: it names the first rejecting pair, it is "covered" exactly if every course is accepted,
-- and otherwise its u and v are a course that is not accepted.
use Prim.Native.Nat.{ℕ, suc, ◌+◌, ◌<◌, ◌≤◌}
use native.Mathlib.Omega.{arith}
use native.Mathlib.Nat.{zero-add}
use mathlib.Core.Path.{◌≡◌, refl, sym, ap, ap₂, ◌∙◌}
use mathlib.Core.Bool.{Bool, true, false}
use mathlib.Core.Logic.{◌↔◌}
use mathlib.Core.List.{List, [], ◌∷◌, ◌++◌}
use mathlib.Core.Option.{Option, none, some}
use lib.ListN.{length, get_elem?}
use Rattle.laws.specs.Words.{Word, power}
use Rattle.laws.specs.Model.{Machine, Accepted, Course, Within}
use Rattle.laws.specs.Tables.{Entry, no_entry, no_event, word_of}
use Rattle.laws.specs.Profiles.{Profile, values, Verdict, covered, uncovered, RightVerdict, is_rejecting_pair, rejecting_with}
use Rattle.laws.specs.Profiles.{first_rejecting, verdict, FirstPair, word_set, word_profile, set_value, profile_value, HoldsSets}
use Rattle.laws.specs.Profiles.{HoldsProfiles}
use Rattle.laws.proofs.Booleans.{inside, not_nothing, never}
use Rattle.laws.proofs.Places.{at_all}
use Rattle.laws.proofs.Order.{letters_join, letters_power}
use Rattle.laws.proofs.Meaning.{profile_has}
use Rattle.laws.proofs.Rounds.{settled, accepts, rejects}
use Rattle.laws.proofs.Rebuilt.{rebuilt_word}
use Rattle.laws.proofs.Values.{entry_at}
use Rattle.laws.proofs.Complete.{sets_found, profiles_found}

module _ (W : ℕ) where
  -- no profile of ts rejects with P
  abbrev NoneWith : ℕ → List Profile → Type 0
  NoneWith P ts = (j : ℕ) (t : Profile) → get_elem? ts j ≡ some t → is_rejecting_pair W P t ≡ false

  -- what the search for one set ends with, the first profile having number n: none rejects, or number j does and none before it
  data With (P : ℕ) (ts : List Profile) (n : ℕ) (found : Option ℕ) : Type 0 where
    nowhere : found ≡ none → NoneWith P ts → With P ts n found
    here : (j : ℕ) (t : Profile) → found ≡ some (n + j) → get_elem? ts j ≡ some t → is_rejecting_pair W P t ≡ true
        → ((l : ℕ) (s : Profile) → l < j → get_elem? ts l ≡ some s → is_rejecting_pair W P s ≡ false) → With P ts n found

  -- the search for one set ends so
  search : (P : ℕ) (ts : List Profile) (n : ℕ) → With P ts n (rejecting_with W P ts n)
  unfolding rejecting_with
  search P [] n = nowhere refl (λ j t h. absurd (not_nothing h))
  search P (t ∷ ts) n = go (is_rejecting_pair W P t) refl (search P ts (suc n))
    where
      go : (b : Bool) → is_rejecting_pair W P t ≡ b → With P ts (suc n) (rejecting_with W P ts (suc n))
          → With P (t ∷ ts) n (elim b [ true ↦ some n | false ↦ rejecting_with W P ts (suc n) ])
      go true e rest = here 0 t (ap some (omega arith)) refl e (λ l s h. absurd (omega arith))
      go false e (nowhere f none_of) = nowhere f (at_all (λ _ s. is_rejecting_pair W P s ≡ false) ts e none_of)
      go false e (here j s f at r before) =
          here (suc j) s (f ∙ ap some (omega arith)) at r
          (λ l q h p. at_all (λ l s. l < suc j → is_rejecting_pair W P s ≡ false) ts (λ _. e) (λ l s at h. before l s (omega arith) at) l q p h)

  -- what the search for a pair ends with, the first set having number n
  data Pairs (Ps : List ℕ) (ts : List Profile) (n : ℕ) (found : Option (ℕ × ℕ)) : Type 0 where
    no_pair : found ≡ none → ((i P : ℕ) → get_elem? Ps i ≡ some P → NoneWith P ts) → Pairs Ps ts n found
    a_pair : (i j : ℕ) → found ≡ some (n + i, j) → FirstPair W Ps ts i j → Pairs Ps ts n found

  -- the search for a pair ends so
  pairs : (Ps : List ℕ) (ts : List Profile) (n : ℕ) → Pairs Ps ts n (first_rejecting W Ps ts n)
  unfolding first_rejecting
  pairs [] ts n = no_pair refl (λ i P h. absurd (not_nothing h))
  pairs (P ∷ Ps) ts n = go (rejecting_with W P ts 0) (search P ts 0) (pairs Ps ts (suc n))
    where
      go : (o : Option ℕ) → With P ts 0 o → Pairs Ps ts (suc n) (first_rejecting W Ps ts (suc n))
          → Pairs (P ∷ Ps) ts n (elim o [ some j ↦ some (n, j) | none ↦ first_rejecting W Ps ts (suc n) ])
      go none (here j t f at r b) rest = absurd (not_nothing f)
      go (some j) (nowhere f free) rest = absurd (not_nothing (sym f))
      go (some j) (here l t f at r b) rest =
          a_pair 0 l (ap₂ (λ m n. some (m, n)) (omega arith) (omega (arith, inside f)))
          (record {
            P = P;
            t = t;
            set_at = refl;
            profile_is_at = at;
            rejecting = r;
            first_profile = b;
            first_set = λ l Q h. absurd (omega arith);
          })
      go none (nowhere f free) (no_pair g rest) = no_pair g (at_all (λ _ R. NoneWith R ts) Ps free rest)
      go none (nowhere f free) (a_pair i j g p) =
          a_pair (suc i) j (g ∙ ap (λ m. some (m, j)) (omega arith))
          (record {
            P = p.P;
            t = p.t;
            set_at = p.set_at;
            profile_is_at = p.profile_is_at;
            rejecting = p.rejecting;
            first_profile = p.first_profile;
            first_set = λ l Q h at.
                at_all (λ l R. l < suc i → NoneWith R ts) Ps (λ _. free) (λ l R at h. p.first_set l R (omega arith) at) l Q at h;
          })

-- the two verdicts are apart, and the second has one u and one v
apart : {u v : Word} → covered ≡ uncovered u v → ⊥
apart {u = u} {v = v} e = let z : ◌≡◌ {A = ℕ} 0 1 = cc in omega arith

same_u : {u v w x : Word} → uncovered u v ≡ uncovered w x → u ≡ w
same_u e = cc

same_v : {u v w x : Word} → uncovered u v ≡ uncovered w x → v ≡ x
same_v e = cc

module _ (W : ℕ) (sets : List (Entry ℕ)) (profiles : List (Entry Profile)) where
  -- the verdict is "covered" and no pair rejects, or it is the words of the first pair that does
  data Ends : Verdict → Type 0 where
    none_rejects : ((i P : ℕ) → get_elem? (values sets) i ≡ some P → NoneWith W P (values profiles)) → Ends covered
    one_rejects : (i j : ℕ) → FirstPair W (values sets) (values profiles) i j → Ends (uncovered (word_of sets i) (word_of profiles j))

  ends : Ends (verdict W sets profiles)
  unfolding verdict
  ends = go (first_rejecting W (values sets) (values profiles) 0) (pairs W (values sets) (values profiles) 0)
    where
      go : (o : Option (ℕ × ℕ)) → Pairs W (values sets) (values profiles) 0 o
          → Ends (elim o [ none ↦ covered | some pair ↦ uncovered (word_of sets pair.0) (word_of profiles pair.1) ])
      go none (no_pair f free) = none_rejects free
      go none (a_pair i j f first) = absurd (not_nothing f)
      go (some pair) (no_pair f free) = absurd (not_nothing (sym f))
      go (some pair) (a_pair i j f first) =
          rw (ap (λ (p : ℕ × ℕ). p.0) (inside f) ∙ zero-add i, ap (λ (p : ℕ × ℕ). p.1) (inside f)) (one_rejects i j first)

  -- "COVERED" exactly if no pair rejects
  pub covered_none : (verdict W sets profiles ≡ covered) ↔ ((i P : ℕ) → get_elem? (values sets) i ≡ some P → NoneWith W P (values profiles))
  covered_none = (there ends, back ends)
    where
      there : {x : Verdict} → Ends x → x ≡ covered → (i P : ℕ) → get_elem? (values sets) i ≡ some P → NoneWith W P (values profiles)
      there (none_rejects free) h = free
      there (one_rejects i j first) h = absurd (apart (sym h))

      back : {x : Verdict} → Ends x → ((i P : ℕ) → get_elem? (values sets) i ≡ some P → NoneWith W P (values profiles)) → x ≡ covered
      back (none_rejects free) h = refl
      back (one_rejects i j first) h =
          never (sym (h i first.P first.set_at j first.t first.profile_is_at) ∙ first.rejecting)

  -- U AND V are the words of the first rejecting pair
  pub verdict_first : (u v : Word) → verdict W sets profiles ≡ uncovered u v
      → (i : ℕ) × (j : ℕ) × FirstPair W (values sets) (values profiles) i j × (u ≡ word_of sets i) × (v ≡ word_of profiles j)
  verdict_first u v h = go ends h
    where
      go : {x : Verdict} → Ends x → x ≡ uncovered u v
          → (i : ℕ) × (j : ℕ) × FirstPair W (values sets) (values profiles) i j × (u ≡ word_of sets i) × (v ≡ word_of profiles j)
      go (none_rejects free) h = absurd (apart h)
      go (one_rejects i j first) h = (i, j, first, sym (same_u h), sym (same_v h))

-- there is one first rejecting pair
pub pair_once : {W : ℕ} {Ps : List ℕ} {ts : List Profile} {i j l m : ℕ} → FirstPair W Ps ts i j → FirstPair W Ps ts l m → (i ≡ l) × (j ≡ m)
pair_once {W = W} {Ps = Ps} {ts = ts} {i = i} {j = j} {l = l} {m = m} p q = (same_set, same_as_profile)
  where
    not_later : {i j l m : ℕ} → FirstPair W Ps ts i j → FirstPair W Ps ts l m → i < l → ⊥
    not_later {i = i} {j = j} p q h = never (sym (q.first_set i p.P h p.set_at j p.t p.profile_is_at) ∙ p.rejecting)

    same_set : i ≡ l
    same_set = omega (arith, not_later p q, not_later q p)

    not_behind : {i j l m : ℕ} → i ≡ l → FirstPair W Ps ts i j → FirstPair W Ps ts l m → j < m → ⊥
    not_behind {i = i} {j = j} e p q h =
        let same_P : p.P ≡ q.P = inside (sym p.set_at ∙ ap (get_elem? Ps) e ∙ q.set_at) in
        never (sym (q.first_profile j p.t h p.profile_is_at) ∙ ap (λ P. is_rejecting_pair W P p.t) (sym same_P) ∙ p.rejecting)

    same_as_profile : j ≡ m
    same_as_profile = omega (arith, not_behind same_set p q, not_behind (sym same_set) q p)

-- and the verdict names it
pub first_verdict : (W : ℕ) (sets : List (Entry ℕ)) (profiles : List (Entry Profile)) (i j : ℕ)
    → FirstPair W (values sets) (values profiles) i j → verdict W sets profiles ≡ uncovered (word_of sets i) (word_of profiles j)
first_verdict W sets profiles i j p = go (ends W sets profiles)
  where
    go : {x : Verdict} → Ends W sets profiles x → x ≡ uncovered (word_of sets i) (word_of profiles j)
    go (none_rejects free) = never (sym (free i p.P p.set_at j p.t p.profile_is_at) ∙ p.rejecting)
    go (one_rejects l m first) =
        let (same_i, same_j) = pair_once first p in
        ap₂ (λ l m. uncovered (word_of sets l) (word_of profiles m)) same_i same_j

module _ (W : ℕ) (M : Machine ℕ) (within : Within W M) (k : ℕ) (sets : List (Entry ℕ)) (profiles : List (Entry Profile))
    (hs : HoldsSets W M k sets) (hp : HoldsProfiles W M k profiles) where
  -- every course is accepted if no pair of the tables rejects
  all_accepted : ((i P : ℕ) → get_elem? (values sets) i ≡ some P → NoneWith W P (values profiles)) → (u v : Word) → Course k u v
      → Accepted M u v
  all_accepted free u v c =
      let s = settled W M u v c.v_some in
      let w : Word = power s.m v in
      let v_letters = letters_power k s.m v c.v_letters in
      let (i, set_at) = sets_found W M k sets profiles hs hp (u ++ w) (letters_join k u w c.u_letters v_letters) in
      let (j, profile_is_at) = profiles_found W M k sets profiles hs hp w s.e v_letters s.round_profile in
      accepts W M within u v s (free i (word_set W M (u ++ w)) set_at j s.e profile_is_at)

  -- what each verdict says
  data Says : Verdict → Type 0 where
    says_covered : ((u v : Word) → Course k u v → Accepted M u v) → Says covered
    says_uncovered : (u v : Word) → Course k u v → (Accepted M u v → ⊥) → Says (uncovered u v)

  module _ (few_sets : length sets ≤ suc no_entry) (few_profiles : length profiles ≤ suc no_entry) (few_events : k ≤ no_event) where
    -- the words of a rejecting pair are a course that is not accepted
    pair_says : (i j : ℕ) → FirstPair W (values sets) (values profiles) i j → Says (uncovered (word_of sets i) (word_of profiles j))
    unfolding set_value profile_value
    pair_says i j first =
        let (P, P_at, P_value) = entry_at sets i first.P first.set_at in
        let (t, t_at, t_value) = entry_at profiles j first.t first.profile_is_at in
        let u : Word = hs.word i in
        let v : Word = hp.word j in
        let set_of_u : word_set W M u ≡ first.P = inside (hs.word_value i P P_at) ∙ P_value in
        let profile_of_v : word_profile W M v ≡ some first.t = hp.word_value j t t_at ∙ ap some t_value in
        let v_some = profile_has W M v first.t profile_of_v in
        rw (rebuilt_word hs few_sets few_events i P P_at, rebuilt_word hp few_profiles few_events j t t_at)
        (says_uncovered u v
        (record { u_letters = hs.word_letters i P P_at; v_letters = hp.word_letters j t t_at; v_some = v_some })
        (rejects W M within u v first.t (rw set_of_u first.rejecting) profile_of_v))

    -- so the verdict says what is so
    says : {x : Verdict} → Ends W sets profiles x → Says x
    says (none_rejects free) = says_covered (all_accepted free)
    says (one_rejects i j first) = pair_says i j first

    -- THE VERDICT IS RIGHT
    pub verdict_right : RightVerdict M k (verdict W sets profiles)
    verdict_right = right (says (ends W sets profiles))
      where
        right : {answer : Verdict} → Says answer → RightVerdict M k answer
        right (says_covered all) =
            record {
              covered_accepts = λ _. all;
              accepts_covered = λ _. refl;
              uncovered_course = λ u v e. absurd (apart e);
              uncovered_rejects = λ u v e. absurd (apart e);
            }
        right (says_uncovered u v c r) =
            record {
              covered_accepts = λ e. absurd (apart (sym e));
              accepts_covered = λ all. absurd (r (all u v c));
              uncovered_course = λ w x e. rw (← same_u e, ← same_v e) c;
              uncovered_rejects = λ w x e. rw (← same_u e, ← same_v e) r;
            }
