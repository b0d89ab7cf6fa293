-- Ways of the opposite machine by points: how they are built along a word, and what the set and the profile of a word say of the point
-- that a way reading it reaches.
use Prim.Native.Nat.{ℕ}
use mathlib.Core.Path.{◌≡◌, refl, sym, ap, ◌∙◌}
use mathlib.Core.Bool.{true, false, not, true≢false}
use mathlib.Core.Logic.{◌⊎◌, inl, inr, ⊎_elim}
use mathlib.Core.List.{List, [], ◌∷◌, ◌++◌}
use mathlib.Core.Option.{Option, none, some}
use lib.Dec.{eqb}
use Rattle.laws.specs.Words.{Word, empty}
use Rattle.laws.specs.Model.{Machine}
use Rattle.laws.specs.Profiles.{Profile, join, image, is_rejecting_pair, after, set_from, event_profile, next_profile, profile_from, word_profile}
use Rattle.laws.specs.Opposite.{rejects_non_empty}
use Rattle.laws.proofs.Places.{In}
use Rattle.laws.proofs.Booleans.{and_right, not_nothing}
use Rattle.laws.proofs.Joins.{join_assoc, image_join, after_event}
use Rattle.laws.proofs.Meaning.{has_profile}
use Rattle.laws.proofs.Rounds.{fits_image, fits_join, rejecting_fits}
use Rattle.laws.proofs.Points.{Point, at_set, at_block, Leads, set_is_on, set_enters, block_on, block_back, Way, here, on}

-- a rejecting pair with a set that is not empty is a rejecting pair
non_empty_rejects : (W P : ℕ) (t : Profile) → rejects_non_empty W P t ≡ true → is_rejecting_pair W P t ≡ true
unfolding rejects_non_empty
non_empty_rejects W P t e = and_right (not (eqb P 0)) (is_rejecting_pair W P t) e

module _ (W : ℕ) (M : Machine ℕ) (bs : List Profile) where
  -- one way behind the other
  pub way_then : {s r q : Point} {x y : Word} → Way W M bs s x r → Way W M bs r y q → Way W M bs s (x ++ y) q
  way_then here t = t
  way_then (on l s) t = on l (way_then s t)

  -- from set to set along a word
  pub sets_on : (w : Word) (P : ℕ) → Way W M bs (at_set P) w (at_set (set_from W M P w))
  unfolding set_from
  sets_on [] P = here
  sets_on (a ∷ w) P = on set_is_on (sets_on w (after W M P a))

  -- in a block from profile to profile along a word
  states_on : (w : Word) (t : Profile) (y : Option Profile) → Way W M bs (at_block t y) w (at_block t (profile_from W M y w))
  unfolding profile_from
  states_on [] t y = here
  states_on (a ∷ w) t y = on block_on (states_on w t (some (next_profile W M y a)))

  -- from a set into a block and there along a word
  pub enters : (w : Word) {P : ℕ} {t : Profile} → In t bs → rejects_non_empty W P t ≡ true → empty w ≡ false
      → Way W M bs (at_set P) w (at_block t (word_profile W M w))
  unfolding empty word_profile profile_from next_profile
  enters [] i h n = absurd (true≢false n)
  enters (a ∷ w) {t = t} i h n = on (set_enters i h) (states_on w t (some (event_profile W M a)))

  -- in a block along a word to the gate, where the profile read is the block's
  pub to_gate : (w : Word) {t : Profile} (y : Option Profile) → empty w ≡ false → profile_from W M y w ≡ some t
      → Way W M bs (at_block t y) w (at_block t none)
  unfolding empty profile_from
  to_gate [] y n e = absurd (true≢false n)
  to_gate (a ∷ []) {t = t} y n e = on (block_back {a = a} {t = t} {y = y} (cc)) here
  to_gate (a ∷ b ∷ w) y n e = on block_on (to_gate (b ∷ w) (some (next_profile W M y a)) n e)

  -- what was read in the block of t and the profile reached there, the gate being none: nothing and the gate; t and the gate; x and x; or,
  -- the gate visited in between, t then x and x
  data Read (t : Profile) : Option Profile → Option Profile → Type 0 where
    nothing : Read t none none
    whole : {z : Profile} → z ≡ t → Read t (some z) none
    direct : {x : Profile} → Read t (some x) (some x)
    behind : {x z : Profile} → z ≡ join W t x → Read t (some z) (some x)

  -- a point of the block of t, reached by reading z in it
  data Inside (t : Profile) (z : Option Profile) : Point → Type 0 where
    inside : {y : Option Profile} → Read t z y → Inside t z (at_block t y)

  -- on event a, what was read and the profile reached go on together
  read_next : {t : Profile} {z y : Option Profile} (a : ℕ) → Read t z y → Read t (some (next_profile W M z a)) (some (next_profile W M y a))
  unfolding next_profile
  read_next a nothing = direct
  read_next a (whole e) = behind (ap (λ z. join W z (event_profile W M a)) e)
  read_next a direct = direct
  read_next {t = t} a (behind {x = x} e) = behind (ap (λ z. join W z (event_profile W M a)) e ∙ join_assoc W t x (event_profile W M a))

  -- where t is reached, t was read
  read_t : {t x z : Profile} → join W t t ≡ t → x ≡ t → Read t (some z) (some x) → z ≡ t
  read_t h i direct = i
  read_t {t = t} h i (behind e) = e ∙ ap (join W t) i ∙ h

  -- kept along an arrow
  inside_lead : {t : Profile} {z : Option Profile} {s : Point} {a : ℕ} {r : Point} → join W t t ≡ t → Inside t z s
      → Leads W M bs s a r → Inside t (some (next_profile W M z a)) r
  inside_lead {a = a} h (inside d) block_on = inside (read_next a d)
  inside_lead {a = a} h (inside d) (block_back e) = inside (whole (read_t h e (read_next a d)))

  -- and along a way
  inside_way : {t : Profile} (z : Option Profile) {s r : Point} {w : Word} → join W t t ≡ t → Inside t z s
      → Way W M bs s w r → Inside t (profile_from W M z w) r
  unfolding profile_from
  inside_way z h i here = i
  inside_way z h i (on {a = a} l s) = inside_way (some (next_profile W M z a)) h (inside_lead h i l) s

  -- at the gate, nothing or t was read
  inside_gate : {t u : Profile} {z : Option Profile} → Inside t z (at_block u none) → (z ≡ none) ⊎ (z ≡ some t)
  inside_gate (inside nothing) = inl refl
  inside_gate (inside (whole e)) = inr (ap some e)

  -- a way from the gate of t back to it reads a word with profile t
  pub gate_round : {t : Profile} {w : Word} → join W t t ≡ t → empty w ≡ false
      → Way W M bs (at_block t none) w (at_block t none) → word_profile W M w ≡ some t
  unfolding word_profile
  gate_round {w = w} h n s =
      let p = has_profile W M w n in
      ⊎_elim (λ e. absurd (not_nothing (sym e ∙ p.1))) (λ e. e) (inside_gate (inside_way none h (inside nothing) s))

  -- what the set Q of a word says of a point that a way reading it reaches: it is Q; or it is in the block of a t with which some P
  -- rejects, and what was read in the block leads P to Q
  data Tells (Q : ℕ) : Point → Type 0 where
    the_set : Tells Q (at_set Q)
    the_block : (P : ℕ) {t z : Profile} {s : Point} → rejects_non_empty W P t ≡ true → Inside t (some z) s → Q ≡ image W P z → Tells Q s

  -- kept along an arrow
  tells_lead : {Q : ℕ} {s : Point} {a : ℕ} {r : Point} → Tells Q s → Leads W M bs s a r → Tells (after W M Q a) r
  unfolding next_profile
  tells_lead the_set set_is_on = the_set
  tells_lead {Q = Q} {a = a} the_set (set_enters i h) = the_block Q h (inside direct) (after_event W M a Q)
  tells_lead {Q = Q} {a = a} (the_block P {t = t} {z = z} h i e) l =
      the_block P h
      (inside_lead (fits_join W P t (rejecting_fits W P t (non_empty_rejects W P t h))) i l)
      (after_event W M a Q ∙ ap (λ Q. image W Q (event_profile W M a)) e ∙ image_join W P z (event_profile W M a))

  -- and along a way
  tells_way : (Q : ℕ) {s r : Point} {w : Word} → Tells Q s → Way W M bs s w r → Tells (set_from W M Q w) r
  unfolding set_from
  tells_way Q i here = i
  tells_way Q i (on {a = a} l s) = tells_way (after W M Q a) (tells_lead i l) s

  -- a way from a set to a set goes to the set of its word
  pub set_reached : {P Q : ℕ} {w : Word} → Way W M bs (at_set P) w (at_set Q) → set_from W M P w ≡ Q
  set_reached {P = P} s = go (tells_way P the_set s)
    where
      go : {R Q : ℕ} → Tells R (at_set Q) → R ≡ Q
      go the_set = refl
      go (the_block _ _ i _) = elim i [ ]

  -- a way from a set to the gate of t reads a word whose set rejects with t
  pub gate_reached : {P : ℕ} {t : Profile} {w : Word} → Way W M bs (at_set P) w (at_block t none) → is_rejecting_pair W (set_from W M P w) t ≡ true
  gate_reached {P = P} s = go (tells_way P the_set s)
    where
      go : {Q : ℕ} {t : Profile} → Tells Q (at_block t none) → is_rejecting_pair W Q t ≡ true
      go {t = t} (the_block P h (inside (whole f)) e) =
          let r = non_empty_rejects W P t h in
          rw (e, f, fits_image W P t (rejecting_fits W P t r)) r
