-- What the code writes by running state numbers is what document 01's definitions list.
use Prim.Native.Nat.{ℕ, zero, suc, ◌+◌, ◌*◌}
use native.Mathlib.Omega.{arith}
use native.Mathlib.Nat.{suc-mul, zero-mul}
use mathlib.Core.Path.{◌≡◌, refl, sym, ap, ap₂, ◌∙◌}
use mathlib.Core.Bool.{Bool, true, false, not, cond}
use mathlib.Core.List.{List, [], ◌∷◌, ◌++◌, map}
use lib.ListN.{length, replicate, length-append, length-map, length-replicate}
use lib.Dec.{eqb}
use Rattle.laws.specs.Bits.{some_of, every_of, keep, gather, place_of, each_below}
use Rattle.laws.specs.Model.{Machine}
use Rattle.laws.specs.Profiles.{Profile, same_profile, join, image, is_fitting, marks_a_round, is_rejecting_pair, after, event_profile}
use Rattle.laws.specs.Profiles.{next_profile}
use Rattle.laws.specs.Opposite.{Arrow, arrow, rejects_non_empty, has_block, gate, in_block, onto, block_profiles, flags}
use Rattle.laws.specs.Opposite.{from_set, from_gate, from_state, from_block, arrows}
use Rattle.laws.proofs.Booleans.{both, and_left, and_right}
use Rattle.laws.proofs.Checks.{each_same}
use Rattle.laws.proofs.Members.{some_member}
use Rattle.opposite.specs.Tables.{keep_by, is_idempotent}
use Rattle.opposite.specs.Drawing.{onto_at, arrows_into_blocks, leads_onward, states_from, block_at, blocks_from, set_on, sets_from, flags_of_block, flags_of}

module _ (Ps : List ℕ) (ts : List Profile) where
  -- the first gate stands behind the sets
  first_gate : gate Ps ts 0 ≡ length Ps
  unfolding gate
  first_gate = omega (arith, zero-mul (length ts + 1))

  -- the next gate is as many states behind as a block has
  next_gate : (b : ℕ) → gate Ps ts b + (length ts + 1) ≡ gate Ps ts (suc b)
  unfolding gate
  next_gate b = omega (arith, suc-mul b (length ts + 1))

  -- the first state of a block stands behind its gate
  first_state : (b : ℕ) → gate Ps ts b + 1 ≡ in_block Ps ts b 0
  unfolding in_block
  first_state b = omega arith

  -- and the next behind each state
  next_state : (b i : ℕ) → suc (in_block Ps ts b i) ≡ in_block Ps ts b (suc i)
  unfolding in_block
  next_state b i = omega arith

module _ (W : ℕ) (M : Machine ℕ) (k : ℕ) (Ps : List ℕ) (ts : List Profile) where
  -- the states of a block from number i on
  states_are_paper : (b : ℕ) (t : Profile) (i : ℕ) (xs : List Profile)
      → states_from W M k ts (gate Ps ts b) t (in_block Ps ts b i) xs ≡ gather (λ i x. each_below k (from_state W M Ps ts b t i x)) i xs
  unfolding states_from leads_onward onto_at next_profile from_state onto in_block gather
  states_are_paper b t i [] = refl
  states_are_paper b t i (x ∷ xs) =
      let here : List Arrow = each_below k (from_state W M Ps ts b t i x) in
      ap (λ (es : List Arrow). here ++ es)
      (ap (λ p. states_from W M k ts (gate Ps ts b) t p xs) (next_state Ps ts b i) ∙ states_are_paper b t (suc i) xs)

  -- a block
  block_is_paper : (b : ℕ) (t : Profile) → block_at W M k ts (gate Ps ts b) t ≡ from_block W M Ps ts k b t
  unfolding block_at leads_onward onto_at next_profile from_block from_gate onto in_block
  block_is_paper b t =
      let from_a_gate : List Arrow = each_below k (from_gate W M Ps ts b t) in
      ap (λ (es : List Arrow). from_a_gate ++ es)
      (ap (λ p. states_from W M k ts (gate Ps ts b) t p ts) (first_state Ps ts b) ∙ states_are_paper b t 0 ts)

  -- THE BLOCKS from number b on
  blocks_are_paper : (b : ℕ) (bs : List Profile) → blocks_from W M k ts (gate Ps ts b) bs ≡ gather (from_block W M Ps ts k) b bs
  unfolding blocks_from gather
  blocks_are_paper b [] = refl
  blocks_are_paper b (t ∷ bs) =
      ap₂ ◌++◌ (block_is_paper b t) (ap (λ g. blocks_from W M k ts g bs) (next_gate Ps ts b) ∙ blocks_are_paper (suc b) bs)

-- from a set on an event, whose profile is number e, into the blocks from number b on
into_are_paper : (W : ℕ) (Ps : List ℕ) (ts : List Profile) (P i a e b : ℕ) (bs : List Profile)
    → arrows_into_blocks W ts P i a e (gate Ps ts b) bs
    ≡ gather (λ b t. cond (rejects_non_empty W P t) (arrow i a (in_block Ps ts b e) ∷ []) []) b bs
unfolding arrows_into_blocks in_block gather
into_are_paper W Ps ts P i a e b [] = refl
into_are_paper W Ps ts P i a e b (t ∷ bs) =
    let here : List Arrow = cond (rejects_non_empty W P t) (arrow i a (in_block Ps ts b e) ∷ []) [] in
    ap (λ (es : List Arrow). here ++ es)
    (ap (λ g. arrows_into_blocks W ts P i a e g bs) (next_gate Ps ts b) ∙ into_are_paper W Ps ts P i a e (suc b) bs)

module _ (W : ℕ) (M : Machine ℕ) (k : ℕ) (Ps : List ℕ) (ts bs : List Profile) where
  -- a set on an event
  set_is_paper : (i P a : ℕ) → set_on W M k Ps ts bs i P a ≡ from_set W M Ps ts bs i P a
  unfolding set_on from_set
  set_is_paper i P a =
      let e : ℕ = place_of (same_profile (event_profile W M a)) ts in
      let on : Arrow = arrow i a (place_of (eqb (after W M P a)) Ps) in
      ap (λ (es : List Arrow). on ∷ es)
      (ap (λ g. arrows_into_blocks W ts P i a e g bs) (sym (first_gate Ps ts)) ∙ into_are_paper W Ps ts P i a e 0 bs)

  -- THE SETS from number i on
  sets_are_paper : (i : ℕ) (Qs : List ℕ)
      → sets_from W M k Ps ts bs i Qs ≡ gather (λ i P. each_below k (from_set W M Ps ts bs i P)) i Qs
  unfolding sets_from gather
  sets_are_paper i [] = refl
  sets_are_paper i (P ∷ Qs) =
      ap₂ ◌++◌ (each_same k (set_on W M k Ps ts bs i P) (from_set W M Ps ts bs i P) (λ a l. set_is_paper i P a)) (sets_are_paper (suc i) Qs)

  -- THE ARROWS of the sets and then of the blocks are document 01's
  pub arrows_are_paper : sets_from W M k Ps ts bs 0 Ps ++ blocks_from W M k ts (length Ps) bs ≡ arrows W M k Ps ts bs
  unfolding arrows
  arrows_are_paper =
      ap₂ ◌++◌ (sets_are_paper 0 Ps)
      (ap (λ g. blocks_from W M k ts g bs) (sym (first_gate Ps ts)) ∙ blocks_are_paper W M k Ps ts 0 bs)

-- THE FLAGS are document 01's
pub flags_are_paper : (Ps : List ℕ) (ts bs : List Profile) → flags_of Ps (length ts) (length bs) ≡ flags Ps ts bs
unfolding flags_of flags flags_of_block gather
flags_are_paper Ps ts bs = ap (λ (r : List ℕ). map (λ P. cond (eqb P 0) 1 0) Ps ++ r) (go 0 bs)
  where
    go : (i : ℕ) (bs : List Profile) → flags_of_block (length ts) (length bs) ≡ gather (λ _ t. 1 ∷ replicate (length ts) 0) i bs
    go i [] = refl
    go i (t ∷ bs) = ap (λ (r : List ℕ). (1 ∷ replicate (length ts) 0) ++ r) (go (suc i) bs)

-- the flags of h blocks with m profiles are h times m + 1
pub block_flags_long : (m h : ℕ) → length (flags_of_block m h) ≡ h * (m + 1)
unfolding flags_of_block
block_flags_long m zero = sym (zero-mul (m + 1))
block_flags_long m (suc h) =
    simp (length-append, length-replicate) (omega (arith, block_flags_long m h, suc-mul h (m + 1)))

-- one flag for each set, and m + 1 for each block
pub flags_long : (Ps : List ℕ) (m h : ℕ) → length (flags_of Ps m h) ≡ length Ps + h * (m + 1)
unfolding flags_of
flags_long Ps m h = simp (length-append, length-map) (omega (arith, block_flags_long m h))

-- the profiles beside which a 1 says that they have a block are those that have one
pub shown_are_blocks : (W : ℕ) (Ps : List ℕ) (ts : List Profile)
    → keep_by (map (λ t. cond (has_block W Ps t) 1 0) ts) ts ≡ block_profiles W Ps ts
unfolding block_profiles keep_by keep
shown_are_blocks W Ps ts = go ts
  where
    go : (ts : List Profile)
        → keep_by (map (λ t. cond (has_block W Ps t) 1 0) ts) ts ≡ keep (λ t. some_of (λ P. rejects_non_empty W P t) Ps) ts
    go [] = refl
    go (t ∷ ts) = one (has_block W Ps t) (go ts)
      where
        one : (b : Bool) {xs ys : List Profile} → xs ≡ ys → cond (eqb (cond b 1 0) 1) (t ∷ xs) xs ≡ cond b (t ∷ ys) ys
        one true e = ap (λ (r : List Profile). t ∷ r) e
        one false e = e

-- a profile that has a block is, joined with itself, itself
has_idempotent : (W : ℕ) (Ps : List ℕ) (t : Profile) → some_of (λ P. rejects_non_empty W P t) Ps ≡ true → is_idempotent W t ≡ true
unfolding rejects_non_empty is_rejecting_pair is_fitting is_idempotent
has_idempotent W Ps t h =
    let (P, _, e) = some_member (λ P. rejects_non_empty W P t) Ps h in
    let fits = and_left (is_fitting W P t) (not (marks_a_round W P t)) (and_right (not (eqb P 0)) (is_rejecting_pair W P t) e) in
    and_right (eqb (image W P t) P) (same_profile (join W t t) t) fits

-- every profile that has a block is
pub blocks_idempotent : (W : ℕ) (Ps : List ℕ) (ts : List Profile) → every_of (is_idempotent W) (block_profiles W Ps ts) ≡ true
unfolding block_profiles every_of keep
blocks_idempotent W Ps ts = go ts
  where
    test : Profile → Bool
    test t = some_of (λ P. rejects_non_empty W P t) Ps

    go : (ts : List Profile) → every_of (is_idempotent W) (keep test ts) ≡ true
    go [] = refl
    go (t ∷ ts) = one (test t) refl (go ts)
      where
        one : (b : Bool) → test t ≡ b → every_of (is_idempotent W) (keep test ts) ≡ true
            → every_of (is_idempotent W) (cond b (t ∷ keep test ts) (keep test ts)) ≡ true
        one true e r = both (has_idempotent W Ps t e) r
        one false e r = r
