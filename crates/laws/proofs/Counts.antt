-- The flags and the arrows are as many as document 01 counts, for any sets and profiles; and with complete tables every arrow is on an
-- event, from a state to a state.
use Prim.Native.Nat.{ℕ, suc, ◌+◌, ◌*◌, ◌<◌}
use native.Mathlib.Nat.{mul-add, add-mul, suc-mul, mul_comm, mul_assoc, zero-mul, mul-zero}
use native.Mathlib.Omega.{arith}
use mathlib.Core.Path.{◌≡◌, refl, ap, ap₂, ◌∙◌}
use mathlib.Core.Bool.{Bool, true, false, cond}
use mathlib.Core.List.Memᴰ.{head}
use mathlib.Core.List.Memᴰ.{tail}
use mathlib.Core.List.{List, [], ◌∷◌, Memᴰ as Member}
use lib.ListN.{length, replicate, length-append, length-replicate, length-map}
use Rattle.laws.specs.Bits.{counted, keep, total, count, gather, each_below}
use Rattle.laws.specs.Model.{Machine}
use Rattle.laws.specs.Profiles.{Profile, same_profile, join, event_profile}
use Rattle.laws.specs.Opposite.{Arrow, rejects_non_empty, gate, in_block, onto, has_block, block_profiles, pair_count, flags}
use Rattle.laws.specs.Opposite.{state_count, from_set, from_gate, from_state, from_block, second_count, arrows, arrow_count}
use Rattle.laws.proofs.Booleans.{never}
use Rattle.laws.proofs.Complete.{Closed}
use Rattle.laws.proofs.Members.{member_some, length_counted}
use Rattle.laws.proofs.Numbered.{drawn, stands_below}

module _ {A : Type 0} where
  -- numbers that are equal for every member add up to the same
  total_same : (f g : A → ℕ) (xs : List A) → ((x : A) → Member x xs → f x ≡ g x) → total f xs ≡ total g xs
  unfolding total
  total_same f g [] h = refl
  total_same f g (x ∷ xs) h = ap₂ ◌+◌ (h x (head refl)) (total_same f g xs (λ y m. h y (tail m)))

  -- a number added up is that number as often as there are elements
  total_each : (c : ℕ) (xs : List A) → total (λ _. c) xs ≡ length xs * c
  unfolding total
  total_each c [] = omega (arith, zero-mul c)
  total_each c (x ∷ xs) = omega (arith, total_each c xs, suc-mul (length xs) c)

  -- and so it is beside other numbers
  total_more : (c : ℕ) (f : A → ℕ) (xs : List A) → total (λ x. c + f x) xs ≡ length xs * c + total f xs
  unfolding total
  total_more c f [] = omega (arith, zero-mul c)
  total_more c f (x ∷ xs) = omega (arith, total_more c f xs, suc-mul (length xs) c)

  -- a multiple of each is that multiple of all
  total_times : (k : ℕ) (f : A → ℕ) (xs : List A) → total (λ x. k * f x) xs ≡ k * total f xs
  unfolding total
  total_times k f [] = omega (arith, mul-zero k)
  total_times k f (x ∷ xs) = omega (arith, total_times k f xs, mul-add k (f x) (total f xs))

  -- of what is kept by f, g holds as often as of all, if f holds wherever g does
  count_kept : (f g : A → Bool) (xs : List A) → ((x : A) → g x ≡ true → f x ≡ true) → count g (keep f xs) ≡ count g xs
  unfolding count total keep
  count_kept f g [] h = refl
  count_kept f g (x ∷ xs) h = go (f x) (g x) refl (h x) (count_kept f g xs h)
    where
      go : (b c : Bool) → g x ≡ c → (g x ≡ true → b ≡ true) → count g (keep f xs) ≡ count g xs
          → count g (cond b (x ∷ keep f xs) (keep f xs)) ≡ cond (g x) 1 0 + count g xs
      go true c e h r = ap (λ n. cond (g x) 1 0 + n) r
      go false true e h r = never (h e)
      go false false e h r = rw e (omega arith)

  -- the length of a list of one element, if b
  length_one : (b : Bool) (x : A) → length (cond b (x ∷ []) []) ≡ cond b 1 0
  length_one true x = refl
  length_one false x = refl

  -- the length of what is gathered
  length_gather : {B : Type 0} (f : ℕ → A → List B) (c : A → ℕ) (i : ℕ) (xs : List A) → ((i : ℕ) (x : A) → length (f i x) ≡ c x)
      → length (gather f i xs) ≡ total c xs
  unfolding gather total
  length_gather f c i [] h = refl
  length_gather f c i (x ∷ xs) h = length-append (f i x) _ ∙ ap₂ ◌+◌ (h i x) (length_gather f c (suc i) xs h)

-- and of what is listed for each number below k
length_each : {A : Type 0} (k : ℕ) (f : ℕ → List A) (c : ℕ → ℕ) → ((a : ℕ) → length (f a) ≡ c a)
    → length (each_below k f) ≡ total c (counted 0 k)
unfolding each_below
length_each k f c h = length_gather (λ _ a. f a) c 0 (counted 0 k) (λ _ a. h a)

-- THE COUNT OF STATES IS DOCUMENT 01'S
pub states_counted : (Ps : List ℕ) (ts bs : List Profile) → length (flags Ps ts bs) ≡ state_count Ps ts bs
unfolding flags state_count
states_counted Ps ts bs =
    let m : ℕ = length ts in
    let block : List ℕ = 1 ∷ replicate m 0 in
    let size : length block ≡ m + 1 = omega (arith, length-replicate {A = ℕ} m 0) in
    let blocks = length_gather (λ _ t. block) (λ _. m + 1) 0 bs (λ _ t. size) in
    simp (length-append, length-map) (omega (arith, blocks, total_each (m + 1) bs))

module _ (W : ℕ) (M : Machine ℕ) (k : ℕ) (Ps : List ℕ) (ts : List Profile) where
  -- onto a profile there is one arrow, and a second if it is the block's
  length_onto : (b : ℕ) (t : Profile) (p a : ℕ) (y : Profile) → length (onto Ps ts b t p a y) ≡ 1 + cond (same_profile y t) 1 0
  unfolding onto
  length_onto b t p a y = simp (length-append, length_one) (omega arith)

  -- from one state of the block of t, over all events, y being the profile reached
  length_state : (b : ℕ) (t : Profile) (p : ℕ) (y : ℕ → Profile)
      → length (each_below k (λ a. onto Ps ts b t p a (y a))) ≡ k + count (λ a. same_profile (y a) t) (counted 0 k)
  unfolding count
  length_state b t p y =
      let second : ℕ → ℕ = λ a. cond (same_profile (y a) t) 1 0 in
      let all = length_each k (λ a. onto Ps ts b t p a (y a)) (λ a. 1 + second a) (λ a. length_onto b t p a (y a)) in
      omega (arith, all, total_more 1 second (counted 0 k), length_counted 0 k)

  -- the arrows of the block of t
  length_block : (b : ℕ) (t : Profile) → length (from_block W M Ps ts k b t) ≡ (length ts + 1) * k + second_count W M k ts t
  unfolding from_block from_gate from_state second_count
  length_block b t =
      let reached : Profile → ℕ → Profile = λ x a. join W x (event_profile W M a) in
      let second : Profile → ℕ = λ x. count (λ a. same_profile (reached x a) t) (counted 0 k) in
      let gate_arrows = length_state b t (gate Ps ts b) (event_profile W M) in
      let states =
      length_gather (λ i x. each_below k (from_state W M Ps ts b t i x)) (λ x. k + second x) 0 ts
      (λ i x. length_state b t (in_block Ps ts b i) (reached x)) in
      simp length-append (omega (arith, gate_arrows, states, total_more k second ts, add-mul (length ts) 1 k))

  -- the arrows of a set on an event
  length_from_set : (bs : List Profile) (i P a : ℕ) → length (from_set W M Ps ts bs i P a) ≡ 1 + count (rejects_non_empty W P) bs
  unfolding from_set count
  length_from_set bs i P a =
      let rejects : Profile → Bool = rejects_non_empty W P in
      ap suc (length_gather _ (λ t. cond (rejects t) 1 0) 0 bs (λ b t. length_one (rejects t) _)) ∙ omega arith

  -- and over all events
  length_set_events : (bs : List Profile) (i P : ℕ)
      → length (each_below k (from_set W M Ps ts bs i P)) ≡ k * (1 + count (rejects_non_empty W P) bs)
  length_set_events bs i P =
      let size : ℕ = 1 + count (rejects_non_empty W P) bs in
      let all = length_each k (from_set W M Ps ts bs i P) (λ _. size) (length_from_set bs i P) in
      all ∙ total_each size (counted 0 k) ∙ ap (λ n. n * size) (length_counted 0 k)

  -- a set rejects with as many profiles that have a block as there are with which it rejects
  all_have_blocks : (P : ℕ) → Member P Ps → count (rejects_non_empty W P) (block_profiles W Ps ts) ≡ count (rejects_non_empty W P) ts
  unfolding block_profiles
  all_have_blocks P m =
      count_kept (has_block W Ps) (rejects_non_empty W P) ts (λ t. member_some (λ Q. rejects_non_empty W Q t) m)

  -- the arrows of the sets
  length_from_sets : length (gather (λ i P. each_below k (from_set W M Ps ts (block_profiles W Ps ts) i P)) 0 Ps)
      ≡ length Ps * k + k * pair_count W Ps ts
  unfolding pair_count
  length_from_sets =
      let bs : List Profile = block_profiles W Ps ts in
      let entered : ℕ → ℕ = λ P. count (rejects_non_empty W P) bs in
      let all = length_gather (λ i P. each_below k (from_set W M Ps ts bs i P)) (λ P. k * (1 + entered P)) 0 Ps (length_set_events bs) in
      let pairs : total entered Ps ≡ pair_count W Ps ts = total_same entered (λ P. count (rejects_non_empty W P) ts) Ps all_have_blocks in
      let each : total (λ P. 1 + entered P) Ps ≡ length Ps + pair_count W Ps ts = omega (arith, total_more 1 entered Ps) in
      let times = total_times k (λ P. 1 + entered P) Ps in
      all ∙ times ∙ rw each (omega (arith, mul-add k (length Ps) (pair_count W Ps ts), mul_comm k (length Ps)))

  -- THE COUNT OF ARROWS IS DOCUMENT 01'S
  pub arrows_counted : length (arrows W M k Ps ts (block_profiles W Ps ts)) ≡ arrow_count W M k Ps ts (block_profiles W Ps ts)
  unfolding arrows arrow_count
  arrows_counted =
      let bs : List Profile = block_profiles W Ps ts in
      let blocks = length_gather (from_block W M Ps ts k) (λ t. (length ts + 1) * k + second_count W M k ts t) 0 bs length_block in
      let all = total_more ((length ts + 1) * k) (second_count W M k ts) bs in
      simp length-append (omega (arith, length_from_sets, blocks, all, mul_assoc (length bs) (length ts + 1) k))

-- EVERY ARROW IS ON AN EVENT, FROM A STATE TO A STATE
pub arrows_inside : (W : ℕ) (M : Machine ℕ) (k : ℕ) (Ps : List ℕ) (ts bs : List Profile) → Closed W M k Ps ts → (e : Arrow)
    → Member e (arrows W M k Ps ts bs) → (e.from < state_count Ps ts bs) × (e.event < k) × (e.to < state_count Ps ts bs)
arrows_inside W M k Ps ts bs closed e m =
    let d = drawn W M k Ps ts bs closed m in
    (stands_below Ps ts bs d.from_stands, d.an_event, stands_below Ps ts bs d.to_stands)
