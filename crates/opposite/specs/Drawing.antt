-- The opposite's flags and arrows by running state numbers, as its code writes them: the gate of a block is g, and the next block's
-- gate is as many states behind it as a block has.
use Rattle.std.specs.Prelude.{ℕ, zero, suc, ◌+◌, ◌≤◌, ◌≡◌, cond, ◌&&◌, List, [], ◌∷◌, ◌++◌, map, length, replicate, eqb, leb, is_some, IfSome, MatchOption, Option as Maybe}
use Rattle.std.proofs.Math.Option.{Option, none, some}
use Rattle.laws.specs.Bits.{place_of, each_below}
use Rattle.laws.specs.Model.{Machine}
use Rattle.laws.specs.Profiles.{Profile, same_profile, after, event_profile, next_profile}
use Rattle.laws.specs.Opposite.{Arrow, arrow, rejects_non_empty, block_profiles, state_count, arrow_count, flags, arrows}
use Rattle.laws.specs.Answers.{OppositeSlices, opposite_slices, room_for_states, room_for_arrows}
use Rattle.opposite.specs.declared.counts.Counts.{Counts}

module _ (ts : List Profile) where
  -- from state p on event a onto the profile y, in the block of t with gate g: to the gate too if y is t, and to the state of y
  unfoldable pub onto_at : ℕ → Profile → ℕ → ℕ → Profile → List Arrow
  onto_at g t p a y = cond (same_profile y t) (arrow p a g ∷ []) [] ++ (arrow p a (g + 1 + place_of (same_profile y) ts) ∷ [])

module _ (W : ℕ) (ts : List Profile) where
  -- from set P, number i, on event a, whose profile is number e: into the block of each profile that rejects with P; the first gate is g
  unfoldable pub arrows_into_blocks : ℕ → ℕ → ℕ → ℕ → ℕ → List Profile → List Arrow
  arrows_into_blocks P i a e g [] = []
  arrows_into_blocks P i a e g (t ∷ bs) =
      cond (rejects_non_empty W P t) (arrow i a (g + 1 + e) ∷ []) [] ++ arrows_into_blocks P i a e (g + (length ts + 1)) bs

module _ (W : ℕ) (M : Machine ℕ) (k : ℕ) (ts : List Profile) where
  -- in the block of t with gate g, from state p, where what was read there has the profile x: on each event onto the next
  unfoldable pub leads_onward : ℕ → Profile → ℕ → Option Profile → List Arrow
  leads_onward g t p x = each_below k (λ a. onto_at ts g t p a (next_profile W M x a))

  -- the states of a block, the first of them number p, for the profiles xs
  unfoldable pub states_from : ℕ → Profile → ℕ → List Profile → List Arrow
  states_from g t p [] = []
  states_from g t p (x ∷ xs) = leads_onward g t p (some x) ++ states_from g t (suc p) xs

  -- a block: its gate, where nothing was read, and its states
  unfoldable pub block_at : ℕ → Profile → List Arrow
  block_at g t = leads_onward g t g none ++ states_from g t (g + 1) ts

  -- the blocks, the first with gate g
  unfoldable pub blocks_from : ℕ → List Profile → List Arrow
  blocks_from g [] = []
  blocks_from g (t ∷ bs) = block_at g t ++ blocks_from (g + (length ts + 1)) bs

module _ (W : ℕ) (M : Machine ℕ) (k : ℕ) (Ps : List ℕ) (ts bs : List Profile) where
  -- set P, number i, on event a: the next set, and into the blocks
  unfoldable pub set_on : ℕ → ℕ → ℕ → List Arrow
  set_on i P a =
      arrow i a (place_of (eqb (after W M P a)) Ps)
      ∷ arrows_into_blocks W ts P i a (place_of (same_profile (event_profile W M a)) ts) (length Ps) bs

  -- the sets Qs, the first of them number i
  unfoldable pub sets_from : ℕ → List ℕ → List Arrow
  sets_from i [] = []
  sets_from i (P ∷ Qs) = each_below k (set_on i P) ++ sets_from (suc i) Qs

-- the flags of h blocks with m profiles
unfoldable pub flags_of_block : ℕ → ℕ → List ℕ
flags_of_block m zero = []
flags_of_block m (suc h) = (1 ∷ replicate m 0) ++ flags_of_block m h

-- the flags of the sets, and then of the blocks
unfoldable pub flags_of : List ℕ → ℕ → ℕ → List ℕ
flags_of Ps m h = map (λ P. cond (eqb P 0) 1 0) Ps ++ flags_of_block m h

-- WHAT IS COUNTED of an opposite: whether it fits, and if so, its blocks, states and arrows
module _ (W : ℕ) (M : Machine ℕ) (k : ℕ) (Ps : List ℕ) (ts : List Profile) where
  abbrev bs : List Profile
  bs = block_profiles W Ps ts

  abbrev states : ℕ
  states = state_count Ps ts bs

  abbrev lines : ℕ
  lines = arrow_count W M k Ps ts bs

  -- its blocks, states and arrows are these
  pub record Sizes (c : Counts) : Type 0 where
    pub blocks : c.blocks ≡ length bs
    pub states_are : c.states ≡ states
    pub arrows_are : c.arrows ≡ lines

  pub record Counted (state_room arrow_room : ℕ) (answer : Maybe Counts) : Type 0 where
    pub fits : is_some answer ≡ (leb states state_room && leb lines arrow_room)
    pub sizes : IfSome answer Sizes

  -- the opposite fits the slices, and has h blocks
  pub record Fitting (O : OppositeSlices) (h : ℕ) : Type 0 where
    pub blocks : h ≡ length bs
    pub states_fit : states ≤ room_for_states O
    pub arrows_fit : lines ≤ room_for_arrows O

  -- its flags and arrows stand in the slices, which were O and are now O'
  abbrev pub Drawn : OppositeSlices → OppositeSlices → Type 0
  Drawn O O' = O' ≡ opposite_slices (flags Ps ts bs) (arrows W M k Ps ts bs) O

  -- WHAT IS DRAWN: nothing where it does not fit, and else its flags and arrows
  pub record Draws (O O' : OppositeSlices) (answer : Maybe Counts) : Type 0 where
    pub counts : Counted (room_for_states O) (room_for_arrows O) answer
    pub slices : MatchOption answer (O' ≡ O) (λ _. Drawn O O')
