-- Document 01, "The opposite machine": its states, accepting flags and sorted arrows, document 01's counts of both, and the machine
-- that written flags and arrows are. W, M and k are the model's; Ps and ts are the values of its two complete tables, the sets and the
-- profiles; bs are the profiles that have a block.
use Rattle.std.specs.Prelude.{ℕ, ◌+◌, ◌*◌, Bool, true, not, ◌&&◌, ◌||◌, cond, ◌⊎◌, List, [], ◌∷◌, ◌++◌, map, length, get_or, replicate, eqb, ltb}
use Rattle.laws.specs.Bits.{counted, some_of, every_of, keep, total, count, gather, place_of, each_below}
use Rattle.laws.specs.Words.{Word}
use Rattle.laws.specs.Model.{Machine, Accepted, Course}
use Rattle.laws.specs.Profiles.{Profile, same_profile, join, is_rejecting_pair, after, event_profile}

-- an arrow of a written machine
pub record Arrow : Type 0 where
  pub from : ℕ
  pub event : ℕ
  pub to : ℕ

-- the arrow on event a from p to q, and the test for it
unfoldable pub arrow : ℕ → ℕ → ℕ → Arrow
arrow p a q = record { from = p; event = a; to = q }

unfoldable pub is_arrow : ℕ → ℕ → ℕ → Arrow → Bool
is_arrow p a q e = eqb e.from p && eqb e.event a && eqb e.to q

-- by from, then event, then to
unfoldable pub earlier : Arrow → Arrow → Bool
earlier e f =
    ltb e.from f.from
    || (eqb e.from f.from && (ltb e.event f.event || (eqb e.event f.event && ltb e.to f.to)))

-- sorted, and no arrow twice: each is earlier than all that follow
unfoldable pub sorted : List Arrow → Bool
sorted [] = true
sorted (e ∷ es) = every_of (earlier e) es && sorted es

-- the machine that flags and arrows are, once written: state 0 is the start, a flag of 1 accepts
unfoldable pub written : List ℕ → List Arrow → Machine ℕ
written flags arrows =
    record {
      start = λ p. eqb p 0;
      home = λ p. eqb (get_or flags p 0) 1;
      arrow = λ p a q. some_of (is_arrow p a q) arrows;
    }

-- the pair is rejecting and its set is not empty
unfoldable pub rejects_non_empty : ℕ → ℕ → Profile → Bool
rejects_non_empty W P t = not (eqb P 0) && is_rejecting_pair W P t

module _ (Ps : List ℕ) (ts : List Profile) where
  -- the number of the gate of block b: the sets come first, and a block is a gate and one state for each profile
  unfoldable pub gate : ℕ → ℕ
  gate b = length Ps + b * (length ts + 1)

  -- the number of the state of profile number i in block b
  unfoldable pub in_block : ℕ → ℕ → ℕ
  in_block b i = gate b + 1 + i

  -- in the block b of t, from state p on event a onto the profile y: to the gate too if y is t, and to the state of y
  unfoldable pub onto : ℕ → Profile → ℕ → ℕ → Profile → List Arrow
  onto b t p a y = cond (same_profile y t) (arrow p a (gate b) ∷ []) [] ++ (arrow p a (in_block b (place_of (same_profile y) ts)) ∷ [])

-- t has a block: it rejects with some set other than the empty one
abbrev pub has_block : ℕ → List ℕ → Profile → Bool
has_block W Ps t = some_of (λ P. rejects_non_empty W P t) Ps

-- the profiles that have a block, in their order
unfoldable pub block_profiles : ℕ → List ℕ → List Profile → List Profile
block_profiles W Ps ts = keep (has_block W Ps) ts

-- how many rejecting pairs have a set that is not empty
unfoldable pub pair_count : ℕ → List ℕ → List Profile → ℕ
pair_count W Ps ts = total (λ P. count (rejects_non_empty W P) ts) Ps

module _ (Ps : List ℕ) (ts bs : List Profile) where
  -- THE FLAGS: the empty set accepts, and in each block its gate
  unfoldable pub flags : List ℕ
  flags = map (λ P. cond (eqb P 0) 1 0) Ps ++ gather (λ _ t. 1 ∷ replicate (length ts) 0) 0 bs

  -- THE COUNT OF STATES: s + h·(m+1)
  unfoldable pub state_count : ℕ
  state_count = length Ps + length bs * (length ts + 1)

module _ (W : ℕ) (M : Machine ℕ) (Ps : List ℕ) (ts : List Profile) where
  -- from set P, number i, on event a: one arrow to the next set, and, unless P is empty, one into the block of each profile that rejects
  -- with P, to its state for a's profile
  unfoldable pub from_set : List Profile → ℕ → ℕ → ℕ → List Arrow
  from_set bs i P a =
      arrow i a (place_of (eqb (after W M P a)) Ps)
      ∷ gather
      (λ b t. cond (rejects_non_empty W P t) (arrow i a (in_block Ps ts b (place_of (same_profile (event_profile W M a)) ts)) ∷ []) [])
      0 bs

  -- from the gate of block b, t's, on event a: onto a's profile
  unfoldable pub from_gate : ℕ → Profile → ℕ → List Arrow
  from_gate b t a = onto Ps ts b t (gate Ps ts b) a (event_profile W M a)

  -- from the state of profile number i, x, in block b, t's, on event a: onto x then a
  unfoldable pub from_state : ℕ → Profile → ℕ → Profile → ℕ → List Arrow
  from_state b t i x a = onto Ps ts b t (in_block Ps ts b i) a (join W x (event_profile W M a))

  -- the block b of t, on k events: its gate, and then its states
  unfoldable pub from_block : ℕ → ℕ → Profile → List Arrow
  from_block k b t = each_below k (from_gate b t) ++ gather (λ i x. each_below k (from_state b t i x)) 0 ts

-- the second arrows of the block of t, from its gate and from its states: on how many events the profile reached is t
unfoldable pub second_count : ℕ → Machine ℕ → ℕ → List Profile → Profile → ℕ
second_count W M k ts t =
    count (λ a. same_profile (event_profile W M a) t) (counted 0 k)
    + total (λ x. count (λ a. same_profile (join W x (event_profile W M a)) t) (counted 0 k)) ts

module _ (W : ℕ) (M : Machine ℕ) (k : ℕ) (Ps : List ℕ) (ts bs : List Profile) where
  -- THE ARROWS: the sets', and then the blocks'
  unfoldable pub arrows : List Arrow
  arrows = gather (λ i P. each_below k (from_set W M Ps ts bs i P)) 0 Ps ++ gather (from_block W M Ps ts k) 0 bs

  -- THE COUNT OF ARROWS: s·k, k for each rejecting pair with a non-empty set, h·(m+1)·k, and the second arrows
  unfoldable pub arrow_count : ℕ
  arrow_count = length Ps * k + k * pair_count W Ps ts + length bs * (length ts + 1) * k + total (second_count W M k ts) bs

-- THE OPPOSITE MACHINE, read from its written flags and arrows
unfoldable pub opposite : ℕ → Machine ℕ → ℕ → List ℕ → List Profile → Machine ℕ
opposite W M k Ps ts =
    let bs : List Profile = block_profiles W Ps ts in
    written (flags Ps ts bs) (arrows W M k Ps ts bs)

-- WHAT AN OPPOSITE IS, over k events: of every course exactly one of the two machines accepts
pub record Opposed {S T : Type 0} (M : Machine S) (O : Machine T) (k : ℕ) : Type 0 where
  pub one : (u v : Word) → Course k u v → Accepted M u v ⊎ Accepted O u v
  pub not_both : (u v : Word) → Course k u v → Accepted M u v → Accepted O u v → ⊥
