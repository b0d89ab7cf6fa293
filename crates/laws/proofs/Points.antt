-- The opposite machine by what its states stand for: a set, or in the block of t a profile x, the gate where there is none yet.
-- `Leads` says which of these lead to which; `Stands` says which number stands for which; `number` gives the first such number.
use Prim.Native.Nat.{ℕ}
use mathlib.Core.Path.{◌≡◌}
use mathlib.Core.Bool.{true}
use mathlib.Core.List.{List, [], ◌∷◌}
use mathlib.Core.Option.{Option, none, some}
use lib.ListN.{get_elem?}
use lib.Dec.{eqb}
use Rattle.laws.specs.Bits.{place_of}
use Rattle.laws.specs.Words.{Word}
use Rattle.laws.specs.Model.{Machine}
use Rattle.laws.specs.Profiles.{Profile, same_profile, after, event_profile, next_profile}
use Rattle.laws.specs.Opposite.{rejects_non_empty, gate, in_block}
use Rattle.laws.proofs.Places.{In}

-- what a state of the opposite stands for
pub data Point : Type 0 where
  at_set : ℕ → Point
  at_block : Profile → Option Profile → Point

-- which point leads to which on event a, over the profiles bs that have a block
pub data Leads (W : ℕ) (M : Machine ℕ) (bs : List Profile) : Point → ℕ → Point → Type 0 where
  -- a set to the set after it
  set_is_on : {P a : ℕ} → Leads W M bs (at_set P) a (at_set (after W M P a))
  -- a set into the block of a profile with which it rejects
  set_enters : {P a : ℕ} {t : Profile} → In t bs → rejects_non_empty W P t ≡ true
      → Leads W M bs (at_set P) a (at_block t (some (event_profile W M a)))
  -- in a block, on to the next profile
  block_on : {a : ℕ} {t : Profile} {y : Option Profile} → Leads W M bs (at_block t y) a (at_block t (some (next_profile W M y a)))
  -- and to the gate where that is t
  block_back : {a : ℕ} {t : Profile} {y : Option Profile} → next_profile W M y a ≡ t → Leads W M bs (at_block t y) a (at_block t none)

-- a way along points that reads a word
pub data Way (W : ℕ) (M : Machine ℕ) (bs : List Profile) : Point → Word → Point → Type 0 where
  here : {s : Point} → Way W M bs s [] s
  on : {s r q : Point} {a : ℕ} {w : Word} → Leads W M bs s a r → Way W M bs r w q → Way W M bs s (a ∷ w) q

module _ (Ps : List ℕ) (ts bs : List Profile) where
  -- number p stands for the point
  pub data Stands : ℕ → Point → Type 0 where
    set_at : {i P : ℕ} → get_elem? Ps i ≡ some P → Stands i (at_set P)
    gate_at : (b : ℕ) {p : ℕ} {t : Profile} → p ≡ gate Ps ts b → get_elem? bs b ≡ some t → Stands p (at_block t none)
    state_at : (b i : ℕ) {p : ℕ} {t x : Profile} → p ≡ in_block Ps ts b i → get_elem? bs b ≡ some t → get_elem? ts i ≡ some x
        → Stands p (at_block t (some x))

  -- the point has a number
  pub data Found : Point → Type 0 where
    set_found : {P : ℕ} → In P Ps → Found (at_set P)
    gate_found : {t : Profile} → In t bs → Found (at_block t none)
    state_found : {t x : Profile} → In t bs → In x ts → Found (at_block t (some x))

  -- its first number
  unfoldable pub number : Point → ℕ
  number (at_set P) = place_of (eqb P) Ps
  number (at_block t none) = gate Ps ts (place_of (same_profile t) bs)
  number (at_block t (some x)) = in_block Ps ts (place_of (same_profile t) bs) (place_of (same_profile x) ts)
