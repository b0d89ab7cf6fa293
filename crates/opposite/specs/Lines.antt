-- What each call of the writer writes, for the code's tables and blocks, and what a walk over the blocks gives.
use Rattle.std.specs.Prelude.{ℕ, cond, ◌+◌, ◌<◌, ◌≡◌, List, [], ◌∷◌, get_or, length, Option, MatchOption}
use Rattle.laws.specs.Bits.{each_below}
use Rattle.laws.specs.Profiles as paper
use Rattle.laws.specs.Opposite.{Arrow, arrow}
use Rattle.model.specs.Lent.{machine_of}
use Rattle.model.specs.declared.Checked.{Checked}
use Rattle.profile.specs.declared.Profile.{Profile}
use Rattle.profile.specs.Values.{profile, before}
use Rattle.opposite.specs.Lent.{profiles_of, shown_of, shown_from}
use Rattle.opposite.specs.Drawing.{onto_at, arrows_into_blocks, leads_onward, block_at, blocks_from, set_on, sets_from}
use Rattle.opposite.specs.declared.arrows.Block.{Block}
use Rattle.opposite.specs.declared.arrows.Blocks.{Blocks}
use Rattle.opposite.specs.declared.arrows.Shown.{Shown}
use Rattle.opposite.specs.declared.tables.Each.{Each}
use Rattle.opposite.specs.declared.tables.Tables.{Tables}

-- a walk over profiles: those that are left
abbrev pub each_left : Each → List paper.Profile
each_left s = profiles_of s.left

-- THE WALK over the blocks: of the profiles from number i on that have a block profile number j is the first
pub record IsNext (s : Shown) (i j : ℕ) : Type 0 where
  pub within : j < length s.bytes.now
  pub first :
      shown_from s.tables.now s.bytes.now i
      ≡ record { arrows = get_or s.tables.now.profiles.arrows.now j 0; marks = get_or s.tables.now.profiles.marks.now j 0 }
      ∷ shown_from s.tables.now s.bytes.now (j + 1)

-- the profiles with a block that are left
abbrev pub left_of : Blocks → List paper.Profile
left_of s = shown_from s.shown.tables.now s.shown.bytes.now s.passed

-- at first no profile was passed, and the first block stands behind the sets
pub record First (shown : Shown) (s : Blocks) : Type 0 where
  pub shown_is : s.shown ≡ shown
  pub passed : s.passed ≡ 0
  pub gate : s.gate ≡ length shown.tables.now.masks.now

-- a block is the next, and the gate of the one behind it is as many states further as a block has
pub record NextBlock (s : Blocks) (b : Block) (t : Blocks) : Type 0 where
  pub profiles : b.profiles ≡ s.shown.tables.now.profiles
  pub gate : b.gate ≡ s.gate
  pub first : left_of s ≡ profile b.profile ∷ left_of t
  pub shown : t.shown ≡ s.shown
  pub behind : t.gate ≡ s.gate + (length s.shown.tables.now.profiles.arrows.now + 1)

-- a call gives the next block, or none is left
abbrev pub GivesBlock : Blocks → Option Block → Blocks → Type 0
GivesBlock s r t = MatchOption r (left_of s ≡ []) (λ b. NextBlock s b t)

-- IN A BLOCK from state p, onto the profile y on event a: to the gate, if y is its profile
abbrev pub gate_lines : Block → ℕ → ℕ → Profile → List Arrow
gate_lines b p a y = cond (paper.same_profile (profile y) (profile b.profile)) (arrow p a b.gate ∷ []) []

-- and to the state of y
abbrev pub onto_lines : Block → ℕ → ℕ → Profile → List Arrow
onto_lines b p a y = onto_at (profiles_of b.profiles) b.gate (profile b.profile) p a (profile y)

module _ (m : Checked) (b : Block) where
  -- and on each event, where x was read
  abbrev pub leads_lines : ℕ → Option Profile → List Arrow
  leads_lines p x = leads_onward 8 (machine_of m) m.model.k (profiles_of b.profiles) b.gate (profile b.profile) p (before x)

  -- a block
  abbrev pub block_lines : List Arrow
  block_lines = block_at 8 (machine_of m) m.model.k (profiles_of b.profiles) b.gate (profile b.profile)

module _ (s : Shown) where
  abbrev t : Tables
  t = s.tables.now

  -- the blocks
  abbrev pub blocks_lines : List Arrow
  blocks_lines =
      blocks_from 8 (machine_of t.asked) t.asked.model.k (profiles_of t.profiles) (length t.masks.now) (shown_of t s.bytes.now)

  -- from a set, number i, on event a, whose profile stands at e, into the blocks
  abbrev pub into_lines : ℕ → ℕ → ℕ → ℕ → List Arrow
  into_lines set i a e = arrows_into_blocks 8 (profiles_of t.profiles) set i a e (length t.masks.now) (shown_of t s.bytes.now)

  -- from it on each event, to the next set and into the blocks
  abbrev pub set_lines : ℕ → ℕ → List Arrow
  set_lines set i =
      each_below t.asked.model.k
      (set_on 8 (machine_of t.asked) t.asked.model.k t.masks.now (profiles_of t.profiles) (shown_of t s.bytes.now) i set)

  -- from all sets
  abbrev pub sets_lines : List Arrow
  sets_lines =
      sets_from 8 (machine_of t.asked) t.asked.model.k t.masks.now (profiles_of t.profiles) (shown_of t s.bytes.now) 0 t.masks.now
