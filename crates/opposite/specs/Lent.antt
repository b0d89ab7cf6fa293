-- What the code lends for the opposite, and the tables that it has, as document 01's.
use Rattle.std.specs.Prelude.{ℕ, ◌≡◌, List, drop, Option}
use Rattle.laws.specs.Profiles as paper
use Rattle.laws.specs.Answers.{OppositeSlices}
use Rattle.model.specs.Lent.{machine_of}
use Rattle.opposite.specs.Memory.{opposite_memory}
use Rattle.opposite.specs.Tables.{profiles_at, keep_by}
use Rattle.opposite.specs.Drawing.{Counted, Fitting, Drawn, Draws}
use Rattle.opposite.specs.declared.counts.Counts.{Counts}
use Rattle.opposite.specs.declared.memory.OppositeMemory.{OppositeMemory}
use Rattle.opposite.specs.declared.tables.Profiles.{Profiles}
use Rattle.opposite.specs.declared.tables.Tables.{Tables}

-- what stands in the slices
abbrev pub opposite_lent : OppositeMemory → OppositeSlices
opposite_lent l = opposite_memory l.from.now l.event.now l.to.now l.flags.now

-- these are the slices that were lent, and no others
pub record SameOpposite (new old : OppositeMemory) : Type 0 where
  pub from : new.from.ghost_name ≡ old.from.ghost_name
  pub event : new.event.ghost_name ≡ old.event.ghost_name
  pub to : new.to.ghost_name ≡ old.to.ghost_name
  pub flags : new.flags.ghost_name ≡ old.flags.ghost_name

-- the profiles of a table, one by one
abbrev pub profiles_of : Profiles → List paper.Profile
profiles_of p = profiles_at p.arrows.now p.marks.now

-- those of its profiles that have a block
abbrev pub shown_of : Tables → List ℕ → List paper.Profile
shown_of t shown = keep_by shown (profiles_of t.profiles)

-- and of those from number i on
abbrev pub shown_from : Tables → List ℕ → ℕ → List paper.Profile
shown_from t shown i = keep_by (drop i shown) (drop i (profiles_of t.profiles))

-- WHAT IS COUNTED AND DRAWN of the opposite of these tables
module _ (t : Tables) where
  -- it is counted, and fits room for so many states and arrows or does not
  abbrev pub CountedOf : ℕ → ℕ → Option Counts → Type 0
  CountedOf = Counted 8 (machine_of t.asked) t.asked.model.k t.masks.now (profiles_of t.profiles)

  -- it fits the slices, and has so many blocks
  abbrev pub FittingOf : OppositeSlices → ℕ → Type 0
  FittingOf = Fitting 8 (machine_of t.asked) t.asked.model.k t.masks.now (profiles_of t.profiles)

  -- its flags and arrows stand in the slices
  abbrev pub DrawnOf : OppositeSlices → OppositeSlices → Type 0
  DrawnOf = Drawn 8 (machine_of t.asked) t.asked.model.k t.masks.now (profiles_of t.profiles)

  -- they do where it fits, and else nothing is drawn
  abbrev pub DrawsOf : OppositeSlices → OppositeSlices → Option Counts → Type 0
  DrawsOf = Draws 8 (machine_of t.asked) t.asked.model.k t.masks.now (profiles_of t.profiles)
