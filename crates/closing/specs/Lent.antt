-- What the code lends for the two tables: its slices as document 01's, and that a call kept them.
use Rattle.std.specs.Prelude.{◌≡◌}
use Rattle.laws.specs.Answers.{SetSlices, ProfileSlices}
use Rattle.closing.specs.Memory.{set_memory, profile_memory}
use Rattle.closing.specs.declared.memory.SetMemory.{SetMemory}
use Rattle.closing.specs.declared.memory.ProfileMemory.{ProfileMemory}

-- what stands in them
abbrev pub sets_lent : SetMemory → SetSlices
sets_lent l = set_memory l.masks.now l.from.now l.event.now

abbrev pub profiles_lent : ProfileMemory → ProfileSlices
profiles_lent l = profile_memory l.arrows.now l.marks.now l.from.now l.event.now

-- these are the slices that were lent, and no others
pub record SameSets (new old : SetMemory) : Type 0 where
  pub masks : new.masks.ghost_name ≡ old.masks.ghost_name
  pub from : new.from.ghost_name ≡ old.from.ghost_name
  pub event : new.event.ghost_name ≡ old.event.ghost_name

pub record SameProfiles (new old : ProfileMemory) : Type 0 where
  pub arrows : new.arrows.ghost_name ≡ old.arrows.ghost_name
  pub marks : new.marks.ghost_name ≡ old.marks.ghost_name
  pub from : new.from.ghost_name ≡ old.from.ghost_name
  pub event : new.event.ghost_name ≡ old.event.ghost_name
