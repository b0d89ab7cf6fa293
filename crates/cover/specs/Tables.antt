-- The slices of complete tables: parts of lent slices that hold nothing else.
use Rattle.std.specs.Prelude.{ℕ, take}
use Rattle.laws.specs.Answers.{SetSlices, ProfileSlices}
use Rattle.closing.specs.Memory.{set_memory, profile_memory}
use Rattle.cover.specs.declared.tables.Sets.{Sets}
use Rattle.cover.specs.declared.tables.Profiles.{Profiles}

abbrev pub sets_viewed : Sets → SetSlices
sets_viewed t = set_memory t.masks.now t.links.from.now t.links.event.now

abbrev pub profiles_viewed : Profiles → ProfileSlices
profiles_viewed t = profile_memory t.arrows.now t.marks.now t.links.from.now t.links.event.now

-- the first n places
abbrev pub first_sets : ℕ → SetSlices → SetSlices
first_sets n l = set_memory (take n l.masks) (take n l.from) (take n l.event)

abbrev pub first_profiles : ℕ → ProfileSlices → ProfileSlices
first_profiles n l = profile_memory (take n l.arrows) (take n l.marks) (take n l.from) (take n l.event)
