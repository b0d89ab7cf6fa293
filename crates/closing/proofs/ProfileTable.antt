-- The table of profiles: what an event makes of a profile, and, for those who read them, its four slices.
use Prim.Native.Nat.{ℕ}
use mathlib.Core.Path.{◌≡◌, ap, ◌∙◌}
use Rattle.std.specs.Prelude.{Option as Maybe, Some, None}
use Rattle.laws.specs.Model.{Machine}
use Rattle.laws.specs.Profiles.{join, event_profile, next_profile, profile_value}
use Rattle.profile.specs.Values as code
use Rattle.profile.specs.declared.Profile as declared
pub use Rattle.closing.specs.ProfileRows.{still_room, room_lent, profile_layout}

-- WHAT AN EVENT MAKES of the profile of what was read so far
pub next_value_is : (M : Machine ℕ) (a : ℕ) (x : Maybe declared.Profile) {event y : declared.Profile} → code.profile event ≡ event_profile 8 M a
    → code.profile y ≡ code.next_value x event → code.profile y ≡ (profile_value 8 M).next (code.before x) a
unfolding profile_value next_profile
next_value_is M a None e h = h ∙ e
next_value_is M a (Some t) e h = h ∙ ap (join 8 (code.profile t)) e
