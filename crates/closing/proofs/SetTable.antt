-- The table of sets, for those who read its three slices.
pub use Rattle.closing.specs.SetRows.{still_room, room_lent, set_layout}
