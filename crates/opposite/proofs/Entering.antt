-- The arrows of one event from a set into the blocks: what is left to write of a walk over the blocks.
use Prim.Native.Nat.{ℕ, ◌+◌}
use mathlib.Core.Path.{◌≡◌, sym, ◌∙◌}
use mathlib.Core.Bool.{Bool, true, false, cond}
use mathlib.Core.List.{List, [], ◌∷◌, ◌++◌}
use Rattle.laws.specs.Opposite.{Arrow, arrow}
use Rattle.profile.specs.Values.{profile}
use Rattle.opposite.specs.Tables.{remains_unmarked}
use Rattle.opposite.specs.Lent.{profiles_of}
use Rattle.opposite.specs.Lines.{into_lines, left_of, First, NextBlock}
use Rattle.opposite.specs.Memory.{HasRoom, Adds}
use Rattle.opposite.specs.declared.arrows.Lines.{Lines}
use Rattle.opposite.specs.declared.arrows.Block.{Block}
use Rattle.opposite.specs.declared.arrows.Blocks.{Blocks}
use Rattle.opposite.specs.declared.arrows.Shown.{Shown}
use Rattle.opposite.specs.Drawing.{arrows_into_blocks}
use Rattle.opposite.proofs.Adding.{rejects_idempotent}
use Rattle.opposite.proofs.Rows.{profiles_length}
use Rattle.opposite.proofs.Lines.{Left, begin, room_for_other, room_next, write_next, left_as, all_written}

-- the arrows into the blocks that are left
abbrev left : ℕ → ℕ → ℕ → ℕ → Blocks → List Arrow
left set i a e s = arrows_into_blocks 8 (profiles_of s.shown.tables.now.profiles) set i a e s.gate (left_of s)

-- WHAT A TURN KEEPS: the walk is over these blocks, and the arrows into those that are left are left to write
pub record Entering (shown : Shown) (set i a e : ℕ) (base new : Lines) (s : Blocks) : Type 0 where
  pub over : s.shown ≡ shown
  pub writing : Left (into_lines shown set i a e) base new (left set i a e s)

module _ {shown : Shown} {set i a e : ℕ} {base : Lines} where
  -- at first all is left
  pub entering_begins : {s : Blocks} → First shown s → HasRoom (into_lines shown set i a e) base → Entering shown set i a e base base s
  entering_begins f r = record { over = f.shown_is; writing = left_as (begin r) (rw (f.shown_is, f.passed, f.gate)) }

  module _ {new : Lines} {s : Blocks} (w : Entering shown set i a e base new s) where
    -- and at the end nothing
    pub entering_done : left_of s ≡ [] → Adds (into_lines shown set i a e) base new
    unfolding arrows_into_blocks
    entering_done end = all_written w.writing (rw end)

    module _ {b : Block} {t : Blocks} (n : NextBlock s b t) {unmarked : Bool} (is : unmarked ≡ remains_unmarked 8 set (profile b.profile)) where
      -- what is left is the arrow into the block, if its profile rejects with the set, and what is left behind it
      next_entry : {u : Bool} → unmarked ≡ u → left set i a e s ≡ cond u (arrow i a (b.gate + 1 + e) ∷ []) [] ++ left set i a e t
      unfolding arrows_into_blocks
      next_entry {u} h =
          let ps = s.shown.tables.now.profiles in
          let rejects : remains_unmarked 8 set (profile b.profile) ≡ u = sym is ∙ h in
          rw (n.first, rejects_idempotent 8 set (profile b.profile) b.square, rejects, n.behind, n.shown, n.gate, profiles_length ps.arrows.now ps.marks.now ps.alike)

      -- it does not reject with the set
      pub not_entered : unmarked ≡ false → Entering shown set i a e base new t
      not_entered u = record { over = n.shown ∙ w.over; writing = left_as w.writing (next_entry u) }

      -- it does: there is room for the arrow
      pub entry_room : unmarked ≡ true → {x : Arrow} → HasRoom (x ∷ []) new
      entry_room u = room_for_other (room_next w.writing _ _ (next_entry u))

      -- which is written
      pub entered : unmarked ≡ true → {newer : Lines} → Adds (arrow i a (b.gate + 1 + e) ∷ []) new newer
          → Entering shown set i a e base newer t
      entered u p = record { over = n.shown ∙ w.over; writing = write_next w.writing _ _ (next_entry u) p }
