-- Lists of arrows that the writer writes one behind the other: what was written and what is left to write are together all that is to be
-- written.
use mathlib.Core.Path.{◌≡◌, refl, ◌∙◌}
use mathlib.Core.List.{List, [], ◌∷◌, ◌++◌}
use Rattle.laws.specs.Opposite.{Arrow}
use Rattle.opposite.specs.Memory.{slices_of, HasRoom, SameLines, Adds}
use Rattle.opposite.specs.declared.arrows.Lines.{Lines}
use Rattle.opposite.proofs.Writing as slices

-- where there is room for one arrow there is for any other
pub room_for_other : {x y : Arrow} {l : Lines} → HasRoom (x ∷ []) l → HasRoom (y ∷ []) l
room_for_other r = record { room = record { from_room = r.room.from_room; event_room = r.room.event_room; to_room = r.room.to_room } }

-- ALL is to be written by the writer that was base; now it is new, and rest is left to write
pub record Left (all : List Arrow) (base new : Lines) (rest : List Arrow) : Type 0 where
  pub writing : slices.Writing base.count all (slices_of base) (slices_of new) new.count rest
  pub same : SameLines new base

-- at first nothing is written
pub begin : {all : List Arrow} {base : Lines} → HasRoom all base → Left all base base all
begin r = record { writing = slices.begin r.room; same = record { from = refl; event = refl; to = refl } }

module _ {all : List Arrow} {base new : Lines} {rest : List Arrow} (w : Left all base new rest) where
  -- there is room for what comes next
  pub room_next : (xs ys : List Arrow) → rest ≡ xs ++ ys → HasRoom xs new
  room_next xs ys e = record { room = slices.room_next w.writing xs ys e }

  -- it was written, and less is left
  pub write_next : (xs ys : List Arrow) → rest ≡ xs ++ ys → {newer : Lines} → Adds xs new newer → Left all base newer ys
  write_next xs ys e p =
      record {
        writing = slices.write_next w.writing xs ys e p.puts;
        same =
            record {
              from = p.same.from ∙ w.same.from;
              event = p.same.event ∙ w.same.event;
              to = p.same.to ∙ w.same.to;
            };
      }

  -- what is left can be said in another way
  pub left_as : {other : List Arrow} → rest ≡ other → Left all base new other
  left_as e = record { writing = slices.left_as w.writing e; same = w.same }

  -- at the end all is written
  pub all_written : rest ≡ [] → Adds all base new
  all_written e = record { puts = slices.all_written w.writing e; same = w.same }
