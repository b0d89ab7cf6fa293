-- Which profiles have a block is noted in the first flags, and read from there while the sets' and then the blocks' arrows are written. The
-- opposite fits, so there is room for each, and at last its flags are written over what was noted.
use Prim.Native.Nat.{ℕ, ◌≤◌}
use borrow.Author.Rules.{rules}
use mathlib.Core.Path.{◌≡◌, refl, sym}
use mathlib.Core.Bool.{cond}
use mathlib.Core.List.{List, map, ◌++◌}
use lib.ListN.{length, take, drop}
use lib.Seq.{length-take-le}
use lib.Dec.{eqb}
use Rattle.laws.specs.Answers.{OppositeSlices}
use Rattle.laws.specs.Opposite.{has_block}
use Rattle.model.specs.Lent.{machine_of}
use Rattle.opposite.specs.Lent.{profiles_of, FittingOf}
use Rattle.opposite.specs.Memory.{opposite_memory}
use Rattle.opposite.specs.declared.arrows.Lines.{Lines}
use Rattle.opposite.specs.declared.tables.Tables.{Tables}
use Rattle.opposite.proofs.Whole.{Noted, note, noted_room, read_room, shown_few, flags_room, last_state, all_idempotent}
use Rattle.opposite.proofs.Whole.{sets_room, blocks_room, drawn}
use Rattle.opposite.proofs.draw.write_all.Goals as goal

-- beside n of the tables' profiles it is noted whether they have a block, in the first flags of an opposite that fits
module _ (t : Tables) {from event to fs : List ℕ} {h long n : ℕ}
    (fits : FittingOf t (opposite_memory from event to fs) h) (all : long ≡ length t.profiles.arrows.now) (is : n ≡ cond (eqb h 0) 0 long) where
  abbrev of : ℕ → List ℕ
  of n = map (λ x. cond (has_block 8 t.masks.now x) 1 0) (take n (profiles_of t.profiles))

  abbrev Says : List ℕ → Type 0
  Says new =
      Noted 8 (machine_of t.asked) t.asked.model.k t.masks.now t.profiles.arrows.now t.profiles.marks.now from event to fs h n new

  says : {shown : List ℕ} → shown ≡ of n → Says (shown ++ drop n fs)
  says = note 8 (machine_of t.asked) t.asked.model.k t.masks.now t.profiles.arrows.now t.profiles.marks.now t.profiles.alike fits (rw (← all) is)

  -- there is room
  room : n ≤ length fs
  room = noted_room (says refl)

  module _ {shown : List ℕ} (w : shown ≡ of (length (take n fs))) where
    said : Says (shown ++ drop n fs)
    said =
        let whole : length (take n fs) ≡ n = length-take-le n fs room in
        says (rw (← whole) w)

-- what stands in the writer's slices stands in those that were lent to it
lent : {from event to flags : List ℕ} {O : OppositeSlices} (l : Lines) → from ≡ l.from.now → event ≡ l.event.now → to ≡ l.to.now
    → opposite_memory l.from.now l.event.now l.to.now flags ≡ O → opposite_memory from event to flags ≡ O
lent l from event to d = rw (from, event, to) d

pub slice_bounds-show-end : goal.slice_bounds-show-end
slice_bounds-show-end c = room c.args.tables.now c.requires.fitting c.len.ensures c.shown_profiles-profiles.ensures

pub slice_bounds-show-end-2 : goal.slice_bounds-show-end-2
slice_bounds-show-end-2 c =
    sym (length-take-le _ _ (room c.args.tables.now c.requires.fitting c.len.ensures c.shown_profiles-profiles.ensures))

pub slice_bounds-shown-end : goal.slice_bounds-shown-end
slice_bounds-shown-end c =
    read_room (said c.args.tables.now c.requires.fitting c.len.ensures c.shown_profiles-profiles.ensures c.show.ensures)

pub slice_bounds-shown-end-2 : goal.slice_bounds-shown-end-2
slice_bounds-shown-end-2 c =
    let s = said c.args.tables.now c.requires.fitting c.len.ensures c.shown_profiles-profiles.ensures c.show.ensures in
    sym (length-take-le _ _ (read_room s))

pub invariant_of-shown : goal.invariant_of-shown
invariant_of-shown c =
    let s = said c.args.tables.now c.requires.fitting c.len.ensures c.shown_profiles-profiles.ensures c.show.ensures in
    record { few = shown_few s; fits = last_state s; squares = all_idempotent s }

pub sets-requires : goal.sets-requires
sets-requires c =
    let s = said c.args.tables.now c.requires.fitting c.len.ensures c.shown_profiles-profiles.ensures c.show.ensures in
    record {
      room = record { room = sets_room s };
    }

pub blocks-requires : goal.blocks-requires
blocks-requires c =
    let s = said c.args.tables.now c.requires.fitting c.len.ensures c.shown_profiles-profiles.ensures c.show.ensures in
    record {
      room = record { room = blocks_room s c.sets.ensures.puts };
    }

pub write-requires : goal.write-requires
write-requires c =
    let s = said c.args.tables.now c.requires.fitting c.len.ensures c.shown_profiles-profiles.ensures c.show.ensures in
    rw c.len-2.ensures (flags_room s)

pub returns-clause-drawn : goal.returns-clause-drawn
returns-clause-drawn c =
    let s = said c.args.tables.now c.requires.fitting c.len.ensures c.shown_profiles-profiles.ensures c.show.ensures in
    lent c.blocks-2.new.self (search rules) (search rules) (search rules)
    (drawn s c.sets.ensures.puts c.blocks-2.ensures.puts (rw c.len-2.ensures at c.write.ensures))
