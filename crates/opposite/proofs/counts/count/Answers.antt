-- Each profile that rejects with some set adds a block. The loop keeps that the blocks, states and arrows so far and those that the
-- profiles still left add are together all. So as soon as there are more than there is room for, the opposite does not fit.
use Prim.Native.Nat.{ℕ, ◌+◌, ◌*◌, ◌≤◌}
use native.Mathlib.Omega.{arith}
use mathlib.Core.Path.{◌≡◌, refl, sym, ◌∙◌}
use mathlib.Core.List.{◌∷◌}
use lib.ListN.{length, drop}
use Rattle.laws.specs.Bits.{count}
use Rattle.laws.specs.Opposite.{rejects_non_empty, second_count}
use Rattle.model.specs.Lent.{machine_of}
use Rattle.laws.specs.Profiles.{Profile}
use Rattle.opposite.specs.Lent.{profiles_of}
use Rattle.opposite.specs.declared.counts.Counts.{Counts}
use Rattle.opposite.specs.declared.tables.Tables.{Tables}
use Rattle.opposite.proofs.Rows.{next_pair, no_pair, profiles_length}
use Rattle.opposite.proofs.Sizes.{SizedOf, size_begins, size_passes, size_grows, size_room, too_much, all_counted}
use Rattle.opposite.proofs.counts.count.Goals as goal

-- the counts with one block more
abbrev grown : ℕ → ℕ → ℕ → Counts → Counts
grown k pairs size so =
    record { blocks = so.blocks + 1; states = so.states + size; arrows = so.arrows + (k * pairs + size * k) }

-- x is next, and rejects with so many sets
module _ (t : Tables) {counts : Counts} {j : ℕ} (i : ℕ) (so : SizedOf t counts j) {x : Profile}
    (next : drop j (profiles_of t.profiles) ≡ x ∷ drop i (profiles_of t.profiles)) {pairs : ℕ}
    (are : pairs ≡ count (λ P. rejects_non_empty 8 P x) t.masks.now) where
  -- with none: it is passed
  passed : pairs ≡ 0 → SizedOf t counts i
  passed e = size_passes 8 _ _ _ _ so _ next are e

  -- with some: it adds a block
  module _ (some : pairs ≡ 0 → ⊥) {m : ℕ} (all : m ≡ length t.profiles.arrows.now) where
    abbrev more : Counts
    more = grown t.asked.model.k pairs (m + 1) counts

    as_many : length (profiles_of t.profiles) ≡ length t.profiles.arrows.now
    as_many = profiles_length t.profiles.arrows.now t.profiles.marks.now t.profiles.alike

    entered : {counted : Counts} → counted ≡ more → {seconds : ℕ}
        → seconds ≡ second_count 8 (machine_of t.asked) t.asked.model.k (profiles_of t.profiles) x
        → SizedOf t (record { blocks = counted.blocks; states = counted.states; arrows = counted.arrows + seconds }) i
    entered is e =
        rw is (size_grows 8 _ _ _ _ so _ next are some (omega (arith, all, as_many)) e)

    -- and its numbers are small, so that they fit
    small : (more.blocks ≤ 2048) × (more.states ≤ 4196608)
        × (more.arrows + second_count 8 (machine_of t.asked) t.asked.model.k (profiles_of t.profiles) x ≤ 142675968)
    small = size_room 8 _ _ _ _ (entered refl refl) t.asked.unrefused.k_most (omega (arith, t.few.0, as_many)) t.few.1

pub loop-arrows-init : goal.loop-arrows-init
loop-arrows-init c = size_begins 8 _ _ _ _

pub loop-arrows-preserved-then-pairs-eq0 : goal.loop-arrows-preserved-then-pairs-eq0
loop-arrows-preserved-then-pairs-eq0 c =
    let next = next_pair c.args.tables.now.profiles _ _ _ c.next.new.self _ (cc) (cc) c.loop-arrows.yielded_by c.next.ensures.steps _ c.in-Some.is in
    passed c.args.tables.now _ c.loop-arrows.invariant next c.pairs_of-pairs.ensures c.if-pairs-eq0.true

pub add_block-requires : goal.add_block-requires
add_block-requires c =
    let next = next_pair c.args.tables.now.profiles _ _ _ c.next.new.self _ (cc) (cc) c.loop-arrows.yielded_by c.next.ensures.steps _ c.in-Some.is in
    let s = small c.args.tables.now _ c.loop-arrows.invariant next c.pairs_of-pairs.ensures
    c.if-pairs-eq0.false c.len-size.ensures in
    (s.0, omega (arith, s), omega (arith, s))

pub returns-then-not-fit : goal.returns-then-not-fit
returns-then-not-fit c =
    let next = next_pair c.args.tables.now.profiles _ _ _ c.next.new.self _ (cc) (cc) c.loop-arrows.yielded_by c.next.ensures.steps _ c.in-Some.is in
    let counted = entered c.args.tables.now _ c.loop-arrows.invariant next c.pairs_of-pairs.ensures
    c.if-pairs-eq0.false c.len-size.ensures c.add_block.ensures refl in
    too_much 8 _ _ _ _ counted (omega arith) (sym c.fit.ensures ∙ c.if-not-fit.true)

pub overflow_add-counts : goal.overflow_add-counts
overflow_add-counts c =
    let next = next_pair c.args.tables.now.profiles _ _ _ c.next.new.self _ (cc) (cc) c.loop-arrows.yielded_by c.next.ensures.steps _ c.in-Some.is in
    let s = small c.args.tables.now _ c.loop-arrows.invariant next c.pairs_of-pairs.ensures
    c.if-pairs-eq0.false c.len-size.ensures in
    rw c.add_block.ensures (omega (arith, s, c.seconds_of.ensures))

pub loop-arrows-preserved : goal.loop-arrows-preserved
loop-arrows-preserved c =
    let next = next_pair c.args.tables.now.profiles _ _ _ c.next.new.self _ (cc) (cc) c.loop-arrows.yielded_by c.next.ensures.steps _ c.in-Some.is in
    entered c.args.tables.now _ c.loop-arrows.invariant next c.pairs_of-pairs.ensures
    c.if-pairs-eq0.false c.len-size.ensures c.add_block.ensures c.seconds_of.ensures

pub returns : goal.returns
returns c =
    let none = no_pair c.args.tables.now.profiles _ _ _ c.next.new.self _ (cc) (cc) c.loop-arrows.yielded_by c.next.ensures.steps c.in-None.is in
    rw c.then_some.ensures
    (all_counted 8 _ _ _ _ c.loop-arrows.invariant none c.fit-2.ensures)
