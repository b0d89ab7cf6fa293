-- WHAT FOLLOWS FROM THE CONTRACT OF THE OPPOSITE: no second result meets it, what is past a count stays as it was, the arrows that
-- stand in the slices are sorted and inside, and only the first k numbers of arrows are read.
use Prim.Native.Nat.{ℕ, ◌≤◌, ◌<◌}
use native.Mathlib.Omega.{arith}
use mathlib.Core.Path.{◌≡◌, sym, ap, ap₂, ◌∙◌}
use mathlib.Core.Bool.{true}
use mathlib.Core.List.{List, map}
use mathlib.Core.Option.{some}
use lib.ListN.{length, take, get_elem?, length-map}
use Rattle.std.specs.Prelude.{Result, Ok, Err}
use Rattle.laws.specs.Model.{eight}
use Rattle.laws.specs.Opposite.{Arrow, sorted}
use Rattle.laws.specs.Answers.{SetSlices, ProfileSlices, OppositeSlices, room_for_sets, room_for_profiles, room_for_states, room_for_arrows, opposite_slices}
use Rattle.laws.specs.Answers.{over, Kept, opposite_in}
use Rattle.laws.proofs.Answered.{opposite_within, opposite_sorted, opposite_inside}
use Rattle.laws.proofs.Over.{written}
use Rattle.laws.proofs.Read.{opposite_by_numbers}
use Rattle.model.specs.Asked.{asked}
use Rattle.model.specs.declared.Model.{Model}
use Rattle.closing.proofs.Promises.{one_closing, same_refused}
use Rattle.opposite.specs.Memory.{arrows_in}
use Rattle.opposite.specs.Opposites.{told, tells, due, WritesOpposite}
use Rattle.closing.specs.declared.Refused.{Refused}
use Rattle.opposite.specs.declared.Written.{Written}
use Rattle.opposite.proofs.Concluding.{arrows_read}

-- THE OPPOSITE reads only the first k numbers of arrows: with k there, no other matters
pub opposite_first_k : (m : Model) (arrows other : List ℕ) (S : SetSlices) (T : ProfileSlices) (O : OppositeSlices)
    → m.k ≤ length arrows → m.k ≤ length other → take m.k arrows ≡ take m.k other → due m arrows S T O ≡ due m other S T O
unfolding opposite_in
opposite_first_k m arrows other S T O here there same =
    opposite_by_numbers (asked m arrows) other same eight here there (room_for_sets eight S) (room_for_profiles eight T) (room_for_states O) (room_for_arrows O)

-- what is written is its four counts
same_written : (x y : Written) → x.sets ≡ y.sets → x.profiles ≡ y.profiles → x.states ≡ y.states → x.arrows ≡ y.arrows → x ≡ y
same_written x y s p t a =
    ap₂ (λ m n. record { sets = m; profiles = n; states = x.states; arrows = x.arrows }) s p
    ∙ ap₂ (λ m n. record { sets = y.sets; profiles = y.profiles; states = m; arrows = n }) t a

-- no two answers tell the same
told_once : (a b : Result Written Refused) → told a ≡ told b → a ≡ b
unfolding told
told_once a b e =
    go a b (ap (λ t. t.written) e) (ap (λ t. t.number) e) (ap (λ t. t.sets) e) (ap (λ t. t.profiles) e) (ap (λ t. t.states) e)
    (ap (λ t. t.arrows) e)
  where
    go : (a b : Result Written Refused) → (told a).written ≡ (told b).written → (told a).number ≡ (told b).number
        → (told a).sets ≡ (told b).sets → (told a).profiles ≡ (told b).profiles → (told a).states ≡ (told b).states
        → (told a).arrows ≡ (told b).arrows → a ≡ b
    go (Ok x) (Ok y) w n g h i j = ap Ok (same_written x y g h i j)
    go (Ok x) (Err y) w n g h i j = cc
    go (Err x) (Ok y) w n g h i j = cc
    go (Err x) (Err y) w n g h i j = ap Err (same_refused x y n g h)

module _ {m : Model} {arrows : List ℕ} {S S' : SetSlices} {T T' : ProfileSlices} {O O' : OppositeSlices} {answer : Result Written Refused}
    (w : WritesOpposite m arrows S S' T T' O O' answer) where
  -- it has one result: the answer, and what all lent memory holds
  pub one_opposite : {S'' : SetSlices} {T'' : ProfileSlices} {O'' : OppositeSlices} {other : Result Written Refused}
      → WritesOpposite m arrows S S'' T T'' O O'' other → (answer ≡ other) × (S' ≡ S'') × (T' ≡ T'') × (O' ≡ O'')
  one_opposite v =
      let (_, sets, profiles) = one_closing w.closing v.closing in
      (told_once answer _ (w.answered ∙ sym v.answered), sets, profiles, w.opposite_slices_are ∙ sym v.opposite_slices_are)

  -- the counts are within the rooms
  pub counts_within : ((told answer).states ≤ room_for_states O) × ((told answer).arrows ≤ room_for_arrows O)
  unfolding opposite_in tells
  counts_within =
      let within = opposite_within eight (asked m arrows) (room_for_sets eight S) (room_for_profiles eight T) (room_for_states O) (room_for_arrows O) in (
        omega (arith, ap (λ t. t.states) w.answered, within.0),
        omega (arith, ap (λ t. t.arrows) w.answered, within.1),
      )

  -- and past them no lent slice has changed
  pub opposite_kept : Kept (told answer).arrows O.from O'.from × Kept (told answer).arrows O.event O'.event
      × Kept (told answer).arrows O.to O'.to × Kept (told answer).states O.flags O'.flags
  unfolding opposite_slices tells room_for_states room_for_arrows
  opposite_kept =
      rw w.opposite_slices_are (
        column (λ e. e.from) (omega (arith, counts_within.1)),
        column (λ e. e.event) (omega (arith, counts_within.1)),
        column (λ e. e.to) (omega (arith, counts_within.1)),
        written _ _ (told answer).states (sym (ap (λ t. t.states) w.answered)) (omega (arith, counts_within.0)),
      )
    where
      column : (f : Arrow → ℕ) {old : List ℕ} → (told answer).arrows ≤ length old
          → Kept (told answer).arrows old (over (map f (due m arrows S T O).arrows) old)
      column f l = written _ _ (told answer).arrows (length-map (due m arrows S T O).arrows f ∙ sym (ap (λ t. t.arrows) w.answered)) l

  -- the arrows and flags that now stand in the slices are those that are due
  arrows_stand : arrows_in O' (told answer).arrows ≡ (due m arrows S T O).arrows
  unfolding tells
  arrows_stand = rw (w.opposite_slices_are, ap (λ t. t.arrows) w.answered) (arrows_read _ _ O)

  -- they are sorted by from, event, to, and none stands there twice
  pub slices_sorted : sorted (arrows_in O' (told answer).arrows) ≡ true
  unfolding opposite_in
  slices_sorted =
      ap sorted arrows_stand ∙ opposite_sorted eight (asked m arrows) (room_for_sets eight S) (room_for_profiles eight T) (room_for_states O) (room_for_arrows O)

  -- and are on the k events, between states that have a flag
  pub slices_inside : (i : ℕ) (e : Arrow) → get_elem? (arrows_in O' (told answer).arrows) i ≡ some e
      → (e.from < (told answer).states) × (e.event < m.k) × (e.to < (told answer).states)
  unfolding opposite_in tells
  slices_inside i e at =
      rw (ap (λ t. t.states) w.answered)
      (opposite_inside eight (asked m arrows) (room_for_sets eight S) (room_for_profiles eight T) (room_for_states O) (room_for_arrows O) i e
      (ap (λ (es : List Arrow). get_elem? es i) (sym arrows_stand) ∙ at))
