-- The tests are those of the model's checks, in their order, so that each return is the number of the first that applies.
use Prim.Native.Nat.{ℕ, ◌<◌, ◌≤◌}
use mathlib.Core.Path.{◌≡◌, sym}
use mathlib.Core.Bool.{Bool, true, false, ◌||◌}
use mathlib.Core.Logic.{◌⊎◌, inl, inr, ⊎_elim}
use lib.ListN.{length, take}
use borrow.Author.Tests.{lt-ltb, le-ltb}
use Rattle.laws.specs.Bits.{some_of}
use Rattle.laws.specs.Model.{Kind, Model, eight}
use Rattle.laws.specs.Refusals.{first_of, fault, refuse, outside, mask_beyond, arrows_beyond, model_checks}
use Rattle.laws.proofs.Booleans.{or_left, or_right}
use Rattle.laws.proofs.Unrefused.{in_range, unrefused}
use Rattle.model.proofs.Model.check.Goals as goal
use Rattle.model.proofs.Model.check.Goals.{then-is_outside-via-then-is_outside, then-is_outside-via-else-is_outside+then-is_outside-2}
use Rattle.model.proofs.Model.check.Goals.{then-row_beyond-via-then-row_beyond, then-row_beyond-via-else-row_beyond+then-row_beyond-2, then-row_beyond-via-else-row_beyond+else-row_beyond-2+then-some_beyond}

-- neither 1 nor 2 applies: both numbers are in their ranges, and there are as many numbers of arrows as are read
record There (K : Kind) (m : Model) : Type 0 where
  pub states : outside K.states m.n ≡ false
  pub events : outside K.events m.k ≡ false
  pub long : m.k ≤ length m.arrows

-- WHICH REFUSAL IS THE FIRST: each by one of its tests, where none before it applies
module _ (K : Kind) (m : Model) where
  abbrev start : Bool
  start = mask_beyond m.n m.start

  abbrev home : Bool
  home = mask_beyond m.n m.home

  abbrev arrows : Bool
  arrows = some_of (arrows_beyond K.states m.n) (take m.k m.arrows)

  abbrev First : ℕ → Type 0
  First number = number ≡ (first_of (model_checks K m)).number

  first : (outside K.states m.n ≡ true) ⊎ (outside K.events m.k ≡ true) → First 1
  unfolding model_checks first_of refuse fault
  first h = rw (⊎_elim (or_left (outside K.events m.k)) (or_right (outside K.states m.n)) h)

  second : outside K.states m.n ≡ false → outside K.events m.k ≡ false → length m.arrows < m.k → First 2
  unfolding model_checks first_of refuse fault
  second s e l = rw (s, e, lt-ltb (length m.arrows) m.k l)

  third : There K m → (start ≡ true) ⊎ ((home ≡ true) ⊎ (arrows ≡ true)) → First 3
  unfolding model_checks first_of refuse fault
  third h e =
      let bits : (start || home || arrows) ≡ true =
      ⊎_elim (λ s. or_left arrows (or_left home s)) (⊎_elim (λ t. or_left arrows (or_right start t)) (or_right (start || home))) e in
      rw (h.states, h.events, le-ltb (length m.arrows) m.k h.long, bits)

  none : There K m → start ≡ false → home ≡ false → arrows ≡ false → First 0
  unfolding model_checks first_of refuse fault
  none h s t a = rw (h.states, h.events, le-ltb (length m.arrows) m.k h.long, s, t, a)

-- what the first tests tell where they have failed
there : {m : Model} → outside 8 m.n ≡ false → outside 16 m.k ≡ false → m.k ≤ length m.arrows → There eight m
there s e l = record { states = s; events = e; long = l }

pub returns-then-is_outside-clause-number : goal.returns-then-is_outside-clause-number
returns-then-is_outside-clause-number c =
    first eight _ (elim c.then-is_outside.branch [
      | then-is_outside-via-then-is_outside w ↦ inl (sym w.if-is_outside.ensures)
      | then-is_outside-via-else-is_outside+then-is_outside-2 w ↦ inr (sym w.if-is_outside-2.ensures)
    ])

pub returns-then-arrows-self-clause-number : goal.returns-then-arrows-self-clause-number
returns-then-arrows-self-clause-number c =
    second eight _ (sym c.if-is_outside.ensures) (sym c.if-is_outside-2.ensures) c.if-arrows-self.true

pub row_beyond-requires : goal.row_beyond-requires
row_beyond-requires c = ((in_range 8 _).0 (sym c.if-is_outside.ensures)).1

pub row_beyond-requires-else-row_beyond : goal.row_beyond-requires-else-row_beyond
row_beyond-requires-else-row_beyond c = ((in_range 8 _).0 (sym c.if-is_outside.ensures)).1

pub some_beyond-requires : goal.some_beyond-requires
some_beyond-requires c = (((in_range 8 _).0 (sym c.if-is_outside.ensures)).1, c.if-arrows-self.false)

pub returns-then-row_beyond-clause-number : goal.returns-then-row_beyond-clause-number
returns-then-row_beyond-clause-number c =
    third eight _ (there (sym c.if-is_outside.ensures) (sym c.if-is_outside-2.ensures) c.if-arrows-self.false) (elim c.then-row_beyond.branch [
      | then-row_beyond-via-then-row_beyond w ↦ inl (sym w.if-row_beyond.ensures)
      | then-row_beyond-via-else-row_beyond+then-row_beyond-2 w ↦ inr (inl (sym w.if-row_beyond-2.ensures))
      | then-row_beyond-via-else-row_beyond+else-row_beyond-2+then-some_beyond w ↦ inr (inr (sym w.if-some_beyond.ensures))
    ])

pub returns-clause-number : goal.returns-clause-number
returns-clause-number c =
    none eight _ (there (sym c.if-is_outside.ensures) (sym c.if-is_outside-2.ensures) c.if-arrows-self.false)
    (sym c.if-row_beyond.ensures) (sym c.if-row_beyond-2.ensures) (sym c.if-some_beyond.ensures)

pub invariant_of-result : goal.invariant_of-result
invariant_of-result c =
    record {
      unrefused =
          unrefused eight _ (sym (none eight _ (there (sym c.if-is_outside.ensures) (sym c.if-is_outside-2.ensures) c.if-arrows-self.false)
          (sym c.if-row_beyond.ensures) (sym c.if-row_beyond-2.ensures) (sym c.if-some_beyond.ensures)));
    }
