-- What the opposite ensures, from what closing ensures: after a refusal nothing more, and otherwise what is drawn from the first places of
-- the slices, where the complete tables stand. The machine that then stands in the slices is document 01's, and that one is opposed.
use Prim.Native.Nat.{ℕ, zero, suc, ◌<◌}
use native.Mathlib.Omega.{arith}
use mathlib.Core.Path.{◌≡◌, refl, sym, ap, ap₂, ◌∙◌}
use mathlib.Core.Bool.{Bool, true, false, ◌&&◌}
use mathlib.Core.Logic.{◌⊎◌, inl, inr}
use mathlib.Core.List.{List, [], ◌∷◌, map}
use lib.ListN.{length, take, length-map}
use lib.Seq.{take_at, take_all}
use lib.Dec.{eqb, leb}
use borrow.Author.Tests.{ne_eqb, leb-true, leb-false}
use Rattle.std.specs.Prelude.{Option as Maybe, Some, None, Result, Ok, Err, IsErr, IsErrAnd}
use Rattle.laws.specs.Model.{Machine, eight, machine}
use Rattle.laws.specs.Refusals.{Unrefused}
use Rattle.laws.specs.Profiles.{Profile, values}
use Rattle.laws.specs.Opposite.{Arrow, arrow, block_profiles, state_count, arrow_count}
use Rattle.laws.specs.Answers.{SetSlices, ProfileSlices, OppositeSlices, room_for_sets, room_for_profiles, room_for_states, room_for_arrows, over, set_slices}
use Rattle.laws.specs.Answers.{profile_slices, opposite_slices, ClosingAnswer, closing_in, opposite_in}
use Rattle.laws.proofs.Booleans.{never, and_left, and_right}
use Rattle.laws.proofs.Counts.{states_counted, arrows_counted}
use Rattle.laws.proofs.Over.{over_first}
use Rattle.laws.proofs.Answered.{closing_whole, opposite_refused, opposite_7, opposite_0, opposite_exactly_7, opposite_counts}
use Rattle.laws.proofs.Answered.{opposite_answers}
use Rattle.model.specs.Asked.{asked}
use Rattle.model.specs.declared.Model.{Model}
use Rattle.model.specs.declared.refusals.Refusal.TheVariants.{MoreArrows}
use Rattle.model.specs.Numbers.{number_of}
use Rattle.closing.specs.Memory.{sets_in, profiles_in}
use Rattle.closing.specs.Closing as closing
use Rattle.closing.specs.Closing.{Closed}
use Rattle.closing.specs.declared.Complete.{Complete}
use Rattle.closing.specs.declared.Refused.{Refused}
use Rattle.closing.proofs.Slices.{read_are, column_at}
use Rattle.closing.proofs.SetTable as of_sets
use Rattle.closing.proofs.ProfileTable as of_profiles
use Rattle.opposite.specs.Tables.{profiles_at}
use Rattle.opposite.specs.Memory.{arrows_in, flags_in}
use Rattle.opposite.specs.Drawing.{Draws}
use Rattle.opposite.specs.Opposites.{told, tells, due, states_of, arrows_of, WritesOpposite}
use Rattle.opposite.specs.declared.counts.Counts.{Counts}
use Rattle.opposite.specs.declared.Written.{Written}
use Rattle.model.proofs.Numbers.{some_number}

-- THE MACHINE IN THE SLICES is what was written to them
module _ (fs : List ℕ) (es : List Arrow) (O : OppositeSlices) where
  flags_read : flags_in (opposite_slices fs es O) (length fs) ≡ fs
  unfolding flags_in opposite_slices over
  flags_read = take_at fs _ (length fs) refl

  pub arrows_read : arrows_in (opposite_slices fs es O) (length es) ≡ es
  unfolding arrows_in opposite_slices arrow
  arrows_read =
      read_are _ es (length es) refl
      (λ i e at.
      rw (
        column_at (λ e. e.from) es O.from i at,
        column_at (λ e. e.event) es O.event i at,
        column_at (λ e. e.to) es O.to i at,
      ))

-- the profiles of a column of arrows and one of marks
profiles_back : (ts : List Profile) → profiles_at (map (λ t. t.arrows) ts) (map (λ t. t.marks) ts) ≡ ts
unfolding profiles_at
profiles_back [] = refl
profiles_back (t ∷ ts) = ap (λ (r : List Profile). t ∷ r) (profiles_back ts)

-- the first places of a slice hold what was written there
column_first : (xs old : List ℕ) (n : ℕ) → n ≡ length xs → take n (over xs old) ≡ xs
column_first xs old n e = sym (over_first xs old n (sym e)) ∙ take_all n xs (omega arith)

module _ {m : Model} {lent : List ℕ} {S S' : SetSlices} {T T' : ProfileSlices} {closed : Closed}
    (c : closing.Closing m lent S S' T T' closed) where
  abbrev C : ClosingAnswer
  C = closing.due m lent S T

  sets_read : sets_in S' closed.sets ≡ C.sets
  sets_read = rw (c.set_slices_are, c.sets) ((of_sets.set_layout).back _ S)

  profiles_read : profiles_in T' closed.profiles ≡ C.profiles
  profiles_read = rw (c.profile_slices_are, c.profiles) ((of_profiles.profile_layout).back _ T)

  -- an answer that tells what document 01's tells, with what it writes in the slices, meets the contract
  writes : {O O' : OppositeSlices} {answer : Result Written Refused} → told answer ≡ tells (due m lent S T O)
      → O' ≡ opposite_slices (due m lent S T O).flags (due m lent S T O).arrows O → WritesOpposite m lent S S' T T' O O' answer
  unfolding opposite_in closing_in tells states_of arrows_of
  writes {O} {O'} {answer} answered slices =
      let d = due m lent S T O in
      let is_0 : (told answer).number ≡ 0 → d.number ≡ 0 = λ z. sym (ap (λ t. t.number) answered) ∙ z in
      let a : ℕ = room_for_sets eight S in
      let b : ℕ = room_for_profiles eight T in
      let s : ℕ = room_for_states O in
      let r : ℕ = room_for_arrows O in
      record {
        closed = closed;
        closing = c;
        answered = answered;
        opposite_slices_are = slices;
        refused_7 =
            rw (ap (λ t. t.number) answered, c.number, sets_read, profiles_read) (opposite_exactly_7 eight (asked m lent) a b s r);
        counted = λ z.
            rw (ap (λ t. t.states) answered, ap (λ t. t.arrows) answered, sets_read, profiles_read)
            (opposite_counts eight (asked m lent) a b s r (is_0 z));
        opposed = λ z.
            rw (
              slices,
              ap (λ t. t.states) answered,
              ap (λ t. t.arrows) answered,
              flags_read d.flags d.arrows O,
              arrows_read d.flags d.arrows O,
            )
            (opposite_answers eight (asked m lent) a b s r (is_0 z));
      }

  -- the first places of the slices of masks, and of the profiles' arrows and marks
  abbrev pub Ps : List ℕ
  Ps = take closed.sets S'.masks

  abbrev pub leads : List ℕ
  leads = take closed.profiles T'.arrows

  abbrev pub marks : List ℕ
  marks = take closed.profiles T'.marks

  -- what stands there are the sets and the profiles
  sets_are : Ps ≡ values C.sets
  unfolding set_slices values closing_in
  sets_are = rw c.set_slices_are (column_first (values C.sets) S.masks closed.sets (c.sets ∙ sym (simp length-map)))

  profiles_are : profiles_at leads marks ≡ values C.profiles
  unfolding profile_slices values closing_in
  profiles_are =
      let n = closed.profiles in
      let ts = values C.profiles in
      let long : n ≡ length ts = c.profiles ∙ sym (simp length-map) in
      rw (
        c.profile_slices_are,
        column_first (map (λ t. t.arrows) ts) T.arrows n (long ∙ sym (length-map ts (λ t. t.arrows))),
        column_first (map (λ t. t.marks) ts) T.marks n (long ∙ sym (length-map ts (λ t. t.marks))),
      ) (profiles_back ts)

-- a refusal that is passed on
pub passed_on : (x : Result Written Refused) (e : Refused) → IsErr x × IsErrAnd x (λ r. r ≡ e) → x ≡ Err e
passed_on (Ok x) e (h, i) = absurd i
passed_on (Err r) e (h, i) = ap Err i

-- A REFUSAL of closing is the opposite's, and nothing is drawn
pub refuses : {m : Model} {lent : List ℕ} {S S' : SetSlices} {T T' : ProfileSlices} (O : OppositeSlices) (x : Refused)
    → closing.Closing m lent S S' T T' (closing.told (Err x)) → WritesOpposite m lent S S' T T' O O (Err x)
unfolding opposite_in closing_in told tells opposite_slices over
refuses {m} {lent} {S} {S'} {T} {T'} O x c = go (number_of x.refusal) refl
  where
    go : (n : ℕ) → number_of x.refusal ≡ n → WritesOpposite m lent S S' T T' O O (Err x)
    go zero e = absurd (some_number x.refusal e)
    go (suc n) e =
        let d = opposite_refused eight (asked m lent) (room_for_sets eight S) (room_for_profiles eight T) (room_for_states O) (room_for_arrows O) n
        (sym c.number ∙ e) in
        let refused_is : eqb (suc n) 0 ≡ false = ne_eqb (suc n) 0 (λ z. omega arith) in
        writes c (rw (d, e, c.sets, c.profiles, refused_is)) (rw d)

-- what is answered with complete tables: the counts of both and of what was drawn, and where nothing was, 7
abbrev pub answer_of : Complete → Maybe Counts → Result Written Refused
answer_of x None = Err (record { refusal = MoreArrows; sets = x.sets; profiles = x.profiles })
answer_of x (Some d) = Ok (record { sets = x.sets; profiles = x.profiles; states = d.states; arrows = d.arrows })

module _ {m : Model} {lent : List ℕ} {S S' : SetSlices} {T T' : ProfileSlices} {x : Complete}
    (c : closing.Closing m lent S S' T T' (closing.told (Ok x))) where
  -- the model is not refused
  pub unrefused : Unrefused eight (asked m lent)
  unfolding closing_in
  unrefused = (closing_whole eight (asked m lent) (room_for_sets eight S) (room_for_profiles eight T) (sym c.number)).model

  -- WHAT IS DRAWN from the tables is what is due
  pub draws : {O O' : OppositeSlices} {drawn : Maybe Counts}
      → Draws 8 (machine 8 (asked m lent)) m.k (Ps c) (profiles_at (leads c) (marks c)) O O' drawn
      → WritesOpposite m lent S S' T T' O O' (answer_of x drawn)
  unfolding opposite_in closing_in told tells opposite_slices over
  draws {O} {O'} {drawn} on_slices = go drawn (rw (sets_are c, profiles_are c) at on_slices)
    where
      M : Machine ℕ
      M = machine 8 (asked m lent)

      C : ClosingAnswer
      C = closing.due m lent S T

      bs : List Profile
      bs = block_profiles 8 (values C.sets) (values C.profiles)

      states : ℕ
      states = state_count (values C.sets) (values C.profiles) bs

      lines : ℕ
      lines = arrow_count 8 M m.k (values C.sets) (values C.profiles) bs

      -- whether both fit
      fit : Bool
      fit = leb states (room_for_states O) && leb lines (room_for_arrows O)

      -- what does not fit is too much of the one or of the other
      too_much : fit ≡ false → (room_for_states O < states) ⊎ (room_for_arrows O < lines)
      too_much e = cases (leb states (room_for_states O)) (leb lines (room_for_arrows O)) refl refl
        where
          cases : (x y : Bool) → leb states (room_for_states O) ≡ x → leb lines (room_for_arrows O) ≡ y
              → (room_for_states O < states) ⊎ (room_for_arrows O < lines)
          cases false y p q = inl (leb-false states (room_for_states O) p)
          cases true false p q = inr (leb-false lines (room_for_arrows O) q)
          cases true true p q = never (sym e ∙ ap₂ ◌&&◌ p q)

      go : (drawn : Maybe Counts) → Draws 8 M m.k (values C.sets) (values C.profiles) O O' drawn
          → WritesOpposite m lent S S' T T' O O' (answer_of x drawn)
      go (Some h) d =
          let a : Bool = leb states (room_for_states O) in
          let b : Bool = leb lines (room_for_arrows O) in
          let both : fit ≡ true = sym d.counts.fits in
          let is =
          opposite_0 eight (asked m lent) (room_for_sets eight S) (room_for_profiles eight T) (room_for_states O) (room_for_arrows O) (sym c.number)
          (leb-true states (room_for_states O) (and_left a b both)) (leb-true lines (room_for_arrows O) (and_right a b both)) in
          writes c
          (rw (
            is,
            c.sets,
            c.profiles,
            d.counts.sizes.states_are,
            d.counts.sizes.arrows_are,
            states_counted (values C.sets) (values C.profiles) bs,
            arrows_counted 8 M m.k (values C.sets) (values C.profiles),
          ))
          (rw is d.slices)
      go None d =
          let is =
          opposite_7 eight (asked m lent) (room_for_sets eight S) (room_for_profiles eight T) (room_for_states O) (room_for_arrows O) (sym c.number)
          (too_much (sym d.counts.fits)) in
          writes c (rw (is, c.sets, c.profiles)) (rw is d.slices)
