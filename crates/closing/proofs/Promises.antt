-- WHAT FOLLOWS FROM THE CONTRACT OF CLOSING: no second result meets it, and what is past a count stays as it was.
use Prim.Native.Nat.{ℕ, ◌≤◌}
use native.Mathlib.Omega.{arith}
use mathlib.Core.Path.{◌≡◌, refl, sym, ap, ap₂, ◌∙◌}
use mathlib.Core.List.{List, map}
use lib.ListN.{length, take, length-map}
use Rattle.laws.specs.Model.{eight}
use Rattle.laws.specs.Tables.{Entry}
use Rattle.laws.specs.Profiles.{Profile, values}
use Rattle.laws.specs.Answers.{SetSlices, ProfileSlices, room_for_sets, room_for_profiles, over, Kept, set_slices, profile_slices, closing_in}
use Rattle.laws.proofs.Answered.{closing_within, full_after_4 as sets_full, full_after_5 as profiles_full, never_4 as sets_enough}
use Rattle.laws.proofs.Read.{first_numbers}
use Rattle.laws.proofs.Over.{written}
use Rattle.model.specs.Asked.{asked}
use Rattle.model.specs.declared.Model.{Model}
use Rattle.closing.specs.Memory.{SetsLent, ProfilesLent}
use Rattle.std.specs.Prelude.{Result, Ok, Err}
use Rattle.model.specs.Numbers.{number_of}
use Rattle.model.proofs.Numbers.{some_number, one_number}
use Rattle.closing.specs.declared.Complete.{Complete}
use Rattle.closing.specs.declared.Refused.{Refused}
use Rattle.closing.specs.Closing.{Closed, told, Closing, due}
use Rattle.closing.proofs.SetTable as of_sets
use Rattle.closing.proofs.ProfileTable as of_profiles

-- an answer is its three numbers
same_answer : (a b : Closed) → a.number ≡ b.number → a.sets ≡ b.sets → a.profiles ≡ b.profiles → a ≡ b
same_answer a b n s p =
    ap (λ x. record { number = x; sets = a.sets; profiles = a.profiles }) n
    ∙ ap₂ (λ x y. record { number = b.number; sets = x; profiles = y }) s p

-- a refusal with its counts is its number and these
pub same_refused : (x y : Refused) → number_of x.refusal ≡ number_of y.refusal → x.sets ≡ y.sets → x.profiles ≡ y.profiles → x ≡ y
same_refused x y r s p =
    ap (λ r. record { refusal = r; sets = x.sets; profiles = x.profiles }) (one_number x.refusal y.refusal r)
    ∙ ap₂ (λ m n. record { refusal = y.refusal; sets = m; profiles = n }) s p

-- no two answers of the call tell the same
told_once : (a b : Result Complete Refused) → told a ≡ told b → a ≡ b
told_once a b e = go a b (ap (λ t. t.number) e) (ap (λ t. t.sets) e) (ap (λ t. t.profiles) e)
  where
    go : (a b : Result Complete Refused) → (told a).number ≡ (told b).number → (told a).sets ≡ (told b).sets
        → (told a).profiles ≡ (told b).profiles → a ≡ b
    go (Ok x) (Ok y) n s p = ap₂ (λ k l. Ok (record { sets = k; profiles = l })) s p
    go (Ok x) (Err y) n s p = absurd (some_number y.refusal (sym n))
    go (Err x) (Ok y) n s p = absurd (some_number x.refusal n)
    go (Err x) (Err y) n s p = ap Err (same_refused x y n s p)

-- CLOSING reads only the first k numbers of arrows: with k there, no other matters
pub first_k_only : (m : Model) (arrows other : List ℕ) (S : SetSlices) (T : ProfileSlices) → m.k ≤ length arrows → m.k ≤ length other
    → take m.k arrows ≡ take m.k other → due m arrows S T ≡ due m other S T
unfolding closing_in
first_k_only m arrows other S T here there same =
    first_numbers (asked m arrows) other same eight here there (room_for_sets eight S) (room_for_profiles eight T)

module _ {m : Model} {arrows : List ℕ} {S S' : SetSlices} {T T' : ProfileSlices} {answer : Closed}
    (c : Closing m arrows S S' T T' answer) where
  -- CLOSING has one result: the answer, and what all lent memory holds
  pub one_closing : {S'' : SetSlices} {T'' : ProfileSlices} {other : Closed} → Closing m arrows S S'' T T'' other
      → (answer ≡ other) × (S' ≡ S'') × (T' ≡ T'')
  one_closing d = (
    same_answer answer _ (c.number ∙ sym d.number) (c.sets ∙ sym d.sets) (c.profiles ∙ sym d.profiles),
    c.set_slices_are ∙ sym d.set_slices_are,
    c.profile_slices_are ∙ sym d.profile_slices_are,
  )

  -- and so has the call, of which it is told
  pub one_answer : {a b : Result Complete Refused} {S'' : SetSlices} {T'' : ProfileSlices} → answer ≡ told a
      → Closing m arrows S S'' T T'' (told b) → a ≡ b
  one_answer {a} {b} is d = told_once a b (sym is ∙ (one_closing d).0)

  -- the counts are within the rooms
  pub sets_within : answer.sets ≤ room_for_sets eight S
  unfolding closing_in
  sets_within = omega (arith, c.sets, closing_within eight (asked m arrows) (room_for_sets eight S) (room_for_profiles eight T))

  pub profiles_within : answer.profiles ≤ room_for_profiles eight T
  unfolding closing_in
  profiles_within = omega (arith, c.profiles, closing_within eight (asked m arrows) (room_for_sets eight S) (room_for_profiles eight T))

  -- with 4 the sets fill their room, and with 5 the profiles fill theirs
  pub full_after_4 : answer.number ≡ 4 → answer.sets ≡ room_for_sets eight S
  unfolding closing_in
  full_after_4 h = c.sets ∙ sets_full eight (asked m arrows) (room_for_sets eight S) (room_for_profiles eight T) (sym c.number ∙ h)

  pub full_after_5 : answer.number ≡ 5 → answer.profiles ≡ room_for_profiles eight T
  unfolding closing_in
  full_after_5 h = c.profiles ∙ profiles_full eight (asked m arrows) (room_for_sets eight S) (room_for_profiles eight T) (sym c.number ∙ h)

  -- there are at most 256 sets: with room for so many 4 does not come
  pub never_4 : 256 ≤ room_for_sets eight S → answer.number ≡ 4 → ⊥
  unfolding closing_in
  never_4 room h = sets_enough eight (asked m arrows) (room_for_sets eight S) (room_for_profiles eight T) room (sym c.number ∙ h)

  -- so the entries stand in the first places, within the rooms
  pub sets_stand : SetsLent S' answer.sets (room_for_sets eight S)
  sets_stand =
      rw (c.set_slices_are, c.sets)
      (of_sets.still_room _ S (omega (arith, c.sets, sets_within)))

  pub profiles_stand : ProfilesLent T' answer.profiles (room_for_profiles eight T)
  profiles_stand =
      rw (c.profile_slices_are, c.profiles)
      (of_profiles.still_room _ T (omega (arith, c.profiles, profiles_within)))

  -- and past them no lent slice has changed
  pub sets_kept : Kept answer.sets S.masks S'.masks × Kept answer.sets S.from S'.from
      × Kept answer.sets S.event S'.event
  unfolding set_slices values
  sets_kept =
      let lent = of_sets.room_lent S refl in
      rw c.set_slices_are (
        column (λ e. e.value) (omega (arith, sets_within)),
        column (λ e. e.from) (omega (arith, sets_within)),
        column (λ e. e.event) (omega (arith, sets_within)),
      )
    where
      column : (f : Entry ℕ → ℕ) {old : List ℕ} → answer.sets ≤ length old
          → Kept answer.sets old (over (map f (due m arrows S T).sets) old)
      column f l = written _ _ answer.sets (length-map (due m arrows S T).sets f ∙ sym c.sets) l

  pub profiles_kept : Kept answer.profiles T.arrows T'.arrows × Kept answer.profiles T.marks T'.marks
      × Kept answer.profiles T.from T'.from × Kept answer.profiles T.event T'.event
  unfolding profile_slices values
  profiles_kept =
      let lent = of_profiles.room_lent T refl in
      rw c.profile_slices_are (
        value (λ t. t.arrows) (omega (arith, profiles_within)),
        value (λ t. t.marks) (omega (arith, profiles_within)),
        column (λ e. e.from) (omega (arith, profiles_within)),
        column (λ e. e.event) (omega (arith, profiles_within)),
      )
    where
      ts : List (Entry Profile)
      ts = (due m arrows S T).profiles

      column : (f : Entry Profile → ℕ) {old : List ℕ} → answer.profiles ≤ length old → Kept answer.profiles old (over (map f ts) old)
      column f l = written _ _ answer.profiles (length-map ts f ∙ sym c.profiles) l

      value : (f : Profile → ℕ) {old : List ℕ} → answer.profiles ≤ length old
          → Kept answer.profiles old (over (map f (map (λ e. e.value) ts)) old)
      value f l =
          written _ _ answer.profiles
          (length-map (map (λ e. e.value) ts) f ∙ length-map ts (λ e. e.value) ∙ sym c.profiles) l
