-- What closing ensures, from what its parts ensure: the four cases of the answer, each with what then stands in the slices.
use Prim.Native.Nat.{ℕ, zero, suc, ◌*◌, ◌^◌}
use mathlib.Core.Path.{◌≡◌, refl, sym, ap, ◌∙◌}
use mathlib.Core.List.{List, []}
use Rattle.std.proofs.Common.{Result, Ok, Err}
use lib.ListN.{length}
use Rattle.laws.specs.Model.{eight, machine}
use Rattle.laws.specs.Refusals.{first_of, model_checks}
use Rattle.laws.specs.Tables.{Entry, made, Closes}
use Rattle.laws.specs.Profiles.{Profile, values, set_value, profile_value, set_table, profile_table}
use Rattle.laws.specs.Answers.{SetSlices, ProfileSlices, room_for_sets, room_for_profiles, over, set_slices, profile_slices}
use Rattle.laws.specs.Answers.{closing_answer, closing_in}
use Rattle.laws.proofs.Theorems.{sets_close, profiles_close}
use Rattle.laws.proofs.Answered.{Whole, closing_refused, closing_listed, closing_whole}
use Rattle.model.specs.Asked.{asked}
use Rattle.model.specs.declared.checked.Checked.{Checked}
use Rattle.model.specs.Lent.{machine_of}
use Rattle.closing.specs.Memory.{Fills}
use Rattle.closing.specs.Closing.{Closed, Closing, due}
use Rattle.closing.proofs.SetTable.{set_layout}
use Rattle.closing.proofs.ProfileTable.{profile_layout}
use Rattle.model.specs.declared.Model.{Model}
use Rattle.closing.specs.declared.table.Full.{Full}

module _ (m : Model) (arrows : List ℕ) (S : SetSlices) (T : ProfileSlices) where
  -- from the answer that is due, what stands in the slices and both counts
  built : {S' : SetSlices} {T' : ProfileSlices} (number : ℕ) (es : List (Entry ℕ)) (ts : List (Entry Profile)) (answer : Closed)
      → due m arrows S T ≡ record { number = number; sets = es; profiles = ts } → S' ≡ set_slices es S → T' ≡ profile_slices ts T
      → answer.number ≡ number → answer.sets ≡ length es → answer.profiles ≡ length ts → Closing m arrows S S' T T' answer
  unfolding closing_in
  built {S' = S'} {T' = T'} number es ts answer is of_sets of_profiles number_is sets_are profiles_are =
      record {
        number = cc;
        sets = cc;
        profiles = cc;
        set_slices_are = cc;
        profile_slices_are = cc;
        all_sets = sets.complete;
        sets_are_all = sets.holds;
        all_profiles = profiles.complete;
        profiles_are_all = profiles.holds;
        listed =
            closing_listed eight (asked m arrows) (room_for_sets eight S) (room_for_profiles eight T) sets.complete sets.holds
            profiles.complete profiles.holds;
        all_sets_stored =
            λ z. rw (of_sets, sets_are, set_layout.back es S) (rw (ap (λ c. c.sets) is) at (whole (sym number_is ∙ z)).sets_hold);
        all_profiles_stored =
            λ z.
            rw (of_profiles, profiles_are, profile_layout.back ts T)
            (rw (ap (λ c. c.profiles) is) at (whole (sym number_is ∙ z)).profiles_hold);
      }
    where
      sets : Closes (set_value 8 (machine 8 (asked m arrows))) m.k (2 ^ 8)
      sets = sets_close 8 (machine 8 (asked m arrows)) m.k

      profiles : Closes (profile_value 8 (machine 8 (asked m arrows))) m.k (2 ^ (8 * 8) * 2 ^ (8 * 8))
      profiles = profiles_close 8 (machine 8 (asked m arrows)) m.k

      whole : number ≡ 0 → Whole eight (asked m arrows) (room_for_sets eight S) (room_for_profiles eight T) (due m arrows S T)
      whole z = closing_whole eight (asked m arrows) (room_for_sets eight S) (room_for_profiles eight T) (ap (λ c. c.number) is ∙ z)

  -- nothing was entered
  no_sets : S ≡ set_slices [] S
  unfolding set_slices over values
  no_sets = refl

  no_profiles : T ≡ profile_slices [] T
  unfolding profile_slices over values
  no_profiles = refl

  -- 1, 2 and 3: nothing is entered
  pub refused : (r : ℕ) → r ≡ (first_of (model_checks eight (asked m arrows))).number → (r ≡ 0 → ⊥)
      → Closing m arrows S S T T (record { number = r; sets = 0; profiles = 0 })
  unfolding closing_in
  refused zero is some = absurd (some refl)
  refused (suc r) is some =
      built (suc r) [] [] _ (closing_refused eight (asked m arrows) (room_for_sets eight S) (room_for_profiles eight T) r (sym is)) no_sets no_profiles
      refl refl refl

  module _ (k : Checked) (same : (k.model ≡ m) × (k.arrows.now ≡ arrows))
      (passes : 0 ≡ (first_of (model_checks eight (asked m arrows))).number) where
    -- what closing the table of sets leaves, and that of profiles
    abbrev SetsFill : SetSlices → Result ℕ Full → Type 0
    SetsFill S' answer =
        Fills set_slices (room_for_sets eight S) (made (set_value 8 (machine_of k)) k.model.k (room_for_sets eight S)) S S' answer

    abbrev ProfilesFill : ProfileSlices → Result ℕ Full → Type 0
    ProfilesFill T' answer =
        Fills profile_slices (room_for_profiles eight T) (made (profile_value 8 (machine_of k)) k.model.k (room_for_profiles eight T)) T T' answer

    -- 4: as many sets as there is room
    pub more_sets : {S' : SetSlices} {full : Full} → SetsFill S' (Err full)
        → Closing m arrows S S' T T (record { number = 4; sets = full.count; profiles = 0 })
    unfolding closing_in closing_answer set_table
    more_sets f =
        let g = rw (same.0, same.1) at f in
        built 4 _ [] _ (rw (sym passes, sym g.cut, closing_answer)) g.slices no_profiles refl g.count refl

    module _ {S' : SetSlices} {s : ℕ} (f : SetsFill S' (Ok s)) {T' : ProfileSlices} where
      -- 5: all sets, and as many profiles as there is room
      pub more_profiles : {full : Full} → ProfilesFill T' (Err full)
          → Closing m arrows S S' T T' (record { number = 5; sets = s; profiles = full.count })
      unfolding closing_in closing_answer set_table profile_table
      more_profiles g =
          let f' = rw (same.0, same.1) at f in
          let g' = rw (same.0, same.1) at g in
          built 5 _ _ _ (rw (sym passes, sym f'.cut, sym g'.cut, closing_answer)) f'.slices g'.slices refl f'.count g'.count

      -- 0: all sets and all profiles
      pub complete : {t : ℕ} → ProfilesFill T' (Ok t) → Closing m arrows S S' T T' (record { number = 0; sets = s; profiles = t })
      unfolding closing_in closing_answer set_table profile_table
      complete g =
          let f' = rw (same.0, same.1) at f in
          let g' = rw (same.0, same.1) at g in
          built 0 _ _ _ (rw (sym passes, sym f'.cut, sym g'.cut, closing_answer)) f'.slices g'.slices refl f'.count g'.count
