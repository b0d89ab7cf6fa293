-- The arrows that leave the sets: on each event one to the next set and those into the blocks, one set behind the other.
use Prim.Native.Nat.{ℕ, ◌+◌, ◌≤◌, ◌<◌}
use native.Mathlib.Omega.{arith}
use native.Mathlib.Numerals.{add-one}
use mathlib.Core.Path.{◌≡◌, sym, ap, ◌∙◌}
use mathlib.Core.List.{List, [], ◌∷◌, ◌++◌}
use lib.ListN.{length, get_or, drop}
use lib.Dec.{eqb}
use Rattle.laws.specs.Bits.{place_of, each_below}
use Rattle.laws.specs.Model.{Machine, Model, eight, machine}
use Rattle.laws.specs.Profiles.{Profile, same_profile, image, event_profile}
use Rattle.laws.specs.Refusals.{Unrefused}
use Rattle.laws.specs.Opposite.{Arrow, arrow}
use Rattle.laws.proofs.Sorted.{place_in}
use Rattle.profile.specs.Values.{plain, event_value}
use Rattle.profile.proofs.Lent.{event_value_is, set_after}
use Rattle.opposite.specs.Memory.{HasRoom, Adds}
use Rattle.opposite.specs.declared.arrows.Lines.{Lines}
use Rattle.opposite.specs.Drawing.{arrows_into_blocks, set_on, sets_from}
use Rattle.opposite.proofs.Rows.{next_left, none_left}
use Rattle.opposite.proofs.Events.{each_from, from_first, from_next, from_last}
use Rattle.opposite.proofs.Lines.{Left, begin, room_next, write_next, left_as, all_written}

module _ (m : Model) (Ps : List ℕ) (ts bs : List Profile) where
  abbrev M : Machine ℕ
  M = machine 8 m

  -- ONE SET: what is left to write from event a on
  module _ (i set : ℕ) where
    abbrev pub Leaving : List Arrow → Lines → Lines → ℕ → Type 0
    Leaving all base new a = Left all base new (each_from m.k (set_on 8 M m.k Ps ts bs i set) a)

    -- at first it is all of them
    pub leaving_begins : {base : Lines} → HasRoom (each_below m.k (set_on 8 M m.k Ps ts bs i set)) base
        → Leaving (each_below m.k (set_on 8 M m.k Ps ts bs i set)) base base 0
    leaving_begins r = left_as (begin r) (sym (from_first m.k (set_on 8 M m.k Ps ts bs i set)))

    -- and at the end it is nothing
    pub leaving_done : {all : List Arrow} {base new : Lines} {a : ℕ} → Leaving all base new a → m.k ≤ a → Adds all base new
    leaving_done {a = a} w end = all_written w (from_last m.k (set_on 8 M m.k Ps ts bs i set) a end)

    -- one event, whose lent number leads the set to a set at place q
    module _ (u : Unrefused eight m) {all : List Arrow} {base new : Lines} {a : ℕ} (w : Leaving all base new a)
        (here : a < m.k) {led q : ℕ} (led_to : led ≡ image 8 set (plain (get_or m.arrows a 0))) (found : q ≡ place_of (eqb led) Ps) where
      abbrev entries : List Arrow
      entries = arrows_into_blocks 8 ts set i a (place_of (same_profile (event_profile 8 M a)) ts) (length Ps) bs

      abbrev later : List Arrow
      later = each_from m.k (set_on 8 M m.k Ps ts bs i set) (a + 1)

      -- the arrow to the next set comes first, then those into the blocks, then those of the later events
      next_event : each_from m.k (set_on 8 M m.k Ps ts bs i set) a ≡ (arrow i a q ∷ []) ++ (entries ++ later)
      unfolding set_on
      next_event =
          from_next m.k (set_on 8 M m.k Ps ts bs i set) a here
          ∙ ap (λ q. arrow i a q ∷ (entries ++ later)) (sym (found ∙ ap (λ P. place_of (eqb P) Ps) (led_to ∙ set_after m u set a here)))

      -- that place is at most the number of sets
      pub next_within : q ≤ length Ps
      next_within = omega (arith, found, place_in (eqb led) Ps)

      -- there is room for the arrow to the next set
      pub next_room : HasRoom (arrow i a q ∷ []) new
      next_room = room_next w _ _ next_event

      -- then, with the event's profile at place e, for those into the blocks
      module _ {newer : Lines} (p : Adds (arrow i a q ∷ []) new newer) (x : Profile) {e : ℕ}
          (made : x ≡ event_value (get_or m.arrows a 0) m.home) (at : e ≡ place_of (same_profile x) ts) where
        -- what is left then
        then_entries : entries ++ later ≡ arrows_into_blocks 8 ts set i a e (length Ps) bs ++ later
        then_entries =
            ap (λ e. arrows_into_blocks 8 ts set i a e (length Ps) bs ++ later)
            (sym (at ∙ ap (λ x. place_of (same_profile x) ts) (made ∙ event_value_is m u a here)))

        pub entries_room : HasRoom (arrows_into_blocks 8 ts set i a e (length Ps) bs) newer
        entries_room = room_next (write_next w _ _ next_event p) _ _ then_entries

        -- and all of the event is written
        pub event_left : {newest : Lines} → Adds (arrows_into_blocks 8 ts set i a e (length Ps) bs) newer newest
            → Leaving all base newest (a + 1)
        event_left r = write_next (write_next w _ _ next_event p) _ _ then_entries r

  -- ALL SETS: what is left to write from set number i on
  abbrev pub SetsLeaving : List Arrow → Lines → Lines → ℕ → Type 0
  SetsLeaving all base new i = Left all base new (sets_from 8 M m.k Ps ts bs i (drop i Ps))

  -- at the end it is nothing
  pub sets_done : {all : List Arrow} {base new : Lines} {i : ℕ} → SetsLeaving all base new i → length Ps ≤ i → Adds all base new
  unfolding sets_from
  sets_done {i = i} w end = all_written w (ap (sets_from 8 M m.k Ps ts bs i) (none_left Ps i end))

  -- one set
  module _ {all : List Arrow} {base new : Lines} {i : ℕ} (w : SetsLeaving all base new i)
      (here : i < length Ps) where
    abbrev its_arrows : List Arrow
    its_arrows = each_below m.k (set_on 8 M m.k Ps ts bs i (get_or Ps i 0))

    -- its arrows come first, and then those of the others
    next_set_is : sets_from 8 M m.k Ps ts bs i (drop i Ps) ≡ its_arrows ++ sets_from 8 M m.k Ps ts bs (i + 1) (drop (i + 1) Ps)
    unfolding sets_from
    next_set_is = rw (next_left Ps i 0 here, add-one)

    -- there is room for its arrows
    pub room_of_set : HasRoom its_arrows new
    room_of_set = room_next w _ _ next_set_is

    -- and they are written
    pub set_left : {newer : Lines} → Adds its_arrows new newer → SetsLeaving all base newer (i + 1)
    set_left p = write_next w _ _ next_set_is p
