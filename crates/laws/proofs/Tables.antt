-- The tables as a whole, for any kind of value. A table made with a room is the first part of the one that holds all values, cut exactly if
-- there are more than room; and where values have codes below a bound, there is such a table, with no more entries than the bound.
use Prim.Native.Nat.{ℕ, ◌<◌, ◌≤◌}
use native.Mathlib.Omega.{arith}
use mathlib.Core.Path.{◌≡◌, sym, ap, ◌∙◌}
use mathlib.Core.Bool.{true, false}
use mathlib.Core.Logic.{⊎_elim}
use mathlib.Core.List.{List}
use mathlib.Core.Option.{some}
use lib.ListN.{length, get_elem?}
use lib.Dec.{ltb}
use borrow.Author.Tests.{ltb-true, ltb-false}
use Rattle.laws.specs.Bits.{place_of}
use Rattle.laws.specs.Words.{Word, letters_are_below}
use Rattle.laws.specs.Tables.{WordValue, Entry, Holds, UpTo, made, Steps, Codes, Closes}
use Rattle.laws.specs.Profiles.{values}
use Rattle.laws.proofs.Booleans.{either, inside}
use Rattle.laws.proofs.Pigeonhole.{pigeonhole}
use Rattle.laws.proofs.Places.{place_below, element}
use Rattle.laws.proofs.Members.{member, placed}
use Rattle.laws.proofs.Values.{found}
use Rattle.laws.proofs.Listed.{Listed}
use Rattle.laws.proofs.Making.{More, more_listed}
use Rattle.laws.proofs.Room.{room_first}
use Rattle.laws.proofs.Made.{made_holds, made_cut}
use Rattle.laws.proofs.Unique.{same_entries}

module _ {Value : Type 0} {Val : WordValue Value} {k : ℕ} where
  -- there are no more values than codes
  not_more : {bound : ℕ} → Codes Val k bound → More Val k bound → ⊥
  not_more {bound = bound} c m =
      let (i, j, l, j_in, same) =
      pigeonhole bound (λ i. c.code (m.value i)) (λ i h. c.below (m.word i) (m.value i) (m.letters i h) (m.has i h)) in
      let i_in : i ≤ bound = omega arith in
      let equal = c.apart (m.word i) (m.word j) _ _ (m.letters i i_in) (m.letters j j_in) (m.has i i_in) (m.has j j_in) same in
      omega (arith, m.differ i j i_in j_in equal)

  -- so no more entries
  pub few : {bound : ℕ} {es : List (Entry Value)} → Codes Val k bound → Holds Val k es → length es ≤ bound
  few {bound = bound} {es = es} c h =
      ⊎_elim
      (λ l. absurd (not_more c (more (ltb-true bound (length es) l))))
      (ltb-false bound (length es))
      (either (ltb bound (length es)))
    where
      listed : Listed Val k es h.word
      listed = record { letters = h.word_letters; has = h.word_value; once = h.once; ordered = h.ordered; came = h.came }

      more : bound < length es → More Val k bound
      more l = more_listed bound (element es bound l).0 listed l

  module _ (steps : Steps Val) where
    -- a table with room for every code is not cut
    whole : {bound : ℕ} → Codes Val k bound → (made Val k bound).cut ≡ false
    whole {bound = bound} c = ⊎_elim (λ e. absurd (not_more c (made_cut steps k bound e))) (λ e. e) (either (made Val k bound).cut)

    -- so it holds all values
    enough : {bound : ℕ} → Codes Val k bound → Holds Val k (made Val k bound).entries
    enough {bound = bound} c = made_holds steps k bound (whole c)

    module _ (complete : List (Entry Value)) (h : Holds Val k complete) where
      -- where entries hold all values, the place of a value is its code
      places : Codes Val k (length (values complete))
      places =
          record {
            code = place;
            below = λ w x l v. place_below (values complete) (place x) (at w x l v);
            apart = λ v w x y lv lw hx hy same. inside (sym (at v x lv hx) ∙ ap (get_elem? (values complete)) same ∙ at w y lw hy);
          }
        where
          place : Value → ℕ
          place x = place_of (Val.same x) (values complete)

          at : (w : Word) (x : Value) → letters_are_below k w ≡ true → Val.of w ≡ some x → get_elem? (values complete) (place x) ≡ some x
          at w x l v =
              placed (Val.same x) (values complete) (steps.equal_same x) (steps.same_equal x)
              (member (values complete) (found complete h w x l v))

      -- A TABLE MADE WITH A ROOM is the first part of it, cut exactly if there is more
      pub up_to : (room : ℕ) → UpTo room complete (made Val k room)
      up_to room =
          let R : ℕ = length (values complete) in
          rw (same_entries (made Val k R).entries complete (enough places) h) at (room_first Val k room R (whole places))

-- WHAT CAN BE CLOSED, with codes below a bound, closes
pub closes : {Value : Type 0} {Val : WordValue Value} {k bound : ℕ} → Steps Val → Codes Val k bound → Closes Val k bound
closes {Val = Val} {k = k} {bound = bound} s c =
    let h = enough s c in
    record {
      complete = (made Val k bound).entries;
      holds = h;
      at_most = few c h;
      up_to_room = up_to s (made Val k bound).entries h;
      uncut = made_holds s k;
    }
