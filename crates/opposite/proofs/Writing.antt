-- Lists of arrows written one behind the other to the same slices: what was written and what is left to write are together all that is
-- to be written.
use Prim.Native.Nat.{ℕ, zero, suc, ◌+◌, ◌≤◌, ◌<◌}
use native.Mathlib.Omega.{arith}
use native.Mathlib.Nat.{add-zero}
use mathlib.Core.Path.{◌≡◌, refl, sym, ap, ap₂, ◌∙◌}
use mathlib.Core.List.{List, [], ◌∷◌, ◌++◌, map, map-append, append_assoc, append-nil}
use lib.ListN.{length, take, drop, set, length-append, length-map, length-take, length-drop, take-append-drop}
use lib.Seq.{drop-drop, take_at, drop_at}
use Rattle.laws.specs.Answers.{over}
use Rattle.laws.specs.Opposite.{Arrow, arrow}
use Rattle.opposite.specs.Memory.{put_at, ArrowSlices, arrow_memory, put, Room, Puts}

-- ONE SLICE
-- nothing written changes nothing
pub put_nothing : (n : ℕ) (old : List ℕ) → put_at n [] old ≡ old
unfolding put_at over
put_nothing n old = take-append-drop n old

module _ (n : ℕ) (old : List ℕ) where
  -- the slice keeps its length
  pub put_length : (xs : List ℕ) → n + length xs ≤ length old → length (put_at n xs old) ≡ length old
  unfolding put_at over
  put_length xs h = simp (length-append, length-take, length-drop) (omega arith)

  -- one list and then the next behind it is both at once
  pub put_both : (xs ys : List ℕ) → n + length xs ≤ length old → put_at (n + length xs) ys (put_at n xs old) ≡ put_at n (xs ++ ys) old
  unfolding put_at over
  put_both xs ys h =
      let rest : List ℕ = drop (length xs) (drop n old) in
      let front : List ℕ = take n old ++ xs in
      let long : length front ≡ n + length xs = simp (length-append, length-take) (omega arith) in
      let here : put_at n xs old ≡ front ++ rest = sym (append_assoc (take n old) xs rest) in
      rw (
        here,
        take_at front rest (n + length xs) long,
        drop_at front rest (n + length xs) long,
        length-append,
        drop-drop,
        append_assoc (take n old) xs,
        append_assoc xs ys,
      )

-- one number is written by setting its place
pub put_one : (n : ℕ) (old : List ℕ) (x : ℕ) → n < length old → set old n x ≡ put_at n (x ∷ []) old
unfolding put_at over
put_one n [] x h = absurd (omega arith)
put_one zero (y ∷ old) x h = refl
put_one (suc n) (y ∷ old) x h = ap (λ (r : List ℕ). y ∷ r) (put_one n old x (omega arith))

-- LISTS WRITTEN TO ANY SLICES one behind the other: how a list is put there, and when there is room for it
pub record Writer {Item Slices : Type 0} (put : ℕ → List Item → Slices → Slices) (Room : ℕ → List Item → Slices → Type 0) : Type 0 where
  -- nothing written changes nothing, and one list and then the next behind it is both at once
  pub nothing : (n : ℕ) (l : Slices) → put n [] l ≡ l
  pub both : (n : ℕ) (l : Slices) (xs ys : List Item) → Room n xs l → put (n + length xs) ys (put n xs l) ≡ put n (xs ++ ys) l
  -- room for both is room for the one and, once that is written, for the next
  pub first : (n : ℕ) (l : Slices) (xs ys : List Item) → Room n (xs ++ ys) l → Room n xs l
  pub second : (n : ℕ) (l : Slices) (xs ys : List Item) → Room n (xs ++ ys) l → Room (n + length xs) ys (put n xs l)

-- ALL is to be written from place n on to the slices, which were base; now they are new, place is the next place, and rest is left to write
pub record Underway {Item Slices : Type 0} (put : ℕ → List Item → Slices → Slices) (Room : ℕ → List Item → Slices → Type 0) (n : ℕ)
    (all : List Item) (base new : Slices) (place : ℕ) (rest : List Item) : Type 0 where
  pub by : Writer put Room
  pub done : List Item
  pub together : done ++ rest ≡ all
  pub slices : new ≡ put n done base
  pub at : place ≡ n + length done
  pub room : Room n all base

module _ {Item Slices : Type 0} {put : ℕ → List Item → Slices → Slices} {Room : ℕ → List Item → Slices → Type 0} {n : ℕ}
    {all : List Item} {base : Slices} where
  -- at first nothing is written
  pub start : Writer put Room → Room n all base → Underway put Room n all base base n all
  start by r = record { by = by; done = []; together = refl; slices = sym (by.nothing n base); at = sym (add-zero n); room = r }

  module _ {new : Slices} {place : ℕ} {rest : List Item} (w : Underway put Room n all base new place rest) where
    whole_room : Room n (w.done ++ rest) base
    whole_room = rw w.together w.room

    -- there was room for what is written
    pub done_room : Room n w.done base
    done_room = w.by.first n base w.done rest whole_room

    -- there is room for what comes next
    pub room_next : (xs ys : List Item) → rest ≡ xs ++ ys → Room place xs new
    room_next xs ys e = w.by.first place new xs ys (rw (← e, w.at, w.slices) (w.by.second n base w.done rest whole_room))

    -- it was written, and less is left
    pub put_next : (xs ys : List Item) → rest ≡ xs ++ ys → {newer : Slices} {behind : ℕ} → newer ≡ put place xs new
        → behind ≡ place + length xs → Underway put Room n all base newer behind ys
    put_next xs ys e p b =
        record {
          by = w.by;
          done = w.done ++ xs;
          together = append_assoc w.done xs ys ∙ ap (λ (r : List Item). w.done ++ r) (sym e) ∙ w.together;
          slices = p ∙ ap₂ (λ m l. put m xs l) w.at w.slices ∙ w.by.both n base w.done xs done_room;
          at = omega (arith, b, w.at, length-append w.done xs);
          room = w.room;
        }

    -- what is left can be said in another way
    pub left_as : {other : List Item} → rest ≡ other → Underway put Room n all base new place other
    left_as e = rw (← e) w

    -- at the end all is written
    pub all_put : rest ≡ [] → (new ≡ put n all base) × (place ≡ n + length all)
    all_put e =
        let is_all : w.done ≡ all = sym (append-nil w.done) ∙ ap (λ (r : List Item). w.done ++ r) (sym e) ∙ w.together in
        (w.slices ∙ ap (λ (es : List Item). put n es base) is_all, w.at ∙ ap (λ (es : List Item). n + length es) is_all)

-- THREE SLICES
-- two are the same where their three lists are
same_slices : {f g : List ℕ} {a b : List ℕ} {p q : List ℕ} → f ≡ g → a ≡ b → p ≡ q
    → ◌≡◌ {A = ArrowSlices} (record { from = f; event = a; to = p }) (record { from = g; event = b; to = q })
same_slices {g = g} {a = a} {p = p} x y z =
    ap (λ f. record { from = f; event = a; to = p }) x ∙ ap₂ (λ a p. record { from = g; event = a; to = p }) y z

module _ (n : ℕ) (l : ArrowSlices) where
  puts_nothing : put n [] l ≡ l
  unfolding put
  puts_nothing = same_slices (put_nothing n l.from) (put_nothing n l.event) (put_nothing n l.to)

  puts_both : (xs ys : List Arrow) → Room n xs l → put (n + length xs) ys (put n xs l) ≡ put n (xs ++ ys) l
  unfolding put
  puts_both xs ys r = same_slices (column (λ e. e.from) l.from r.from_room) (column (λ e. e.event) l.event r.event_room)
      (column (λ e. e.to) l.to r.to_room)
    where
      column : (f : Arrow → ℕ) (old : List ℕ) → n + length xs ≤ length old
          → put_at (n + length xs) (map f ys) (put_at n (map f xs) old) ≡ put_at n (map f (xs ++ ys)) old
      column f old h =
          rw map-append (simp length-map at (put_both n old (map f xs) (map f ys) (simp length-map h)))

  -- one arrow is written by setting its place in each
  pub puts_one : (p a q : ℕ) → Room n (arrow p a q ∷ []) l
      → Puts n (arrow p a q ∷ []) l (arrow_memory (set l.from n p) (set l.event n a) (set l.to n q)) (n + 1)
  unfolding put arrow
  puts_one p a q r =
      record {
        slices =
            same_slices (put_one n l.from p (omega (arith, r.from_room))) (put_one n l.event a (omega (arith, r.event_room)))
            (put_one n l.to q (omega (arith, r.to_room)));
        behind = refl;
      }

-- the slices are as long as they were
pub record SameLengths (old new : ArrowSlices) : Type 0 where
  pub from : length new.from ≡ length old.from
  pub event : length new.event ≡ length old.event
  pub to : length new.to ≡ length old.to

-- writing where there is room leaves them so
puts_lengths : (n : ℕ) (l : ArrowSlices) (es : List Arrow) → Room n es l → SameLengths l (put n es l)
unfolding put
puts_lengths n l es r =
    record {
      from = put_length n l.from (map (λ e. e.from) es) (simp length-map r.from_room);
      event = put_length n l.event (map (λ e. e.event) es) (simp length-map r.event_room);
      to = put_length n l.to (map (λ e. e.to) es) (simp length-map r.to_room);
    }

-- there is room for no more than before in slices as long as before
less_room : {n m : ℕ} {xs ys : List Arrow} {old new : ArrowSlices} → m + length ys ≤ n + length xs → SameLengths old new → Room n xs old
    → Room m ys new
less_room h s r =
    record {
      from_room = omega (arith, r.from_room, s.from);
      event_room = omega (arith, r.event_room, s.event);
      to_room = omega (arith, r.to_room, s.to);
    }

arrows_writer : Writer put Room
arrows_writer = record { nothing = puts_nothing; both = puts_both; first = first; second = second }
  where
    first : (n : ℕ) (l : ArrowSlices) (xs ys : List Arrow) → Room n (xs ++ ys) l → Room n xs l
    first n l xs ys r = less_room (omega (arith, length-append xs ys)) (record { from = refl; event = refl; to = refl }) r

    second : (n : ℕ) (l : ArrowSlices) (xs ys : List Arrow) → Room n (xs ++ ys) l → Room (n + length xs) ys (put n xs l)
    second n l xs ys r = less_room (omega (arith, length-append xs ys)) (puts_lengths n l xs (first n l xs ys r)) r

abbrev pub Writing : ℕ → List Arrow → ArrowSlices → ArrowSlices → ℕ → List Arrow → Type 0
Writing = Underway put Room

-- at first nothing is written
pub begin : {n : ℕ} {all : List Arrow} {base : ArrowSlices} → Room n all base → Writing n all base base n all
begin = start arrows_writer

module _ {n : ℕ} {all : List Arrow} {base new : ArrowSlices} {place : ℕ} {rest : List Arrow} (w : Writing n all base new place rest) where
  -- the slices are as long as at first
  pub same_lengths : SameLengths base new
  same_lengths = rw w.slices (puts_lengths n base w.done (done_room w))

  -- the next were written
  pub write_next : (xs ys : List Arrow) → rest ≡ xs ++ ys → {newer : ArrowSlices} {behind : ℕ} → Puts place xs new newer behind
      → Writing n all base newer behind ys
  write_next xs ys e p = put_next w xs ys e p.slices p.behind

  -- at the end all is written
  pub all_written : rest ≡ [] → Puts n all base new place
  all_written e = record { slices = (all_put w e).0; behind = (all_put w e).1 }
