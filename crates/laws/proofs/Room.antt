-- A table with a room is the first part of one that is not cut. The two are made side by side, with the rooms r and R: they are level
-- until the first one is full, from then on it stands still while the other one grows.
use Prim.Native.Nat.{ℕ, zero, suc, ◌+◌, ◌≤◌, ◌<◌}
use native.Mathlib.Omega.{arith}
use mathlib.Core.Path.{◌≡◌, refl, sym, ◌∙◌, subst}
use mathlib.Core.Bool.{Bool, true, false}
use mathlib.Core.List.{[], ◌∷◌}
use mathlib.Core.Option.{Option, none, some}
use lib.ListN.{length, take, get_elem?}
use lib.Seq.{take_all, take-append-le}
use borrow.Author.Tests.{lt-ltb, le-ltb}
use Rattle.laws.specs.Tables.{WordValue, Entry, Table, UpTo, no_entry, enter, through_events, through_entries, begun, made}
use Rattle.laws.proofs.Booleans.{never}
use Rattle.laws.proofs.Places.{past_end, length_one_more}
use Rattle.laws.proofs.Entering.{cut_same, Entered, there, new, full, entered, enter_still}
use Rattle.laws.proofs.Entering.{entries_end, entries_on, entries_keep, entries_still}

-- a table that is not cut, within both rooms
record InBoth {Value : Type 0} (r R : ℕ) (t : Table Value) : Type 0 where
  uncut : t.cut ≡ false
  first : length t.entries ≤ r
  second : length t.entries ≤ R

-- the table t with room r beside the table T with room R: level, or t is full and T has more, or T is cut, and nothing is said
data Beside {Value : Type 0} (r R : ℕ) (t T : Table Value) : Type 0 where
  level : t ≡ T → InBoth r R t → Beside r R t T
  past : t.cut ≡ true → t.entries ≡ take r T.entries → r < length T.entries → Beside r R t T
  second_cut : T.cut ≡ true → Beside r R t T

module _ {Value : Type 0} {r R : ℕ} where
  -- without entries, tables are level
  nothing_yet : Beside {Value = Value} r R (record { entries = []; cut = false }) (record { entries = []; cut = false })
  nothing_yet = level refl (record { uncut = refl; first = omega arith; second = omega arith })

  -- beside a table that is not cut stands its first part
  beside_first : {t T : Table Value} → Beside r R t T → T.cut ≡ false → UpTo r T.entries t
  beside_first {t} (level p w) h =
      rw (← p)
      (record { first = sym (take_all r t.entries w.first); cut = w.uncut ∙ sym (le-ltb r (length t.entries) w.first) })
  beside_first {T = T} (past c f l) h = record { first = f; cut = c ∙ sym (lt-ltb r (length T.entries) l) }
  beside_first (second_cut q) h = never (sym h ∙ q)

module _ {Value : Type 0} (Val : WordValue Value) (r R : ℕ) where
  -- level tables, and the same entry for both
  level_enter : {e : Entry Value} {t t' T' : Table Value} → InBoth r R t → Entered Val r e t t' → Entered Val R e t T' → Beside r R t' T'
  level_enter {e} {t} w (there s p) (there _ q) = level (p ∙ sym q) (subst (InBoth r R) (sym p) w)
  level_enter {e} {t} w (new s l p) (new _ L q) =
      level (p ∙ sym q)
      (let longer = length_one_more t.entries e in
      subst (InBoth r R) (sym p) (record { uncut = refl; first = omega arith; second = omega arith }))
  level_enter {e} {t} w (full s l p) (new _ L q) =
      past (cut_same p)
      (rw (p, q) (sym (take-append-le r t.entries (e ∷ []) l ∙ take_all r t.entries w.first)))
      (rw q (omega (arith, length_one_more t.entries e)))
  level_enter w (there s p) (new n L q) = never (sym n ∙ s)
  level_enter w (new n l p) (there s q) = never (sym n ∙ s)
  level_enter w (full n l p) (there s q) = never (sym n ∙ s)
  level_enter w h (full n L q) = second_cut (cut_same q)

  -- a full table, and an entry for the other one
  past_enter : {e : Entry Value} {t T T' : Table Value} → t.cut ≡ true → t.entries ≡ take r T.entries → r < length T.entries
      → Entered Val R e T T' → Beside r R t T'
  past_enter h f l (there s q) = past h (rw q f) (rw q l)
  past_enter {e} {t} {T} h f l (new s L q) =
      past h
      (rw q (f ∙ sym (take-append-le r T.entries (e ∷ []) (omega arith))))
      (rw q (omega (arith, length_one_more T.entries e)))
  past_enter h f l (full s L q) = second_cut (cut_same q)

  -- a table that is cut stays so
  cut_enter : (e : Entry Value) (t T : Table Value) → T.cut ≡ true → Beside r R t (enter Val R e T)
  cut_enter e t T h = second_cut (cut_same (enter_still Val R e T h) ∙ h)

  -- tables side by side stay so when the same entry is entered in both
  beside_enter : (e : Entry Value) {t T : Table Value} → Beside r R t T → Beside r R (enter Val r e t) (enter Val R e T)
  beside_enter e {t} {T} (level p w) =
      subst (λ (x : Table Value). Beside r R (enter Val r e t) (enter Val R e x)) p
      (level_enter w (entered Val r e t w.uncut) (entered Val R e t w.uncut))
  beside_enter e {t} {T} (past h f l) =
      subst (λ (x : Table Value). Beside r R x (enter Val R e T)) (sym (enter_still Val r e t h)) (go T.cut refl)
    where
      go : (b : Bool) → T.cut ≡ b → Beside r R t (enter Val R e T)
      go true q = cut_enter e t T q
      go false q = past_enter h f l (entered Val R e T q)
  beside_enter e {t} {T} (second_cut q) = cut_enter e _ T q

  -- by the same events
  beside_events : (i : ℕ) (x : Option Value) (d a : ℕ) {t T : Table Value} → Beside r R t T
      → Beside r R (through_events Val r i x d a t) (through_events Val R i x d a T)
  unfolding through_events
  beside_events i x zero a b = b
  beside_events i x (suc d) a b = beside_events i x d (suc a) (beside_enter _ b)

module _ {Value : Type 0} (Val : WordValue Value) (k r R : ℕ) where
  -- by the entries: once the first table is full, or the second is cut, that one stands still whatever the other does
  beside_entries : (d D i : ℕ) → ((t : Table Value) → InBoth r R t → Beside r R (through_entries Val k r d i t) (through_entries Val k R D i t))
      → {t T : Table Value} → Beside r R t T → Beside r R (through_entries Val k r d i t) (through_entries Val k R D i T)
  beside_entries d D i go {t} (level p w) =
      subst (λ (x : Table Value). Beside r R (through_entries Val k r d i t) (through_entries Val k R D i x)) p (go t w)
  beside_entries d D i go {t} {T} (past h f l) =
      subst (λ (x : Table Value). Beside r R x (through_entries Val k R D i T)) (sym (entries_still Val k r d i t h))
      (entries_keep Val k R (Beside r R t)
      (λ e x b. subst (λ (y : Table Value). Beside r R y (enter Val R e x)) (enter_still Val r e t h) (beside_enter Val r R e b))
      D i T (past h f l))
  beside_entries d D i go {t} {T} (second_cut q) = second_cut (cut_same (entries_still Val k R D i T q) ∙ q)

  -- level tables whose entries are run through
  level_end : (d D i : ℕ) (t : Table Value) → InBoth r R t → get_elem? t.entries i ≡ none
      → Beside r R (through_entries Val k r d i t) (through_entries Val k R D i t)
  level_end d D i t w p = level e (subst (InBoth r R) (sym (entries_end Val k r d i t p)) w)
    where
      e : through_entries Val k r d i t ≡ through_entries Val k R D i t
      e = entries_end Val k r d i t p ∙ sym (entries_end Val k R D i t p)

  -- level tables: the rooms bound the entries, so d and D suffice
  level_entries : (d D i : ℕ) → d + i ≡ r → D + i ≡ R → (t : Table Value) → InBoth r R t
      → Beside r R (through_entries Val k r d i t) (through_entries Val k R D i t)
  level_entries zero D i p q t w = level_end zero D i t w (past_end t.entries i (omega arith))
  level_entries (suc d) zero i p q t w = level_end (suc d) zero i t w (past_end t.entries i (omega arith))
  level_entries (suc d) (suc D) i p q t w = go (get_elem? t.entries i) refl (level_entries d D (suc i) (omega arith) (omega arith))
    where
      go : (o : Option (Entry Value)) → get_elem? t.entries i ≡ o
          → ((s : Table Value) → InBoth r R s → Beside r R (through_entries Val k r d (suc i) s) (through_entries Val k R D (suc i) s))
          → Beside r R (through_entries Val k r (suc d) i t) (through_entries Val k R (suc D) i t)
      go none h rest = level_end (suc d) (suc D) i t w h
      go (some e) h rest =
          rw (entries_on Val k r d i t e h, entries_on Val k R D i t e h)
          (beside_entries d D (suc i) rest (beside_events Val r R i (some e.value) k 0 (level refl w)))

  -- where tables begin
  beside_begun : (x : Option Value) → Beside r R (begun Val k r x) (begun Val k R x)
  unfolding begun
  beside_begun none = beside_events Val r R no_entry none k 0 nothing_yet
  beside_begun (some x) = beside_enter Val r R _ nothing_yet

-- a table with a room is the first part of one that is not cut
pub room_first : {Value : Type 0} (Val : WordValue Value) (k r R : ℕ) → (made Val k R).cut ≡ false
    → UpTo r (made Val k R).entries (made Val k r)
unfolding made
room_first Val k r R h =
    beside_first
    (beside_entries Val k r R r R 0 (level_entries Val k r R r R 0 (omega arith) (omega arith)) (beside_begun Val k r R (Val.of [])))
    h
