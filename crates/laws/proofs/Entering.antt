-- What entering does to a table in the making: a cut one stands still, and else the value is there, or is new, or finds no room.
use Prim.Native.Nat.{ℕ, zero, suc, ◌≤◌, ◌<◌}
use mathlib.Core.Path.{◌≡◌, refl, sym, ap, ◌∙◌, subst}
use mathlib.Core.Bool.{Bool, true, false}
use mathlib.Core.List.{[], ◌∷◌, ◌++◌}
use mathlib.Core.Option.{Option, none, some}
use lib.ListN.{length, get_elem?}
use lib.Dec.{ltb}
use borrow.Author.Tests.{ltb-true, ltb-false}
use Rattle.laws.specs.Tables.{WordValue, Entry, Table, stored, enter, through_events, through_entries}

-- equal tables are cut alike
pub cut_same : {Value : Type 0} {t t' : Table Value} → t ≡ t' → t.cut ≡ t'.cut
cut_same p = rw p

-- what becomes of a table that is not cut when e is entered
pub data Entered {Value : Type 0} (Val : WordValue Value) (room : ℕ) (e : Entry Value) (t t' : Table Value) : Type 0 where
  there : stored Val e.value t.entries ≡ true → t' ≡ t → Entered Val room e t t'
  new : stored Val e.value t.entries ≡ false → length t.entries < room
      → t' ≡ record { entries = t.entries ++ (e ∷ []); cut = false } → Entered Val room e t t'
  full : stored Val e.value t.entries ≡ false → room ≤ length t.entries → t' ≡ record { entries = t.entries; cut = true }
      → Entered Val room e t t'

module _ {Value : Type 0} (Val : WordValue Value) (room : ℕ) where
  -- entering does one of the three
  pub entered : (e : Entry Value) (t : Table Value) → t.cut ≡ false → Entered Val room e t (enter Val room e t)
  unfolding enter
  entered e t h = go (stored Val e.value t.entries) (ltb (length t.entries) room) refl refl
    where
      go : (s l : Bool) → stored Val e.value t.entries ≡ s → ltb (length t.entries) room ≡ l
          → Entered Val room e t (enter Val room e t)
      go true l p q = there p (rw (h, p))
      go false true p q = new p (ltb-true _ _ q) (rw (h, p, q))
      go false false p q = full p (ltb-false _ _ q) (rw (h, p, q))

  -- what entering keeps is kept whatever the events
  events_keep : (P : Table Value → Type 0) → ((e : Entry Value) (t : Table Value) → P t → P (enter Val room e t))
      → (i : ℕ) (x : Option Value) (d a : ℕ) (t : Table Value) → P t → P (through_events Val room i x d a t)
  unfolding through_events
  events_keep P keeps i x zero a t h = h
  events_keep P keeps i x (suc d) a t h = events_keep P keeps i x d (suc a) _ (keeps _ t h)

  -- a cut table stands still
  pub enter_still : (e : Entry Value) (t : Table Value) → t.cut ≡ true → enter Val room e t ≡ t
  unfolding enter
  enter_still e t h = rw h

  -- whatever the events
  pub events_still : (i : ℕ) (x : Option Value) (d a : ℕ) (t : Table Value) → t.cut ≡ true → through_events Val room i x d a t ≡ t
  events_still i x d a t h = events_keep (λ s. s ≡ t) (λ e s p. ap (enter Val room e) p ∙ enter_still e t h) i x d a t refl

module _ {Value : Type 0} (Val : WordValue Value) (k room : ℕ) where
  -- where no entry is left, the table is made
  pub entries_end : (d i : ℕ) (t : Table Value) → get_elem? t.entries i ≡ none → through_entries Val k room d i t ≡ t
  unfolding through_entries
  entries_end zero i t p = refl
  entries_end (suc d) i t p = rw (p, through_entries)

  -- an entry goes by all events, and then the next one
  pub entries_on : (d i : ℕ) (t : Table Value) (e : Entry Value) → get_elem? t.entries i ≡ some e
      → through_entries Val k room (suc d) i t ≡ through_entries Val k room d (suc i) (through_events Val room i (some e.value) k 0 t)
  unfolding through_entries
  entries_on d i t e p = rw (p, through_entries)

  -- what entering keeps is kept whatever the entries
  pub entries_keep : (P : Table Value → Type 0) → ((e : Entry Value) (t : Table Value) → P t → P (enter Val room e t))
      → (d i : ℕ) (t : Table Value) → P t → P (through_entries Val k room d i t)
  unfolding through_entries
  entries_keep P keeps zero i t h = h
  entries_keep P keeps (suc d) i t h = go (get_elem? t.entries i) refl (entries_keep P keeps d (suc i))
    where
      go : (o : Option (Entry Value)) → get_elem? t.entries i ≡ o → ((s : Table Value) → P s → P (through_entries Val k room d (suc i) s))
          → P (through_entries Val k room (suc d) i t)
      go none p rest = subst P (sym (entries_end (suc d) i t p)) h
      go (some e) p rest = subst P (sym (entries_on d i t e p)) (rest _ (events_keep Val room P keeps i (some e.value) k 0 t h))

  -- a cut table stands still whatever the entries
  pub entries_still : (d i : ℕ) (t : Table Value) → t.cut ≡ true → through_entries Val k room d i t ≡ t
  entries_still d i t h = entries_keep (λ s. s ≡ t) (λ e s p. ap (enter Val room e) p ∙ enter_still Val room e t h) d i t refl
