-- How a table is filled, whatever its values and slices: entering one entry, then what the events make of one value, then of every entry.
-- A loop that fills stands between the slices as they were lent and a whole table, which what it has still to do leads to.
use Prim.Native.Nat.{ℕ, zero, suc, ◌+◌, ◌-◌, ◌^◌, ◌≤◌, ◌<◌}
use native.Mathlib.Nat.{sub-zero}
use native.Mathlib.Numerals.{add-one}
use native.Mathlib.Omega.{arith}
use mathlib.Core.Path.{◌≡◌, refl, sym, ap, ◌∙◌}
use mathlib.Core.Bool.{Bool, true, false}
use mathlib.Core.Logic.{⊎_elim}
use mathlib.Core.Option.{Option, none, some}
use mathlib.Core.List.{List, [], ◌∷◌, ◌++◌}
use lib.ListN.{length}
use lib.Dec.{T, ltb}
use mir.Syntax.{w64}
use mir.Val.{Fits}
use mir.Facts.{Fits-below}
use borrow.Author.Tests.{lt-ltb, le-ltb}
use Rattle.std.proofs.Common.{Result, Ok, Err, IsErr, IsErrAnd}
use Rattle.std.proofs.lemmas.Result.{err_from_is_err_and}
use Rattle.laws.specs.Tables.{WordValue, Entry, Table, no_entry, no_event, stored, enter, through_events, through_entries, begun}
use Rattle.laws.proofs.Booleans.{inside, either, never}
use Rattle.laws.proofs.Places.{place_below, past_end, length_one_more}
use Rattle.laws.proofs.Members.{member, stands_in, some_member, member_some}
use Rattle.laws.proofs.Entering.{Entered, there, new, full, entered, enter_still, events_still, entries_end, entries_on, entries_still}
use Rattle.closing.specs.Rows.{Layout}
use Rattle.closing.specs.Memory.{going, Fills}
use Rattle.closing.specs.declared.table.Full.{Full}

-- what `?` passes on
pub passed_on : {A E : Type 0} (r : Result A E) {e : E} → IsErr r × IsErrAnd r (λ y. y ≡ e) → r ≡ Err e
passed_on r h = let (y, is, same) = err_from_is_err_and r h.1 in is ∙ ap Err same

-- a list of no entries
no_entries : {Value : Type 0} {es : List (Entry Value)} → length es ≡ 0 → es ≡ []
no_entries {es = []} h = refl
no_entries {es = e ∷ es} h = absurd (omega arith)

-- a turn of a loop that has come to one of n places in the room brings its end nearer
pub nearer : (i : ℕ) {n room : ℕ} → i < n → n ≤ room → room - (i + 1) < room - i
nearer i h l = omega arith

-- and leaves its counter small
pub counts_on : (i : ℕ) {n room limit : ℕ} → i < n → n ≤ room → room ≤ limit → T (ltb limit (2 ^ 64)) → Fits w64 (i + 1)
counts_on i {limit = limit} h l limited small = Fits-below {n = limit} small (omega arith)

-- WHERE A LOOP STANDS: the slices were old and are now filled by the n entries es
abbrev pub Going : {Value Slices : Type 0} → (List (Entry Value) → Slices → Slices) → ℕ → Slices → Slices → ℕ → List (Entry Value) → Type 0
Going write room old now n es = Fills write room (going es) old now (Ok n)

module _ {Value : Type 0} (Val : WordValue Value) (room : ℕ) where
  longer : {e : Entry Value} {t t' : Table Value} → Entered Val room e t t' → length t.entries ≤ length t'.entries
  longer (there _ p) = rw p (omega arith)
  longer {e} {t} (new _ _ p) = rw p (omega (arith, length_one_more t.entries e))
  longer (full _ _ p) = rw p (omega arith)

  -- entering takes no entry away
  enter_longer : (e : Entry Value) (t : Table Value) → length t.entries ≤ length (enter Val room e t).entries
  enter_longer e t =
      ⊎_elim (λ h. rw (enter_still Val room e t h) (omega arith)) (λ h. longer (entered Val room e t h)) (either t.cut)

  -- nor do the events
  events_longer : (i : ℕ) (x : Option Value) (d a : ℕ) (t : Table Value)
      → length t.entries ≤ length (through_events Val room i x d a t).entries
  unfolding through_events
  events_longer i x zero a t = omega arith
  events_longer i x (suc d) a t =
      let e : Entry Value = record { value = Val.next x a; from = i; event = a } in
      omega (arith, enter_longer e t, events_longer i x d (suc a) (enter Val room e t))

module _ {Value Slices : Type 0} {write : List (Entry Value) → Slices → Slices} {room : ℕ} {t : Table Value} {old now : Slices} where
  -- where filling cut the table, and what is still to do leaves a cut table as it is, the whole table is filled
  pub stopped : {full : Full} {whole : Table Value} → Fills write room t old now (Err full) → (t.cut ≡ true → whole ≡ t)
      → Fills write room whole old now (Err full)
  stopped f still = rw (still (sym f.cut)) f

  module _ {n : ℕ} (f : Fills write room t old now (Ok n)) where
    -- where it did not, a loop goes on
    uncut : t ≡ going t.entries
    uncut = ap (λ (b : Bool). record { entries = t.entries; cut = b }) (sym f.cut)

    pub goes : Going write room old now n t.entries
    goes = record { slices = f.slices; count = f.count; cut = refl; within = f.within }

-- what is filled where a loop ends is what the lent rows hold then
pub at_the_end : {Value Slices Rows : Type 0} (slices : Rows → Slices) {write : List (Entry Value) → Slices → Slices} {room : ℕ} {t : Table Value}
    {old : Slices} {x y : Rows} {answer : Result ℕ Full} → Fills write room t old (slices x) answer → y ≡ x
    → Fills write room t old (slices y) answer
at_the_end slices f e = rw e f

-- THE LOOP OVER EVENTS, at event a of k: what the events from a on make of the entries so far is the whole table
pub record ByEvents {Value Slices : Type 0} (Val : WordValue Value) (write : List (Entry Value) → Slices → Slices) (room i : ℕ)
    (x : Option Value) (k : ℕ) (whole : Table Value) (old now : Slices) (n a : ℕ) : Type 0 where
  pub es : List (Entry Value)
  pub stands : Going write room old now n es
  pub rest : through_events Val room i x (k - a) a (going es) ≡ whole

-- THE LOOP OVER ENTRIES, at entry number i: what the entries from i on lead to is the whole table
pub record ByEntries {Value Slices : Type 0} (Val : WordValue Value) (write : List (Entry Value) → Slices → Slices) (k room : ℕ)
    (whole : Table Value) (old now : Slices) (n i : ℕ) : Type 0 where
  pub es : List (Entry Value)
  pub stands : Going write room old now n es
  pub rest : through_entries Val k room (room - i) i (going es) ≡ whole
  pub at_most : i ≤ n

module _ {Value Slices : Type 0} {write : List (Entry Value) → Slices → Slices} {read : Slices → ℕ → List (Entry Value)}
    {at : Slices → ℕ → Entry Value} {room_for : Slices → ℕ} (L : Layout write read at room_for) where
  -- the value is among the entries read exactly if it stands in one of their places
  module _ (Val : WordValue Value) (x : Value) (l : Slices) (n : ℕ) where
    stored_at : (i : ℕ) → i < n → Val.same (at l i).value x ≡ true → stored Val x (read l n) ≡ true
    unfolding stored
    stored_at i h same = member_some (λ e. Val.same e.value x) (member (read l n) (i, L.each l n i h)) same

    stored_nowhere : ((i : ℕ) → i < n → Val.same (at l i).value x ≡ false) → stored Val x (read l n) ≡ false
    unfolding stored
    stored_nowhere nowhere =
        ⊎_elim
        (λ h.
        let (e, m, s) = some_member (λ e. Val.same e.value x) (read l n) h in
        let (i, place) = stands_in m in
        let below : i < n = omega (arith, place_below (read l n) i place, L.counted l n) in
        never (sym (nowhere i below) ∙ ap (λ e. Val.same e.value x) (inside (sym (L.each l n i below) ∙ place)) ∙ s))
        (λ p. p) (either (stored Val x (read l n)))

    pub is_stored : (found : Bool) → (found ≡ true → (i : ℕ) × (i < n) × (Val.same (at l i).value x ≡ true))
        → (found ≡ false → (i : ℕ) → i < n → Val.same (at l i).value x ≡ false) → found ≡ stored Val x (read l n)
    is_stored true somewhere nowhere = let (i, h, same) = somewhere refl in sym (stored_at i h same)
    is_stored false somewhere nowhere = sym (stored_nowhere (nowhere refl))

  -- where a loop begins
  start : {l : Slices} {n : ℕ} → n ≤ room_for l → Going write (room_for l) l l n (read l n)
  start {l} {n} h = record { slices = sym (L.same l n h); count = sym (L.counted l n); cut = refl; within = h }

  module _ {old now : Slices} {n : ℕ} {es : List (Entry Value)} (g : Going write (room_for old) old now n es) where
    -- what is read there are the entries written
    entries_read : read now n ≡ es
    entries_read = rw (g.slices, g.count) (L.back es old)

    -- there is as much room as there was
    pub room_still : room_for now ≡ room_for old
    room_still = rw g.slices (L.room_kept es old (omega (arith, g.count, g.within)))

    -- filling the slices as they are now fills them as they were
    onward : {t : Table Value} {new : Slices} {answer : Result ℕ Full} → length es ≤ length t.entries
        → Fills write (room_for old) t now new answer → Fills write (room_for old) t old new answer
    onward {t} h f =
        record {
          slices = f.slices ∙ ap (write t.entries) g.slices ∙ L.again es t.entries old h;
          count = f.count;
          cut = f.cut;
          within = f.within;
        }

  -- ENTERING ONE ENTRY e
  module _ (Val : WordValue Value) {l : Slices} {n : ℕ} (h : n ≤ room_for l) (e : Entry Value) where
    -- the value is there
    pub fills_there : stored Val e.value (read l n) ≡ true → Fills write (room_for l) (enter Val (room_for l) e (going (read l n))) l l (Ok n)
    unfolding enter
    fills_there p = rw p (start h)

    -- it is new, and there is no room
    pub fills_full : stored Val e.value (read l n) ≡ false → room_for l ≤ n
        → Fills write (room_for l) (enter Val (room_for l) e (going (read l n))) l l (Err (record { count = n }))
    unfolding enter
    fills_full p q =
        rw (p, le-ltb (length (read l n)) (room_for l) (omega (arith, L.counted l n)))
        (record { slices = (start h).slices; count = (start h).count; cut = refl; within = h })

    -- it is new, and there is room
    pub fills_new : {now : Slices} → stored Val e.value (read l n) ≡ false → n < room_for l → now ≡ write (read l n ++ (e ∷ [])) l
        → Fills write (room_for l) (enter Val (room_for l) e (going (read l n))) l now (Ok (n + 1))
    unfolding enter
    fills_new p q w =
        rw (p, lt-ltb (length (read l n)) (room_for l) (omega (arith, L.counted l n)))
        (record { slices = w; count = omega (arith, length_one_more (read l n) e, L.counted l n); cut = refl; within = omega arith })

  -- where no entry is read, none stands there
  none_read : (l : Slices) → read l 0 ≡ []
  none_read l = no_entries (L.counted l 0)

  module _ (Val : WordValue Value) where
    -- the table begins with what the events make of the empty word where that has no value, and otherwise with its value
    module _ {first : Option Value} (k : ℕ) {old new : Slices} {answer : Result ℕ Full} where
      pub begun_by_events : none ≡ first
          → Fills write (room_for old) (through_events Val (room_for old) no_entry none k 0 (going (read old 0))) old new answer
          → Fills write (room_for old) (begun Val k (room_for old) first) old new answer
      unfolding begun
      begun_by_events is f = rw (← is) (rw (none_read old) at f)

      pub begun_by_value : {x : Value} → some x ≡ first
          → Fills write (room_for old) (enter Val (room_for old) (record { value = x; from = no_entry; event = no_event }) (going (read old 0))) old
          new answer → Fills write (room_for old) (begun Val k (room_for old) first) old new answer
      unfolding begun
      begun_by_value is f = rw (← is) (rw (none_read old) at f)

    module _ {i : ℕ} {x : Option Value} {k : ℕ} {whole : Table Value} {old now : Slices} {n a : ℕ}
        (s : ByEvents Val write (room_for old) i x k whole old now n a) where
      -- it ends
      pub events_done : k ≤ a → Fills write (room_for old) whole old now (Ok n)
      unfolding through_events
      events_done h =
          let none_left : k - a ≡ 0 = omega arith in
          rw (← (rw none_left at s.rest)) s.stands

      -- a turn, in which v, what event a makes of x, is entered
      module _ (h : a < k) {new : Slices} {v : Value} {answer : Result ℕ Full} (v_is : v ≡ Val.next x a)
          (f : Fills write (room_for now) (enter Val (room_for now) (record { value = v; from = i; event = a }) (going (read now n))) now new answer) where
        abbrev with_a : Table Value
        with_a = enter Val (room_for old) (record { value = Val.next x a; from = i; event = a }) (going s.es)

        fills_a : Fills write (room_for old) with_a old new answer
        fills_a =
            onward s.stands (enter_longer Val (room_for old) _ (going s.es))
            (rw (v_is, entries_read s.stands, room_still s.stands) at f)

        rest_a : through_events Val (room_for old) i x (k - suc a) (suc a) with_a ≡ whole
        unfolding through_events
        rest_a = let one_more : k - a ≡ suc (k - suc a) = omega arith in rw one_more at s.rest

      -- it cuts the table, which is then the whole
      pub events_cut : (h : a < k) {new : Slices} {v : Value} {full : Full} → v ≡ Val.next x a
          → Fills write (room_for now) (enter Val (room_for now) (record { value = v; from = i; event = a }) (going (read now n))) now new (Err full)
          → Fills write (room_for old) whole old new (Err full)
      events_cut h v_is f =
          stopped (fills_a h v_is f) (λ c. sym (rest_a h v_is f) ∙ events_still Val (room_for old) i x (k - suc a) (suc a) (with_a h v_is f) c)

      -- or the loop goes on
      pub events_next : (h : a < k) {new : Slices} {v : Value} {m : ℕ} → v ≡ Val.next x a
          → Fills write (room_for now) (enter Val (room_for now) (record { value = v; from = i; event = a }) (going (read now n))) now new (Ok m)
          → ByEvents Val write (room_for old) i x k whole old new m (a + 1)
      events_next h v_is f =
          record {
            es = (with_a h v_is f).entries;
            stands = goes (fills_a h v_is f);
            rest = rw (add-one, ← uncut (fills_a h v_is f)) (rest_a h v_is f);
          }

    -- the loop over entries begins where the first values were entered, unless these cut the table, which is then the whole
    pub begin_cut : (k : ℕ) {t : Table Value} {old begun : Slices} {full : Full} → Fills write (room_for old) t old begun (Err full)
        → Fills write (room_for old) (through_entries Val k (room_for old) (room_for old) 0 t) old begun (Err full)
    begin_cut k {t} {old} b = stopped b (entries_still Val k (room_for old) (room_for old) 0 t)

    pub entries_begin : (k : ℕ) {t : Table Value} {old begun : Slices} {n : ℕ} → Fills write (room_for old) t old begun (Ok n)
        → ByEntries Val write k (room_for old) (through_entries Val k (room_for old) (room_for old) 0 t) old begun n 0
    entries_begin k {t} b = record { es = t.entries; stands = goes b; rest = rw (sub-zero, ← uncut b); at_most = omega arith }

    module _ {k : ℕ} {whole : Table Value} {old now : Slices} {n i : ℕ} (s : ByEntries Val write k (room_for old) whole old now n i) where
      -- it ends
      pub entries_done : n ≤ i → Fills write (room_for old) whole old now (Ok n)
      entries_done h =
          let none_left = past_end s.es i (omega (arith, s.stands.count)) in
          rw (← s.rest, entries_end Val k (room_for old) (room_for old - i) i (going s.es) none_left) s.stands

      -- a turn, in which what the events make of v, the value of entry number i, is entered
      module _ (h : i < n) {new : Slices} {v : Value} {answer : Result ℕ Full} (v_is : v ≡ (at now i).value)
          (f : Fills write (room_for now) (through_events Val (room_for now) i (some v) k 0 (going (read now n))) now new answer) where
        abbrev with_i : Table Value
        with_i = through_events Val (room_for old) i (some (at now i).value) k 0 (going s.es)

        longer_i : length s.es ≤ length with_i.entries
        longer_i = events_longer Val (room_for old) i (some (at now i).value) k 0 (going s.es)

        fills_i : Fills write (room_for old) with_i old new answer
        fills_i = onward s.stands longer_i (rw (v_is, entries_read s.stands, room_still s.stands) at f)

        rest_i : through_entries Val k (room_for old) (room_for old - suc i) (suc i) with_i ≡ whole
        rest_i =
            let one_more : room_for old - i ≡ suc (room_for old - suc i) = omega (arith, s.stands.within) in
            sym (entries_on Val k (room_for old) (room_for old - suc i) i (going s.es) (at now i) (rw (entries_read s.stands) at (L.each now n i h)))
            ∙ rw one_more at s.rest

      -- it cuts the table, which is then the whole
      pub entries_cut : (h : i < n) {new : Slices} {v : Value} {full : Full} → v ≡ (at now i).value
          → Fills write (room_for now) (through_events Val (room_for now) i (some v) k 0 (going (read now n))) now new (Err full)
          → Fills write (room_for old) whole old new (Err full)
      entries_cut h v_is f =
          stopped (fills_i h v_is f)
          (λ d. sym (rest_i h v_is f) ∙ entries_still Val k (room_for old) (room_for old - suc i) (suc i) (with_i h v_is f) d)

      -- or the loop goes on
      pub entries_next : (h : i < n) {new : Slices} {v : Value} {m : ℕ} → v ≡ (at now i).value
          → Fills write (room_for now) (through_events Val (room_for now) i (some v) k 0 (going (read now n))) now new (Ok m)
          → ByEntries Val write k (room_for old) whole old new m (i + 1)
      entries_next h v_is f =
          let longer_now = longer_i h v_is f in
          let filled = fills_i h v_is f in
          record {
            es = (with_i h v_is f).entries;
            stands = goes filled;
            rest = rw (add-one, ← uncut filled) (rest_i h v_is f);
            at_most = omega (arith, longer_now, filled.count, s.stands.count);
          }
