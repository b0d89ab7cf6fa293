-- The entries of a table in its slices: what a column holds after they were written, the entries that are read back, and what slices that
-- are columns are to a table.
use Prim.Native.Nat.{ℕ, zero, suc, ◌≤◌, ◌<◌}
use native.Mathlib.Omega.{arith}
use mathlib.Core.Path.{◌≡◌, refl, sym, ap, ◌∙◌}
use mathlib.Core.Option.{some}
use mathlib.Core.List.{List, [], ◌∷◌, ◌++◌, map}
use lib.ListN.{length, get_or, set, get_elem?, length-map}
use Rattle.laws.specs.Bits.{counted}
use Rattle.laws.specs.Tables.{Entry}
use Rattle.laws.specs.Answers.{over}
use Rattle.laws.proofs.Booleans.{inside, not_nothing}
use Rattle.laws.proofs.Places.{same_lists, element, place_below}
use Rattle.laws.proofs.Members.{length_counted, place_counted}
use Rattle.laws.proofs.Over.{over_again, over_length, over_at, over_same, over_set}
use Rattle.closing.specs.Memory.{entries_in}
use Rattle.closing.specs.Rows.{Layout}

module _ {A B : Type 0} (f : A → B) where
  -- what f makes of a list stands where it was made from
  map_at : (xs : List A) (i : ℕ) {x : A} → get_elem? xs i ≡ some x → get_elem? (map f xs) i ≡ some (f x)
  map_at [] i h = absurd (not_nothing h)
  map_at (y ∷ xs) zero h = ap (λ y. some (f y)) (inside h)
  map_at (y ∷ xs) (suc i) h = map_at xs i h

  -- one element more
  map_one_more : (xs : List A) (x : A) → map f (xs ++ (x ∷ [])) ≡ map f xs ++ (f x ∷ [])
  map_one_more [] x = refl
  map_one_more (y ∷ xs) x = ap (λ (r : List B). f y ∷ r) (map_one_more xs x)

-- what stands at a place is read there
get_d_some : {A : Type 0} (xs : List A) (i : ℕ) (d : A) {x : A} → get_elem? xs i ≡ some x → get_or xs i d ≡ x
get_d_some [] i d h = absurd (not_nothing h)
get_d_some (y ∷ xs) zero d h = inside h
get_d_some (y ∷ xs) (suc i) d h = get_d_some xs i d h

-- what is read place by place is a list where it is the list's element at each place
pub read_are : {A : Type 0} (read : ℕ → A) (es : List A) (n : ℕ) → length es ≡ n
    → ((i : ℕ) (e : A) → get_elem? es i ≡ some e → read i ≡ e) → map read (counted 0 n) ≡ es
read_are read es n h same =
    same_lists (map read (counted 0 n)) es (simp (length-map, length_counted) (sym h))
    (λ i x y p q.
    inside (sym p ∙ place_counted read n i (omega (arith, place_below es i q))) ∙ same i y q)

-- A COLUMN of a table: f of each element, written to the beginning of a slice
module _ {A : Type 0} (f : A → ℕ) where
  pub column_again : (ds es : List A) (old : List ℕ) → length ds ≤ length es → over (map f es) (over (map f ds) old) ≡ over (map f es) old
  column_again ds es old h = over_again (map f ds) (map f es) old (simp length-map h)

  -- it is read back
  pub column_at : (es : List A) (old : List ℕ) (i : ℕ) {e : A} → get_elem? es i ≡ some e → get_or (over (map f es) old) i 0 ≡ f e
  column_at es old i h =
      over_at (map f es) old i (simp length-map (place_below es i h)) ∙ get_d_some (map f es) i 0 (map_at f es i h)

  -- the slice is as long as before
  pub column_length : (es : List A) (old : List ℕ) → length es ≤ length old → length (over (map f es) old) ≡ length old
  column_length es old h = over_length (map f es) old (simp length-map h)

  -- a column that stands there already
  pub column_same : (es : List A) (old : List ℕ) → length es ≤ length old → ((i : ℕ) (e : A) → get_elem? es i ≡ some e → f e ≡ get_or old i 0)
      → over (map f es) old ≡ old
  column_same es old h same =
      over_same (map f es) old (simp length-map h)
      (λ i l.
      let (e, at) = element es i (simp length-map at l) in
      get_d_some (map f es) i 0 (map_at f es i at) ∙ same i e at)

  -- then one element more is written behind it
  pub column_set : (es : List A) (old : List ℕ) (e : A) → over (map f es) old ≡ old → length es < length old
      → set old (length es) (f e) ≡ over (map f (es ++ (e ∷ []))) old
  column_set es old e h l = rw map_one_more (simp (h, length-map) at (over_set (map f es) old (f e) (simp length-map l)))

module _ {Value : Type 0} (value : ℕ → Value) (from event : List ℕ) where
  -- entry number i
  abbrev pub entry_in : ℕ → Entry Value
  entry_in i = record { value = value i; from = get_or from i 0; event = get_or event i 0 }

  -- as many entries are read as are asked for
  pub entries_length : (n : ℕ) → length (entries_in value from event n) ≡ n
  unfolding entries_in
  entries_length n = simp (length-map, length_counted)

  -- each at its place
  pub entries_at : (n i : ℕ) → i < n → get_elem? (entries_in value from event n) i ≡ some (entry_in i)
  unfolding entries_in
  entries_at n i h = place_counted entry_in n i h

  -- they are es where the slices have what es has at each place
  pub entries_are : (es : List (Entry Value)) (n : ℕ) → length es ≡ n → ((i : ℕ) (e : Entry Value) → get_elem? es i ≡ some e → entry_in i ≡ e)
      → entries_in value from event n ≡ es
  unfolding entries_in
  entries_are es n h same = read_are entry_in es n h same

-- A COLUMN OF WHAT IS READ: f of what stands in each row, which is what stands in old there
module _ {A : Type 0} (read : ℕ → A) (n : ℕ) (f : A → ℕ) (old : List ℕ) (same : (i : ℕ) → f (read i) ≡ get_or old i 0) where
  abbrev rows : List A
  rows = map read (counted 0 n)

  rows_length : length rows ≡ n
  rows_length = simp (length-map, length_counted)

  row_is : (i : ℕ) {e : A} → get_elem? rows i ≡ some e → e ≡ read i
  row_is i at = inside (sym at ∙ place_counted read n i (omega (arith, place_below rows i at, rows_length)))

  -- it stands in its slice already
  pub column_read : n ≤ length old → over (map f rows) old ≡ old
  column_read h = column_same f rows old (omega (arith, rows_length)) (λ i e at. ap f (row_is i at) ∙ same i)

  -- and that of one element more has its number in the next place
  pub column_next : n < length old → (e : A) → set old n (f e) ≡ over (map f (rows ++ (e ∷ []))) old
  column_next h e = rw rows_length at (column_set f rows old e (column_read (omega arith)) (omega (arith, rows_length)))

-- WHAT THE SLICES OF BOTH TABLES HAVE: they are columns, each of a part f of the entries. columns F is what F makes of each part and its
-- slice, and at reads an entry from its row
pub record Shape {Value Slices : Type 0} (write : List (Entry Value) → Slices → Slices) (at : Slices → ℕ → Entry Value) (room_for : Slices → ℕ)
    (columns : ((Entry Value → ℕ) → List ℕ → List ℕ) → Slices → Slices) : Type 0 where
  -- writing entries is writing the columns
  pub written : (es : List (Entry Value)) (l : Slices) → write es l ≡ columns (λ f old. over (map f es) old) l
  pub twice : (F G : (Entry Value → ℕ) → List ℕ → List ℕ) (l : Slices) → columns F (columns G l) ≡ columns (λ f old. F f (G f old)) l
  pub unchanged : (l : Slices) → columns (λ f old. old) l ≡ l
  -- F and G make the same of all if they do so of any part f and slice old in which it stands, and in which there is room
  pub alike : (F G : (Entry Value → ℕ) → List ℕ → List ℕ) (l : Slices)
      → ((f : Entry Value → ℕ) (old : List ℕ) → ((i : ℕ) → f (at l i) ≡ get_or old i 0) → room_for l ≤ length old → F f old ≡ G f old)
      → columns F l ≡ columns G l
  -- a row has the entry whose parts stand there
  pub row : (F : (Entry Value → ℕ) → List ℕ → List ℕ) (l : Slices) (i : ℕ) (e : Entry Value)
      → ((f : Entry Value → ℕ) (old : List ℕ) → get_or (F f old) i 0 ≡ f e) → at (columns F l) i ≡ e
  -- the room is that of the slices, and within the limit
  pub as_long : (F : (Entry Value → ℕ) → List ℕ → List ℕ) (l : Slices)
      → ((f : Entry Value → ℕ) (old : List ℕ) → room_for l ≤ length old → length (F f old) ≡ length old) → room_for (columns F l) ≡ room_for l
  pub small : (l : Slices) → room_for l ≤ 65535

module _ {Value Slices : Type 0} {write : List (Entry Value) → Slices → Slices} {at : Slices → ℕ → Entry Value} {room_for : Slices → ℕ}
    {columns : ((Entry Value → ℕ) → List ℕ → List ℕ) → Slices → Slices} (S : Shape write at room_for columns) where
  abbrev read : Slices → ℕ → List (Entry Value)
  read l n = map (at l) (counted 0 n)

  -- one entry more, stored in the next place of each slice
  pub next_row : (l : Slices) (n : ℕ) → n < room_for l → (e : Entry Value)
      → columns (λ f old. set old n (f e)) l ≡ write (read l n ++ (e ∷ [])) l
  next_row l n h e =
      S.alike (λ f old. set old n (f e)) (λ f old. over (map f (read l n ++ (e ∷ []))) old) l
      (λ f old same long. column_next (at l) n f old same (omega arith) e)
      ∙ sym (S.written (read l n ++ (e ∷ [])) l)

  -- THE LAYOUT
  pub layout : Layout write read at room_for
  layout =
      record {
        again =
            λ ds es l h.
            ap (write es) (S.written ds l) ∙ S.written es _ ∙ S.twice (λ f old. over (map f es) old) (λ f old. over (map f ds) old) l
            ∙ S.alike (λ f old. over (map f es) (over (map f ds) old)) (λ f old. over (map f es) old) l
            (λ f old _ _. column_again f ds es old h)
            ∙ sym (S.written es l);
        back =
            λ es l.
            rw (S.written es l)
            (read_are _ es (length es) refl
            (λ i e p. S.row (λ f old. over (map f es) old) l i e (λ f old. column_at f es old i p)));
        same =
            λ l n h.
            S.written (read l n) l
            ∙ S.alike (λ f old. over (map f (read l n)) old) (λ f old. old) l
            (λ f old same long. column_read (at l) n f old same (omega arith))
            ∙ S.unchanged l;
        counted = λ l n. simp (length-map, length_counted);
        each = λ l n i h. place_counted (at l) n i h;
        room_kept =
            λ es l h.
            rw (S.written es l) (S.as_long (λ f old. over (map f es) old) l (λ f old long. column_length f es old (omega arith)));
        small = S.small;
      }
