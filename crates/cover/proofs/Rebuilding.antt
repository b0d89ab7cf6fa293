-- How the word of an entry is rebuilt from two slices, of predecessors and of events: letter by letter through ever smaller numbers, as
-- `count` and `write` do. The slices of a table that holds all values are linked, and give the words of its entries.
use Prim.Native.Nat.{ℕ, zero, suc, ◌<◌, ◌≤◌}
use native.Mathlib.Omega.{arith}
use mathlib.Core.Path.{◌≡◌, refl, sym, ap, ◌∙◌}
use mathlib.Core.Bool.{Bool, true, false, cond}
use mathlib.Core.Logic.{inl, inr, ⊎_elim}
use mathlib.Core.List.{List, [], ◌∷◌, ◌++◌}
use mathlib.Core.Option.{Option, none, some}
use lib.ListN.{length, get_or, get_elem?, take, drop, set, length-take, length-set, drop_of_length-le}
use lib.Seq.{drop-cons, get_or-set_same}
use lib.Dec.{eqb, ltb}
use Rattle.std.proofs.Common.{◌≢◌}
use Rattle.std.proofs.lemmas.Bool.Decides.{eqb_tells}
use borrow.Author.Tests.{ne_eqb, ltb-true, ltb-false}
use Rattle.laws.specs.Words as words
use Rattle.laws.specs.Tables.{WordValue, Entry, no_entry, no_event, Came, empty_word, one_event, one_more, Holds, rebuilt, word_of}
use Rattle.laws.proofs.Booleans.{inside, either}
use Rattle.laws.proofs.Places.{place_below, past_end, end_past, length_one_more}
use Rattle.closing.specs.Memory.{entries_in}
use Rattle.cover.specs.WordMemory.{Linked, word_in}
use Rattle.closing.proofs.Slices.{entries_at, entries_length}

-- the entries of two slices as `word_in` reads them
abbrev links : List ℕ → List ℕ → List (Entry ℕ)
links from event = entries_in (λ j. j) from event (length from)

module _ (from event : List ℕ) where
  at_links : (i : ℕ) → i < length from
      → get_elem? (links from event) i ≡ some (record { value = i; from = get_or from i 0; event = get_or event i 0 })
  at_links i l = entries_at (λ j. j) from event (length from) i l

  length_links : length (links from event) ≡ length from
  length_links = entries_length (λ j. j) from event (length from)

-- the word of an entry with this predecessor and event, where before is the predecessor's word
unfoldable spelt : ℕ → ℕ → words.Word → words.Word
spelt from event before =
    elim (eqb from no_entry) [
      | true ↦ cond (eqb event no_event) [] (event ∷ [])
      | false ↦ before ++ (event ∷ [])
    ]

module _ (from event : ℕ) (before : words.Word) where
  spelt_empty : from ≡ no_entry → event ≡ no_event → spelt from event before ≡ []
  unfolding spelt
  spelt_empty f a = rw (f, a)

  spelt_one : from ≡ no_entry → (event ≡ no_event → ⊥) → spelt from event before ≡ event ∷ []
  unfolding spelt
  spelt_one f a = rw (f, ne_eqb event no_event a)

  spelt_more : (from ≡ no_entry → ⊥) → spelt from event before ≡ before ++ (event ∷ [])
  unfolding spelt
  spelt_more f = rw (ne_eqb from no_entry f, spelt)

  -- with no predecessor it does not matter which word that is
  spelt_same : (other : words.Word) → (from ≢ no_entry → before ≡ other) → spelt from event before ≡ spelt from event other
  unfolding spelt
  spelt_same other h = elim (eqb_tells from no_entry) [ inl e ↦ rw (e.0, spelt) | inr e ↦ ap (spelt from event) (h e.1) ]

  spelt_short : length (spelt from event before) ≤ suc (length before)
  unfolding spelt
  spelt_short = go (eqb from no_entry) (eqb event no_event)
    where
      go : (b c : Bool) → length {A = ℕ} (elim b [ true ↦ cond c [] (event ∷ []) | false ↦ before ++ (event ∷ []) ]) ≤ suc (length before)
      go true true = omega arith
      go true false = omega arith
      go false c = omega (arith, length_one_more before event)

-- one step of rebuilding: at an entry, and past the last one
module _ {Value : Type 0} (es : List (Entry Value)) (d i : ℕ) where
  rebuilt_at : {e : Entry Value} → get_elem? es i ≡ some e → rebuilt es (suc d) i ≡ spelt e.from e.event (rebuilt es d e.from)
  unfolding rebuilt spelt
  rebuilt_at p = rw (p, rebuilt)

  rebuilt_past : length es ≤ i → rebuilt es (suc d) i ≡ []
  unfolding rebuilt
  rebuilt_past l = rw (past_end es i l, rebuilt)

module _ {Value : Type 0} (es : List (Entry Value)) where
  -- an entry's word has no more letters than the bound
  rebuilt_short : (d i : ℕ) → length (rebuilt es d i) ≤ d
  unfolding rebuilt
  rebuilt_short zero i = omega arith
  rebuilt_short (suc d) i = go (rebuilt_short d) (get_elem? es i) refl
    where
      go : ((j : ℕ) → length (rebuilt es d j) ≤ d) → (o : Option (Entry Value)) → get_elem? es i ≡ o → length (rebuilt es (suc d) i) ≤ suc d
      go short none p = rw (rebuilt_past es d i (end_past es i p)) (omega arith)
      go short (some e) p =
          rw (rebuilt_at es d i p) (omega (arith, spelt_short e.from e.event (rebuilt es d e.from), short e.from))

  -- where the numbers fall, the bound does not matter once it is above the number
  module _ (falls : (i : ℕ) (e : Entry Value) → get_elem? es i ≡ some e → e.from ≢ no_entry → e.from < i) where
    enough : (c d i : ℕ) → i < c → i < d → rebuilt es c i ≡ rebuilt es d i
    enough zero d i l m = absurd (omega arith)
    enough (suc c) zero i l m = absurd (omega arith)
    enough (suc c) (suc d) i l m = go (enough c d) (get_elem? es i) refl
      where
        go : ((j : ℕ) → j < c → j < d → rebuilt es c j ≡ rebuilt es d j) → (o : Option (Entry Value)) → get_elem? es i ≡ o
            → rebuilt es (suc c) i ≡ rebuilt es (suc d) i
        go same none p = rw (rebuilt_past es c i (end_past es i p), rebuilt_past es d i (end_past es i p))
        go same (some e) p =
            rebuilt_at es c i p
            ∙ spelt_same e.from e.event _ _ (λ f. let less = falls i e p f in same e.from (omega arith) (omega arith))
            ∙ sym (rebuilt_at es d i p)

-- numbers fall in linked slices
linked_falls : {from event : List ℕ} → Linked from event → (i : ℕ) (e : Entry ℕ) → get_elem? (links from event) i ≡ some e
    → e.from ≢ no_entry → e.from < i
linked_falls {from = from} {event = event} h i e p =
    let there : i < length from = omega (arith, place_below (links from event) i p, length_links from event) in
    let same = inside (sym p ∙ at_links from event i there) in
    rw same (h.falls i there)

-- THE WORD of an entry of two slices: none or one letter where it has no predecessor, and else one letter more than its predecessor's
module _ {from event : List ℕ} (h : Linked from event) (i : ℕ) (l : i < length from) where
  -- a predecessor's number is smaller
  pub from_below : (get_or from i 0 ≡ no_entry → ⊥) → get_or from i 0 < i
  from_below = h.falls i l

  word_at : word_in from event i ≡ spelt (get_or from i 0) (get_or event i 0) (word_in from event (get_or from i 0))
  unfolding word_in word_of
  word_at =
      let j = get_or from i 0 in
      rebuilt_at (links from event) i i (at_links from event i l)
      ∙ spelt_same j (get_or event i 0) _ _
      (λ f. enough (links from event) (linked_falls h) i (suc j) j (h.falls i l f) (omega arith))

  pub word_empty : get_or from i 0 ≡ no_entry → get_or event i 0 ≡ no_event → word_in from event i ≡ []
  word_empty f a = word_at ∙ spelt_empty _ _ _ f a

  pub word_one : get_or from i 0 ≡ no_entry → (get_or event i 0 ≡ no_event → ⊥) → word_in from event i ≡ get_or event i 0 ∷ []
  word_one f a = word_at ∙ spelt_one _ _ _ f a

  pub word_more : (get_or from i 0 ≡ no_entry → ⊥) → word_in from event i ≡ word_in from event (get_or from i 0) ++ (get_or event i 0 ∷ [])
  word_more f = word_at ∙ spelt_more _ _ _ f

  pub word_longer : (get_or from i 0 ≡ no_entry → ⊥) → length (word_in from event i) ≡ suc (length (word_in from event (get_or from i 0)))
  word_longer f = ap length (word_more f) ∙ length_one_more (word_in from event (get_or from i 0)) (get_or event i 0)

  -- it has no more letters than there are entries
  pub word_short : length (word_in from event i) ≤ length from
  unfolding word_in word_of
  word_short = omega (arith, l, rebuilt_short (links from event) (suc i) i)

-- SLICES WHOSE ENTRIES HOLD ALL VALUES are linked: an entry's predecessor has a smaller number, or there is none
pub linked : {Value : Type 0} {Val : WordValue Value} {k : ℕ} (value : ℕ → Value) (from event : List ℕ) (n : ℕ)
    → Holds Val k (entries_in value from event n) → length from ≡ n → n ≤ length event → Linked from event
linked {Val = Val} value from event n h e long =
    record { events_there = omega arith; falls = λ i l. came (h.came i _ (entries_at value from event n i (omega arith))) }
  where
    came : {i : ℕ} {e : Entry _} → Came Val h.word i e → e.from ≢ no_entry → e.from < i
    came (empty_word p f a) n = absurd (n f)
    came (one_event a p f) n = absurd (n f)
    came (one_more m p) n = m

-- THE WORD OF AN ENTRY that is read with any value is what the two slices give
module _ {Value : Type 0} (value : ℕ → Value) (from event : List ℕ) where
  abbrev valued : List (Entry Value)
  valued = entries_in value from event (length from)

  rebuilt_same : (d i : ℕ) → rebuilt valued d i ≡ rebuilt (links from event) d i
  unfolding rebuilt
  rebuilt_same zero i = refl
  rebuilt_same (suc d) i =
      ⊎_elim (λ b. at (rebuilt_same d) (ltb-true i (length from) b)) (λ b. past (ltb-false i (length from) b))
      (either (ltb i (length from)))
    where
      at : ((j : ℕ) → rebuilt valued d j ≡ rebuilt (links from event) d j) → i < length from
          → rebuilt valued (suc d) i ≡ rebuilt (links from event) (suc d) i
      at same l =
          rebuilt_at valued d i (entries_at value from event (length from) i l)
          ∙ ap (spelt (get_or from i 0) (get_or event i 0)) (same (get_or from i 0))
          ∙ sym (rebuilt_at (links from event) d i (at_links from event i l))

      past : length from ≤ i → rebuilt valued (suc d) i ≡ rebuilt (links from event) (suc d) i
      past l =
          rebuilt_past valued d i (omega (arith, entries_length value from event (length from)))
          ∙ sym (rebuilt_past (links from event) d i (omega (arith, length_links from event)))

  pub word_same : (i : ℕ) → word_of valued i ≡ word_in from event i
  unfolding word_in word_of
  word_same i = rebuilt_same (suc i) i

-- a part with no place; with one, to which a letter is written; and what follows the part before the last place, once a letter is there
pub no_place : (xs : List ℕ) → length xs ≡ 0 → xs ≡ []
no_place [] e = refl
no_place (x ∷ xs) e = absurd (omega arith)

pub one_place : (xs : List ℕ) (a : ℕ) → length xs ≡ 1 → set xs 0 a ≡ a ∷ []
one_place [] a e = absurd (omega arith)
one_place (x ∷ []) a e = refl
one_place (x ∷ y ∷ xs) a e = absurd (omega arith)

pub last_place : (xs : List ℕ) (n a : ℕ) → length xs ≡ suc n → drop n (set xs n a) ≡ a ∷ []
last_place xs n a e =
    let as_long = length-set xs n a in
    drop-cons (set xs n a) n 0 (omega arith)
    ∙ cc (get_or-set_same xs n a 0 (omega arith), drop_of_length-le (set xs n a) {i = suc n} (omega arith))

-- how long the part before the last place is, wherever a letter is written
pub before_last : (xs : List ℕ) (n i a : ℕ) → length xs ≡ suc n → length (take n (set xs i a)) ≡ n
before_last xs n i a e = simp (length-take, length-set) (omega arith)

-- what counting and writing a word take
pub ruleset word_steps = (from_below, word_empty, word_one, word_more, word_longer, word_short, no_place, one_place, last_place, before_last)
