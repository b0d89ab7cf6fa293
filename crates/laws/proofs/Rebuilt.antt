-- What follows where a list of entries holds all values: predecessors and events rebuild the least words; these are short; and the value
-- of the empty word stands first.
use Prim.Native.Nat.{ℕ, zero, suc, ◌+◌, ◌≤◌, ◌<◌}
use native.Mathlib.Omega.{arith}
use mathlib.Core.Path.{◌≡◌, refl, sym, ◌∙◌}
use mathlib.Core.List.{List, [], ◌∷◌, ◌++◌}
use mathlib.Core.Option.{none, some}
use lib.ListN.{length, get_elem?}
use borrow.Author.Tests.{eq-eqb, ne_eqb}
use Rattle.laws.specs.Words.{letters_are_below}
use Rattle.laws.specs.Tables.{WordValue, Entry, no_entry, no_event, Came, empty_word, one_event, one_more, Holds, rebuilt, word_of}
use Rattle.laws.proofs.Booleans.{never}
use Rattle.laws.proofs.Order.{neither_before, none_before_empty, letters_less}
use Rattle.laws.proofs.Places.{place_below, element, length_one_more}

module _ {Value : Type 0} (es : List (Entry Value)) (d i : ℕ) {e : Entry Value} (at_i : get_elem? es i ≡ some e) where
  -- an entry with no predecessor and no event has the empty word
  rebuilt_empty : e.from ≡ no_entry → e.event ≡ no_event → rebuilt es (suc d) i ≡ []
  unfolding rebuilt
  rebuilt_empty f a = cc (eq-eqb e.from no_entry f, eq-eqb e.event no_event a)

  -- one with no predecessor and an event has that event alone
  rebuilt_one : e.from ≡ no_entry → (e.event ≡ no_event → ⊥) → rebuilt es (suc d) i ≡ e.event ∷ []
  unfolding rebuilt
  rebuilt_one f a = cc (eq-eqb e.from no_entry f, ne_eqb e.event no_event a)

  -- one with a predecessor has the predecessor's word and then the event
  rebuilt_more : (e.from ≡ no_entry → ⊥) → rebuilt es (suc d) i ≡ rebuilt es d e.from ++ (e.event ∷ [])
  unfolding rebuilt
  rebuilt_more f = cc (ne_eqb e.from no_entry f)

module _ {Value : Type 0} {Val : WordValue Value} {k : ℕ} {es : List (Entry Value)} (h : Holds Val k es) where
  -- predecessors and events rebuild the least word of an entry with a number below d
  rebuilt_below : length es ≤ suc no_entry → k ≤ no_event → (d i : ℕ) (e : Entry Value) → i < d → get_elem? es i ≡ some e
      → rebuilt es d i ≡ h.word i
  rebuilt_below few small zero i e l at_i = absurd (omega arith)
  rebuilt_below few small (suc d) i e l at_i = go (rebuilt_below few small d) (h.came i e at_i)
    where
      b : i < length es
      b = place_below es i at_i

      go : ((j : ℕ) (f : Entry Value) → j < d → get_elem? es j ≡ some f → rebuilt es d j ≡ h.word j) → Came Val h.word i e
          → rebuilt es (suc d) i ≡ h.word i
      go before (empty_word p f a) = rebuilt_empty es d i at_i f a ∙ sym p
      go before (one_event n p f) =
          let letter = (letters_less k [] e.event (rw p at (h.word_letters i e at_i))).1 in
          rebuilt_one es d i at_i f (λ a. omega arith) ∙ sym p
      go before (one_more m p) =
          let (f, at_f) = element es e.from (omega (arith, b)) in
          cc (rebuilt_more es d i at_i (λ n. omega (arith, b)), before e.from f (omega arith) at_f)

  -- predecessors and events rebuild the least word
  pub rebuilt_word : length es ≤ suc no_entry → k ≤ no_event → (i : ℕ) (e : Entry Value) → get_elem? es i ≡ some e → word_of es i ≡ h.word i
  unfolding word_of
  rebuilt_word few small i e at_i = rebuilt_below few small (suc i) i e (omega arith) at_i

  -- an entry's word has at most c letters more than the entry's number, below d, where c is not 0 if the empty word has no value
  short_by : (c : ℕ) → (Val.of [] ≡ none → 1 ≤ c) → (d i : ℕ) (e : Entry Value) → i < d → get_elem? es i ≡ some e
      → length (h.word i) ≤ c + i
  short_by c one zero i e l at_i = absurd (omega arith)
  short_by c one (suc d) i e l at_i = go (short_by c one d) (h.came i e at_i)
    where
      b : i < length es
      b = place_below es i at_i

      go : ((j : ℕ) (f : Entry Value) → j < d → get_elem? es j ≡ some f → length (h.word j) ≤ c + j) → Came Val h.word i e
          → length (h.word i) ≤ c + i
      go before (empty_word p f a) = rw p (omega arith)
      go before (one_event n p f) = rw p (omega (arith, one n))
      go before (one_more m p) =
          let (f, at_f) = element es e.from (omega (arith, b)) in
          rw p (omega (arith, length_one_more (h.word e.from) e.event, before e.from f (omega arith) at_f))

  -- the least word of an entry has at most one letter more than the entry's number
  pub word_short : (i : ℕ) (e : Entry Value) → get_elem? es i ≡ some e → length (h.word i) ≤ suc i
  word_short i e at_i = omega (arith, short_by 1 (λ n. omega arith) (suc i) i e (omega arith) at_i)

  module _ {x : Value} (valued : Val.of [] ≡ some x) where
    -- and not even one more, where the empty word has a value
    pub word_shorter : (i : ℕ) (e : Entry Value) → get_elem? es i ≡ some e → length (h.word i) ≤ i
    word_shorter i e at_i = omega (arith, short_by 0 never (suc i) i e (omega arith) at_i)
      where
        never : Val.of [] ≡ none → 1 ≤ 0
        never n = let z : ◌≡◌ {A = ℕ} 0 1 = cc in omega arith

    -- the value of the empty word stands first
    pub empty_first : (e : Entry Value) × (get_elem? es 0 ≡ some e) × (e.value ≡ x)
    unfolding letters_are_below
    empty_first = let (i, e, at_i, same) = h.all [] x refl valued in go i e at_i same
      where
        go : (i : ℕ) (e : Entry Value) → get_elem? es i ≡ some e → e.value ≡ x
            → (e : Entry Value) × (get_elem? es 0 ≡ some e) × (e.value ≡ x)
        go zero e at_i same = (e, at_i, same)
        go (suc i) e at_i same =
            let least = h.word_least (suc i) e at_i [] refl (cc) in
            let is_empty = neither_before [] (h.word (suc i)) least (none_before_empty (h.word (suc i))) in
            let behind = h.ordered 0 (suc i) (omega arith) (place_below es (suc i) at_i) in
            never (sym (none_before_empty (h.word 0)) ∙ (rw (← is_empty) at behind))
