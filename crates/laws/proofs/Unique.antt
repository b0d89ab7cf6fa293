-- What a table holds is determined: over the same words and k events, two lists of entries that hold all values are the same.
use Prim.Native.Nat.{ℕ, zero, suc, ◌≤◌, ◌<◌}
use native.Mathlib.Nat.{eq-or-lt_of_le}
use native.Mathlib.Omega.{arith}
use mathlib.Core.Path.{◌≡◌, sym, ap, ◌∙◌}
use mathlib.Core.Logic.{⊎_elim}
use mathlib.Core.Bool.{false, false≢true}
use mathlib.Core.List.{List, [], ◌∷◌, ◌++◌}
use mathlib.Core.Option.{Option, none, some}
use lib.ListN.{length, get_elem?}
use Rattle.laws.specs.Words.{Word, before}
use Rattle.laws.specs.Tables.{WordValue, Entry, Came, empty_word, one_event, one_more, Holds}
use Rattle.laws.proofs.Order.{before_itself, before_not, neither_before, more_not_empty, same_more}
use Rattle.laws.proofs.Places.{place_below, element, same_lists}

-- where the empty word has no value, a word of one event is not a word that has one and an event more
one_or_more : {Value : Type 0} (of : Word → Option Value) (x : Word) (a b : ℕ) {y : Value} → of [] ≡ none → of x ≡ some y
    → a ∷ [] ≡ x ++ (b ∷ []) → ⊥
one_or_more of x a b n v e =
    let z : ◌≡◌ {A = ℕ} 0 1 = cc (ap of (same_more [] x a b e).0) in
    omega arith

module _ {Value : Type 0} {Val : WordValue Value} {k : ℕ} where
  module _ {es : List (Entry Value)} (h : Holds Val k es) where
    -- an entry's word is not before that of an entry with a smaller number, or with the same
    not_before : (i j : ℕ) → i ≤ j → j < length es → before (h.word j) (h.word i) ≡ false
    not_before i j l b =
        ⊎_elim
        (λ e. rw e (before_itself (h.word j)))
        (λ m. before_not (h.word i) (h.word j) (h.ordered i j m b))
        (eq-or-lt_of_le l)

    -- entries of which one has the smaller number have different words
    smaller : (i j : ℕ) → i < j → j < length es → h.word i ≡ h.word j → ⊥
    smaller i j l b e = false≢true (sym (before_itself (h.word j)) ∙ (rw e at (h.ordered i j l b)))

    -- so the number of an entry is known from its word
    number_of : (i j : ℕ) → i < length es → j < length es → h.word i ≡ h.word j → i ≡ j
    number_of i j a b e =
        let not_below : i < j → ⊥ = λ l. smaller i j l b e in
        let not_above : j < i → ⊥ = λ l. smaller j i l a (sym e) in
        omega arith

  module _ {es fs : List (Entry Value)} (h : Holds Val k es) (g : Holds Val k fs) where
    -- entries with the same value have the same least word
    same_least : (i j : ℕ) (e f : Entry Value) → get_elem? es i ≡ some e → get_elem? fs j ≡ some f → e.value ≡ f.value
        → h.word i ≡ g.word j
    same_least i j e f at_i at_j same =
        neither_before (h.word i) (g.word j)
        (g.word_least j f at_j (h.word i) (h.word_letters i e at_i) (cc (h.word_value i e at_i)))
        (h.word_least i e at_i (g.word j) (g.word_letters j f at_j) (cc (g.word_value j f at_j)))

    -- where the words before number i agree, the second list too has an entry with number i, and its word is not after that of the first
    reached : (i : ℕ) → ((j : ℕ) → j < i → j < length fs → h.word j ≡ g.word j) → i < length es
        → (i < length fs) × (before (h.word i) (g.word i) ≡ false)
    reached i below b =
        let (e, at_i) = element es i b in
        let (j, f, at_j, same) = g.all (h.word i) e.value (h.word_letters i e at_i) (h.word_value i e at_i) in
        let c = place_below fs j at_j in
        let words = same_least i j e f at_i at_j (sym same) in
        let not_below : j < i → ⊥ = λ l. smaller h j i l b (below j l c ∙ sym words) in
        (omega arith, rw words (not_before g i j (omega arith) c))

  -- the words of two lists agree at a number that both have; n bounds it
  words_below : {es fs : List (Entry Value)} (h : Holds Val k es) (g : Holds Val k fs) (n i : ℕ) → i < n → i < length es → i < length fs
      → h.word i ≡ g.word i
  words_below h g zero i l a b = absurd (omega arith)
  words_below h g (suc n) i l a b =
      neither_before (h.word i) (g.word i)
      (reached h g i (λ j m c. words_below h g n j (omega arith) (omega arith) c) a).1
      (reached g h i (λ j m c. sym (words_below h g n j (omega arith) c (omega arith))) b).1

  module _ {es fs : List (Entry Value)} (h : Holds Val k es) (g : Holds Val k fs) where
    -- the words of two lists agree at each number that both have
    same_words : (i : ℕ) → i < length es → i < length fs → h.word i ≡ g.word i
    same_words i = words_below h g (suc i) i (omega arith)

    -- and the first list is not longer than the second
    not_longer : length es ≤ length fs
    not_longer = omega (arith, never)
      where
        never : length fs < length es → ⊥
        never b = omega (arith, (reached h g (length fs) (λ j m c. same_words j (omega arith) c) b).0)

    -- entries with one number have the same predecessor and event
    same_coming : (i : ℕ) (e f : Entry Value) → i < length es → i < length fs → h.word i ≡ g.word i
        → Came Val h.word i e → Came Val g.word i f → (e.from ≡ f.from) × (e.event ≡ f.event)
    same_coming i e f a b s (empty_word p q r) (empty_word p' q' r') = (q ∙ sym q', r ∙ sym r')
    same_coming i e f a b s (empty_word p q r) (one_event n p' q') = absurd (more_not_empty [] f.event (sym p' ∙ sym s ∙ p))
    same_coming i e f a b s (empty_word p q r) (one_more l p') = absurd (more_not_empty (g.word f.from) f.event (sym p' ∙ sym s ∙ p))
    same_coming i e f a b s (one_event n p q) (empty_word p' q' r') = absurd (more_not_empty [] e.event (sym p ∙ s ∙ p'))
    same_coming i e f a b s (one_event n p q) (one_event n' p' q') = (q ∙ sym q', cc)
    same_coming i e f a b s (one_event n p q) (one_more l p') =
        let (x, at_x) = element fs f.from (omega arith) in
        absurd (one_or_more Val.of (g.word f.from) e.event f.event n (g.word_value f.from x at_x) (sym p ∙ s ∙ p'))
    same_coming i e f a b s (one_more l p) (empty_word p' q' r') = absurd (more_not_empty (h.word e.from) e.event (sym p ∙ s ∙ p'))
    same_coming i e f a b s (one_more l p) (one_event n p' q') =
        let (x, at_x) = element es e.from (omega arith) in
        absurd (one_or_more Val.of (h.word e.from) f.event e.event n (h.word_value e.from x at_x) (sym p' ∙ sym s ∙ p))
    same_coming i e f a b s (one_more l p) (one_more l' p') =
        let parts = same_more (h.word e.from) (g.word f.from) e.event f.event (sym p ∙ s ∙ p') in
        let back = same_words f.from (omega arith) (omega arith) in
        (number_of h e.from f.from (omega arith) (omega arith) (parts.0 ∙ sym back), parts.1)

    -- entries with one number are the same
    same_entry : (i : ℕ) (e f : Entry Value) → get_elem? es i ≡ some e → get_elem? fs i ≡ some f → e ≡ f
    same_entry i e f p q =
        let a = place_below es i p in
        let b = place_below fs i q in
        let words = same_words i a b in
        let values : e.value ≡ f.value = cc (h.word_value i e p, g.word_value i f q) in
        let coming = same_coming i e f a b words (h.came i e p) (g.came i f q) in
        λ t. record { value = values t; from = coming.0 t; event = coming.1 t }

  -- two lists of entries that hold all values are the same
  pub same_entries : (es fs : List (Entry Value)) → Holds Val k es → Holds Val k fs → es ≡ fs
  same_entries es fs h g = same_lists es fs (omega (arith, not_longer h g, not_longer g h)) (same_entry h g)
