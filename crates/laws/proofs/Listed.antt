-- Entries in the making: each has its word, the words are in their order, and one entry more, with a later word and another value,
-- keeps that.
use Prim.Native.Nat.{ℕ, ◌≤◌, ◌<◌}
use native.Mathlib.Omega.{arith}
use mathlib.Core.Path.{◌≡◌, refl, sym, ap, ◌∙◌, subst}
use mathlib.Core.Logic.{◌⊎◌, inl, inr, ⊎_elim}
use mathlib.Core.Bool.{true, cond}
use mathlib.Core.List.{List, [], ◌∷◌, ◌++◌}
use mathlib.Core.Option.{some}
use lib.ListN.{length, get_elem?}
use lib.Dec.{eqb}
use borrow.Author.Tests.{eq-eqb, ne_eqb}
use Rattle.laws.specs.Words.{Word, letters_are_below, before}
use Rattle.laws.specs.Tables.{WordValue, Entry, Came, empty_word, one_event, one_more}
use Rattle.laws.proofs.Booleans.{less}
use Rattle.laws.proofs.Places.{place_below, length_one_more, at_cases}

-- the words w, and v for number n
unfoldable pub put : (ℕ → Word) → ℕ → Word → ℕ → Word
put w n v j = cond (eqb j n) v (w j)

-- that number has the new word
pub put_new : (w : ℕ → Word) (n : ℕ) (v : Word) → put w n v n ≡ v
unfolding put
put_new w n v = rw (eq-eqb n n refl)

-- and smaller ones the words that they had
pub put_old : (w : ℕ → Word) (n : ℕ) (v : Word) (j : ℕ) → j < n → put w n v j ≡ w j
unfolding put
put_old w n v j h = rw (ne_eqb j n (λ e. omega arith))

-- each entry has its word, over k events, the values differ, and the words are in their order
pub record Listed {Value : Type 0} (Val : WordValue Value) (k : ℕ) (es : List (Entry Value)) (w : ℕ → Word) : Type 0 where
  pub letters : (i : ℕ) (e : Entry Value) → get_elem? es i ≡ some e → letters_are_below k (w i) ≡ true
  pub has : (i : ℕ) (e : Entry Value) → get_elem? es i ≡ some e → Val.of (w i) ≡ some e.value
  pub once : (i j : ℕ) (e f : Entry Value) → get_elem? es i ≡ some e → get_elem? es j ≡ some f → e.value ≡ f.value → i ≡ j
  pub ordered : (i j : ℕ) → i < j → j < length es → before (w i) (w j) ≡ true
  pub came : (i : ℕ) (e : Entry Value) → get_elem? es i ≡ some e → Came Val w i e

-- e may be the next entry, with the word v
pub record Next {Value : Type 0} (Val : WordValue Value) (k : ℕ) (es : List (Entry Value)) (w : ℕ → Word) (e : Entry Value) (v : Word)
    : Type 0 where
  pub letters : letters_are_below k v ≡ true
  pub has : Val.of v ≡ some e.value
  pub last : (j : ℕ) → j < length es → before (w j) v ≡ true
  pub came : Came Val (put w (length es) v) (length es) e

module _ {Value : Type 0} {Val : WordValue Value} where
  -- where an entry comes from is the same for words that are the same up to it
  came_same : {w w' : ℕ → Word} {i : ℕ} {e : Entry Value} → ((j : ℕ) → j ≤ i → w' j ≡ w j) → Came Val w i e → Came Val w' i e
  came_same {i = i} same (empty_word p f v) = empty_word (same i (omega arith) ∙ p) f v
  came_same {i = i} same (one_event n p f) = one_event n (same i (omega arith) ∙ p) f
  came_same {i = i} same (one_more {e = e} l p) =
      one_more l (same i (omega arith) ∙ p ∙ ap (λ (x : Word). x ++ (e.event ∷ [])) (sym (same e.from (omega arith))))

-- what holds at the places of a list, and at its end, holds at the places of the list with one element more
places : {A : Type 0} {P : ℕ → A → Type 0} (xs : List A) (x : A) → ((i : ℕ) (y : A) → i < length xs → get_elem? xs i ≡ some y → P i y)
    → P (length xs) x → (i : ℕ) (y : A) → get_elem? (xs ++ (x ∷ [])) i ≡ some y → P i y
places {P = P} xs x old new i y h =
    ⊎_elim
    (λ p. old i y (place_below xs i p) p)
    (λ q. subst (λ (j : ℕ). P j y) (sym q.0) (subst (P (length xs)) (sym q.1) new))
    (at_cases xs x i h)

module _ {Value : Type 0} {Val : WordValue Value} {k : ℕ} {es : List (Entry Value)} {w : ℕ → Word} (l : Listed Val k es w)
    {e : Entry Value} {v : Word} (n : Next Val k es w e v)
    (missing : (j : ℕ) (f : Entry Value) → get_elem? es j ≡ some f → f.value ≡ e.value → ⊥) where
  -- its value differs from the others
  add_once : (i j : ℕ) (f g : Entry Value) → (get_elem? es i ≡ some f) ⊎ ((i ≡ length es) × (f ≡ e))
      → (get_elem? es j ≡ some g) ⊎ ((j ≡ length es) × (g ≡ e)) → f.value ≡ g.value → i ≡ j
  add_once i j f g (inl p) (inl q) h = l.once i j f g p q h
  add_once i j f g (inl p) (inr q) h = absurd (missing i f p (h ∙ ap (λ (x : Entry Value). x.value) q.1))
  add_once i j f g (inr p) (inl q) h = absurd (missing j g q (sym h ∙ ap (λ (x : Entry Value). x.value) p.1))
  add_once i j f g (inr p) (inr q) h = p.0 ∙ sym q.0

  -- its word is after the others
  add_ordered : (i j : ℕ) → i < j → (j < length es) ⊎ (j ≡ length es) → before (put w (length es) v i) (put w (length es) v j) ≡ true
  add_ordered i j h (inl b) = rw (put_old w (length es) v i (omega arith), put_old w (length es) v j b) (l.ordered i j h b)
  add_ordered i j h (inr q) = rw (q, put_new w (length es) v, put_old w (length es) v i (omega arith)) (n.last i (omega arith))

  -- one entry more
  pub add : Listed Val k (es ++ (e ∷ [])) (put w (length es) v)
  add =
      record {
        letters = places es e (λ i f b p. rw (put_old w (length es) v i b) (l.letters i f p)) (rw put_new n.letters);
        has = places es e (λ i f b p. rw (put_old w (length es) v i b) (l.has i f p)) (rw put_new n.has);
        once = λ i j f g p q h. add_once i j f g (at_cases es e i p) (at_cases es e j q) h;
        ordered = λ i j h b. add_ordered i j h (less j (length es) (omega (arith, length_one_more es e)));
        came = places es e (λ i f b p. came_same (λ j h. put_old w (length es) v j (omega arith)) (l.came i f p)) n.came;
      }
