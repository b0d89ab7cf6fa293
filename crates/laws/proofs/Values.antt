-- The values of a table that holds all of them: each stands at its entry's number, that of every word is found, and so is what one event
-- more leads to.
use Prim.Native.Nat.{ℕ, zero, suc, ◌<◌}
use mathlib.Core.Path.{◌≡◌, refl, ap, ◌∙◌}
use mathlib.Core.Bool.{true}
use mathlib.Core.List.{List, [], ◌∷◌, ◌++◌}
use mathlib.Core.Option.{some}
use lib.ListN.{get_elem?}
use Rattle.laws.specs.Words.{Word, letters_are_below}
use Rattle.laws.specs.Tables.{WordValue, Entry, Holds, Steps}
use Rattle.laws.specs.Profiles.{values}
use Rattle.laws.proofs.Booleans.{inside, not_nothing}
use Rattle.laws.proofs.Places.{In}
use Rattle.laws.proofs.Order.{letters_more}

module _ {Value : Type 0} where
  -- the value of an entry stands in the list of values at the entry's number, and nothing else does
  pub value_at : (es : List (Entry Value)) (i : ℕ) (e : Entry Value) → get_elem? es i ≡ some e → get_elem? (values es) i ≡ some e.value
  unfolding values
  value_at [] i e h = absurd (not_nothing h)
  value_at (f ∷ es) zero e h = ap (λ e. some e.value) (inside h)
  value_at (f ∷ es) (suc i) e h = value_at es i e h

  pub entry_at : (es : List (Entry Value)) (i : ℕ) (x : Value) → get_elem? (values es) i ≡ some x
      → (e : Entry Value) × (get_elem? es i ≡ some e) × (e.value ≡ x)
  unfolding values
  entry_at [] i x h = absurd (not_nothing h)
  entry_at (f ∷ es) zero x h = (f, refl, inside h)
  entry_at (f ∷ es) (suc i) x h = entry_at es i x h

module _ {Value : Type 0} {Val : WordValue Value} {k : ℕ} (es : List (Entry Value)) (h : Holds Val k es) where
  -- the value of a word over the events is found
  pub found : (w : Word) (x : Value) → letters_are_below k w ≡ true → Val.of w ≡ some x → In x (values es)
  found w x l v = let (i, e, e_at, e_value) = h.all w x l v in (i, value_at es i e e_at ∙ ap some e_value)

  -- so is the value after one event more
  pub found_next : Steps Val → (x : Value) (a : ℕ) → In x (values es) → a < k → In (Val.next (some x) a) (values es)
  found_next steps x a (i, at) l =
      let (e, e_at, e_value) = entry_at es i x at in
      let w : Word = h.word i in
      let v : Val.of w ≡ some x = h.word_value i e e_at ∙ ap some e_value in
      let letters = letters_more k w a (h.word_letters i e e_at) l in
      found (w ++ (a ∷ [])) (Val.next (some x) a) letters (rw (steps.more w a, v))
