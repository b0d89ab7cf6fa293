-- A table in the making that is not cut, with the words of its entries, and what comes of it when an entry with a later word is entered:
-- it goes on, with the value of that word in it, or it is cut, and there are more values than room.
use Prim.Native.Nat.{ℕ, ◌≤◌, ◌<◌}
use native.Mathlib.Omega.{arith}
use mathlib.Core.Path.{◌≡◌, refl, sym, ◌∙◌, subst}
use mathlib.Core.Logic.{◌⊎◌, inl, inr}
use mathlib.Core.Bool.{true, false, false≢true}
use mathlib.Core.List.{List, [], ◌∷◌, ◌++◌}
use mathlib.Core.Option.{some}
use lib.ListN.{length, get_or, get_elem?}
use Rattle.laws.specs.Words.{Word, letters_are_below, before}
use Rattle.laws.specs.Tables.{WordValue, Entry, Table, stored, enter, Steps}
use Rattle.laws.proofs.Booleans.{less}
use Rattle.laws.proofs.Members.{some_member, member_some, stands_in, member}
use Rattle.laws.proofs.Places.{place_below, length_one_more, at_old, at_new, at_get_d}
use Rattle.laws.proofs.Order.{before_itself, before_then, before_not}
use Rattle.laws.proofs.Entering.{cut_same, Entered, there, new, full, entered}
use Rattle.laws.proofs.Listed.{put, put_new, put_old, Listed, Next, add}

-- one more than room words over k events whose values all differ
pub record More {Value : Type 0} (Val : WordValue Value) (k room : ℕ) : Type 0 where
  pub word : ℕ → Word
  pub value : ℕ → Value
  pub letters : (i : ℕ) → i ≤ room → letters_are_below k (word i) ≡ true
  pub has : (i : ℕ) → i ≤ room → Val.of (word i) ≡ some (value i)
  pub differ : (i j : ℕ) → i ≤ room → j ≤ room → value i ≡ value j → i ≡ j

-- entries, more than room, have such words
pub more_listed : {Value : Type 0} {Val : WordValue Value} {k : ℕ} (room : ℕ) {es : List (Entry Value)} {w : ℕ → Word} → Entry Value
    → Listed Val k es w → room < length es → More Val k room
more_listed room {es} {w} d l n =
    record {
      word = w;
      value = λ i. (get_or es i d).value;
      letters = λ i h. l.letters i (get_or es i d) (at_get_d es i d (omega arith));
      has = λ i h. l.has i (get_or es i d) (at_get_d es i d (omega arith));
      differ = λ i j h g. l.once i j (get_or es i d) (get_or es j d) (at_get_d es i d (omega arith)) (at_get_d es j d (omega arith));
    }

module _ {Value : Type 0} (Val : WordValue Value) (k room : ℕ) where
  -- a table in the making that is not cut, with the words of its entries
  pub record Making (t : Table Value) : Type 0 where
    pub word : ℕ → Word
    pub uncut : t.cut ≡ false
    pub fits : length t.entries ≤ room
    pub listed : Listed Val k t.entries word

module _ {Value : Type 0} {Val : WordValue Value} {k room : ℕ} where
  -- the value x is there, with a word that is not after v
  pub record Found {t : Table Value} (s : Making Val k room t) (x : Value) (v : Word) : Type 0 where
    pub place : ℕ
    pub entry : Entry Value
    pub there_at : get_elem? t.entries place ≡ some entry
    pub value : entry.value ≡ x
    pub not_after : before v (s.word place) ≡ false

  -- all words so far are before v
  abbrev pub Low : {t : Table Value} → Making Val k room t → Word → Type 0
  Low {t} s v = (j : ℕ) → j < length t.entries → before (s.word j) v ≡ true

  -- v has been tried: its value x is there, and all words are before each word that v is before
  pub record Tried {t : Table Value} (s : Making Val k room t) (x : Value) (v : Word) : Type 0 where
    pub found : Found s x v
    pub low : (y : Word) → before v y ≡ true → Low s y

  -- from one table in the making to a later one
  pub record Onward {t t' : Table Value} (s : Making Val k room t) (s' : Making Val k room t') : Type 0 where
    pub longer : length t.entries ≤ length t'.entries
    pub kept : (j : ℕ) → j < length t.entries → get_elem? t'.entries j ≡ get_elem? t.entries j
    pub same : (j : ℕ) → j < length t.entries → s'.word j ≡ s.word j

  -- what comes of a table: it is cut, and there are more values than room, or it goes on
  pub data Outcome {t : Table Value} (s : Making Val k room t) (t' : Table Value) (Q : Making Val k room t' → Type 0) : Type 0 where
    over : t'.cut ≡ true → More Val k room → Outcome s t' Q
    on : (s' : Making Val k room t') → Onward s s' → Q s' → Outcome s t' Q

  -- a table goes on from itself
  pub onward_here : {t : Table Value} (s : Making Val k room t) → Onward s s
  onward_here s = record { longer = omega arith; kept = λ j h. refl; same = λ j h. refl }

  -- and from what it went on from
  pub onward_then : {t t' t'' : Table Value} {s : Making Val k room t} {s' : Making Val k room t'} {s'' : Making Val k room t''}
      → Onward s s' → Onward s' s'' → Onward s s''
  onward_then o p =
      record {
        longer = omega (arith, o.longer, p.longer);
        kept = λ j h. p.kept j (omega (arith, o.longer)) ∙ o.kept j h;
        same = λ j h. p.same j (omega (arith, o.longer)) ∙ o.same j h;
      }

  -- what was found stays so
  pub found_onward : {t t' : Table Value} {s : Making Val k room t} {s' : Making Val k room t'} {x : Value} {v : Word}
      → Onward s s' → Found s x v → Found s' x v
  found_onward {t} {v = v} o f =
      let b = place_below t.entries f.place f.there_at in
      record {
        place = f.place;
        entry = f.entry;
        there_at = o.kept f.place b ∙ f.there_at;
        value = f.value;
        not_after = rw (o.same f.place b) f.not_after;
      }

module _ {Value : Type 0} {Val : WordValue Value} (steps : Steps Val) where
  -- a value that is stored stands somewhere
  stored_at : (x : Value) (es : List (Entry Value)) → stored Val x es ≡ true
      → (i : ℕ) × (e : Entry Value) × (get_elem? es i ≡ some e) × (e.value ≡ x)
  unfolding stored
  stored_at x es h =
      let m = some_member (λ e. Val.same e.value x) es h in
      let p = stands_in m.1 in
      (p.0, m.0, p.1, steps.same_equal m.0.value x m.2)

  -- one that is not stored stands nowhere
  stored_nowhere : (x : Value) (es : List (Entry Value)) → stored Val x es ≡ false → (i : ℕ) (e : Entry Value) → get_elem? es i ≡ some e
      → e.value ≡ x → ⊥
  unfolding stored
  stored_nowhere x es h i e p q =
      false≢true (sym h ∙ member_some (λ f. Val.same f.value x) (member es (i, p)) (rw q (steps.equal_same x)))

module _ {Value : Type 0} {Val : WordValue Value} {k room : ℕ} {t : Table Value} (s : Making Val k room t) {e : Entry Value} {v : Word}
    (n : Next Val k t.entries s.word e v) where
  -- the value is there already
  there_already : (i : ℕ) (f : Entry Value) → get_elem? t.entries i ≡ some f → f.value ≡ e.value → Tried s e.value v
  there_already i f p q =
      record {
        found =
            record {
              place = i;
              entry = f;
              there_at = p;
              value = q;
              not_after = before_not (s.word i) v (n.last i (place_below t.entries i p));
            };
        low = λ y h j b. before_then (s.word j) v y (n.last j b) h;
      }

  -- it is new
  module _ (missing : (j : ℕ) (f : Entry Value) → get_elem? t.entries j ≡ some f → f.value ≡ e.value → ⊥) where
    -- the table with the entry
    with_entry : length t.entries < room → Making Val k room (record { entries = t.entries ++ (e ∷ []); cut = false })
    with_entry b =
        record {
          word = put s.word (length t.entries) v;
          uncut = refl;
          fits = omega (arith, length_one_more t.entries e);
          listed = add s.listed n missing;
        }

    -- goes on
    with_onward : (b : length t.entries < room) → Onward s (with_entry b)
    unfolding with_entry
    with_onward b =
        record {
          longer = omega (arith, length_one_more t.entries e);
          kept = at_old t.entries e;
          same = put_old s.word (length t.entries) v;
        }

    -- its words are before the words that v is before
    with_low : (y : Word) → before v y ≡ true → (j : ℕ) → (j < length t.entries) ⊎ (j ≡ length t.entries)
        → before (put s.word (length t.entries) v j) y ≡ true
    with_low y h j (inl b) = rw (put_old s.word (length t.entries) v j b) (before_then (s.word j) v y (n.last j b) h)
    with_low y h j (inr q) = rw (q, put_new s.word (length t.entries) v) h

    -- and v has been tried
    with_tried : (b : length t.entries < room) → Tried (with_entry b) e.value v
    unfolding with_entry
    with_tried b =
        record {
          found =
              record {
                place = length t.entries;
                entry = e;
                there_at = at_new t.entries e;
                value = refl;
                not_after = rw put_new (before_itself v);
              };
          low = λ y h j c. with_low y h j (less j (length t.entries) (omega (arith, length_one_more t.entries e)));
        }

module _ {Value : Type 0} {Val : WordValue Value} (steps : Steps Val) {k room : ℕ} {t : Table Value} (s : Making Val k room t)
    {e : Entry Value} {v : Word} (n : Next Val k t.entries s.word e v) where
  -- what entering it does
  outcome : {t' : Table Value} → Entered Val room e t t' → Outcome s t' (λ s'. Tried s' e.value v)
  outcome (there h p) =
      let a = stored_at steps e.value t.entries h in
      subst (λ (x : Table Value). Outcome s x (λ s'. Tried s' e.value v)) (sym p)
      (on s (onward_here s) (there_already s n a.0 a.1 a.2 a.3))
  outcome (new h b p) =
      let m = stored_nowhere steps e.value t.entries h in
      subst (λ (x : Table Value). Outcome s x (λ s'. Tried s' e.value v)) (sym p)
      (on (with_entry s n m b) (with_onward s n m b) (with_tried s n m b))
  outcome (full h b p) =
      let m = stored_nowhere steps e.value t.entries h in
      over (cut_same p)
      (more_listed room e (add s.listed n m) (omega (arith, s.fits, length_one_more t.entries e)))

  -- an entry with a later word is entered
  pub entering : Outcome s (enter Val room e t) (λ s'. Tried s' e.value v)
  entering = outcome (entered Val room e t s.uncut)
