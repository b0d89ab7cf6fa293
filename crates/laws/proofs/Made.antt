-- What closing makes: a table that is not cut holds all values, and one that is cut has found more of them than there is room.
use Prim.Native.Nat.{ℕ, ◌<◌}
use native.Mathlib.Omega.{arith}
use mathlib.Core.Path.{◌≡◌, refl, sym, ap, ◌∙◌, subst}
use mathlib.Core.Logic.{⊎_elim}
use mathlib.Core.Bool.{true, false}
use mathlib.Core.List.{[], ◌∷◌, ◌++◌}
use mathlib.Core.Option.{Option, none, some}
use lib.ListN.{length}
use Rattle.laws.specs.Words.{Word, letters_are_below, before}
use Rattle.laws.specs.Tables.{WordValue, Table, empty_word, Holds, no_entry, through_entries, begun, made, Steps}
use Rattle.laws.proofs.Booleans.{either, inside, not_nothing, never}
use Rattle.laws.proofs.Places.{element}
use Rattle.laws.proofs.Order.{neither_before, none_before_empty, not_after_then, more_not_after, more_not_empty, letters_less}
use Rattle.laws.proofs.Order.{from_the_end}
use Rattle.laws.proofs.Entering.{cut_same, entries_still}
use Rattle.laws.proofs.Listed.{put_new}
use Rattle.laws.proofs.Making.{Making, Found, Low, Tried, Onward, Outcome, over, on, found_onward, entering}
use Rattle.laws.proofs.Closing.{no_entry_is, Behind, by_each_event, low_next, AllSpent, Reached, by_entries}
pub use Rattle.laws.proofs.Making.{More}

-- the empty word is before any other
empty_before : (v : Word) → (v ≡ [] → ⊥) → before [] v ≡ true
empty_before v h = ⊎_elim (λ t. t) (λ f. absurd (h (sym (neither_before [] v f (none_before_empty v))))) (either (before [] v))

module _ {Value : Type 0} {Val : WordValue Value} {k room : ℕ} where
  -- the values that no entry leads to are there: that of the empty word, or, where it has none, those of one event
  record Roots {t : Table Value} (s : Making Val k room t) : Type 0 where
    empty_found : (x : Value) → Val.of [] ≡ some x → Found s x []
    event_found : Val.of [] ≡ none → (b : ℕ) → b < k → Found s (Val.next none b) (b ∷ [])

  -- also later
  roots_onward : {t t' : Table Value} {s : Making Val k room t} {s' : Making Val k room t'} → Onward s s' → Roots s → Roots s'
  roots_onward o r =
      record { empty_found = λ x h. found_onward o (r.empty_found x h); event_found = λ h b l. found_onward o (r.event_found h b l) }

  -- a table has begun
  record Begun {t : Table Value} (s : Making Val k room t) : Type 0 where
    roots : Roots s
    reached : Reached 0 s

  -- when these values are there, and the words are before those of the first entry by an event
  begins : {t : Table Value} {s : Making Val k room t} → Roots s → (0 < length t.entries → Low s (s.word 0 ++ (0 ∷ []))) → Begun s
  begins r low = record { roots = r; reached = record { spent = λ j l. absurd (omega arith); low = low } }

module _ {Value : Type 0} {Val : WordValue Value} (steps : Steps Val) {k room : ℕ} where
  -- a table without entries
  no_entries : Making Val k room (record { entries = []; cut = false })
  no_entries =
      record {
        word = λ i. [];
        uncut = refl;
        fits = omega arith;
        listed =
            record {
              letters = λ i e h. absurd (not_nothing h);
              has = λ i e h. absurd (not_nothing h);
              once = λ i j e f h. absurd (not_nothing h);
              ordered = λ i j l b. absurd (omega arith);
              came = λ i e h. absurd (not_nothing h);
            };
      }

  -- where the empty word has no value, a table begins with those of one event
  begun_events : {t : Table Value} → Val.of [] ≡ none → Outcome no_entries t (Behind none [] 0) → Outcome no_entries t Begun
  begun_events n (over c m) = over c m
  begun_events {t} n (on s o g) =
      on s o
      (begins
      (record { empty_found = λ x h. absurd (not_nothing (sym n ∙ h)); event_found = λ h b l. g.found b (omega arith) l })
      (λ l.
      let e = element t.entries 0 l in
      low_next g 0 (empty_before (s.word 0) (λ q. not_nothing (sym n ∙ ap Val.of (sym q) ∙ s.listed.has 0 e.0 e.1)))))

  -- where it has one, with that
  begun_empty : {t : Table Value} {x : Value} → Val.of [] ≡ some x → Outcome no_entries t (λ s. Tried s x []) → Outcome no_entries t Begun
  begun_empty h (over c m) = over c m
  begun_empty {x = x} h (on s o r) =
      on s o
      (begins
      (record {
        empty_found = λ y q. subst (λ (z : Value). Found s z []) (inside (sym h ∙ q)) r.found;
        event_found = λ n. absurd (not_nothing (sym n ∙ h));
      })
      (λ l. r.low (s.word 0 ++ (0 ∷ [])) (empty_before (s.word 0 ++ (0 ∷ [])) (more_not_empty (s.word 0) 0))))

  -- so it begins
  has_begun : (x : Option Value) → Val.of [] ≡ x → Outcome no_entries (begun Val k room x) Begun
  unfolding begun letters_are_below no_entries
  has_begun none h =
      begun_events h
      (by_each_event steps no_entry none [] refl h k 0 (omega arith) no_entries (no_entry_is h refl refl) (λ j b. absurd (omega arith)))
  has_begun (some x) h =
      begun_empty h
      (entering steps no_entries
      (record {
        letters = refl;
        has = h;
        last = λ j b. absurd (omega arith);
        came = empty_word (put_new (λ i. []) 0 []) refl refl;
      }))

module _ {Value : Type 0} {Val : WordValue Value} (steps : Steps Val) {k room : ℕ} {t : Table Value} (s : Making Val k room t) (r : Roots s)
    (c : AllSpent s) where
  -- only the empty word may have no value
  only_empty : (v : Word) → Val.of v ≡ none → v ≡ []
  only_empty = from_the_end {P = λ v. Val.of v ≡ none → v ≡ []} (λ h. refl) (λ v a ih h. absurd (not_nothing (sym h ∙ steps.more v a)))

  -- the value of a word with one event more is there, where that of the word is
  found_more : (v : Word) (a : ℕ) → a < k → (o : Option Value) → Val.of v ≡ o → ((y : Value) → o ≡ some y → Found s y v)
      → Found s (Val.next o a) (v ++ (a ∷ []))
  found_more v a l none h ih = rw (only_empty v h) (r.event_found (ap Val.of (sym (only_empty v h)) ∙ h) a l)
  found_more v a l (some y) h ih =
      let f = ih y refl in
      let g = c f.place f.entry a f.there_at l in
      record {
        place = g.place;
        entry = g.entry;
        there_at = g.there_at;
        value = g.value ∙ ap (λ (x : Value). Val.next (some x) a) f.value;
        not_after =
            not_after_then (s.word g.place) (s.word f.place ++ (a ∷ [])) (v ++ (a ∷ [])) g.not_after
            (more_not_after (s.word f.place) v a f.not_after);
      }

  -- the value of every word is there
  found_all : (v : Word) → letters_are_below k v ≡ true → (x : Value) → Val.of v ≡ some x → Found s x v
  found_all =
      from_the_end {P = λ v. letters_are_below k v ≡ true → (x : Value) → Val.of v ≡ some x → Found s x v}
      (λ l x h. r.empty_found x h)
      (λ v a ih l x h.
      let parts = letters_less k v a l in
      subst (λ (y : Value). Found s y (v ++ (a ∷ []))) (inside (sym (steps.more v a) ∙ h))
      (found_more v a parts.1 (Val.of v) refl (ih parts.0)))

  -- so the table holds all values, each at the place of its least word
  holds : Holds Val k t.entries
  holds =
      record {
        word = s.word;
        word_letters = s.listed.letters;
        word_value = s.listed.has;
        word_least =
            λ i e p v l h.
            let f = found_all v l e.value h in
            let q = s.listed.once f.place i f.entry e f.there_at p f.value in
            subst (λ (j : ℕ). before v (s.word j) ≡ false) q f.not_after;
        all = λ v x l h. let f = found_all v l x h in (f.place, f.entry, f.there_at, f.value);
        once = s.listed.once;
        ordered = s.listed.ordered;
        came = s.listed.came;
      }

-- how making a table ends: it is cut, and there are more values than room, or it holds all values
data Ends {Value : Type 0} (Val : WordValue Value) (k room : ℕ) (t : Table Value) : Type 0 where
  is_cut : t.cut ≡ true → More Val k room → Ends Val k room t
  is_whole : t.cut ≡ false → Holds Val k t.entries → Ends Val k room t

module _ {Value : Type 0} {Val : WordValue Value} (steps : Steps Val) {k room : ℕ} where
  -- when all entries went by all events
  ends : {t t' : Table Value} {s : Making Val k room t} → Roots s → Outcome s t' AllSpent → Ends Val k room t'
  ends r (over c m) = is_cut c m
  ends r (on s o c) = is_whole s.uncut (holds steps s (roots_onward o r) c)

  -- when a table has begun
  begun_ends : {t t' : Table Value} {s : Making Val k room t} → Outcome s t' Begun → Ends Val k room (through_entries Val k room room 0 t')
  begun_ends {t' = t'} (over c m) = is_cut (cut_same (entries_still Val k room room 0 t' c) ∙ c) m
  begun_ends (on s o b) = ends b.roots (by_entries steps room 0 (omega arith) s b.reached)

module _ {Value : Type 0} {Val : WordValue Value} (steps : Steps Val) (k room : ℕ) where
  -- when it is made
  made_ends : Ends Val k room (made Val k room)
  unfolding made
  made_ends = begun_ends steps (has_begun steps (Val.of []) refl)

  -- a table that is not cut holds all values
  pub made_holds : (made Val k room).cut ≡ false → Holds Val k (made Val k room).entries
  made_holds h = go made_ends
    where
      go : Ends Val k room (made Val k room) → Holds Val k (made Val k room).entries
      go (is_cut c m) = never (sym h ∙ c)
      go (is_whole u t) = t

  -- one that is cut has found more values than room
  pub made_cut : (made Val k room).cut ≡ true → More Val k room
  made_cut h = go made_ends
    where
      go : Ends Val k room (made Val k room) → More Val k room
      go (is_cut c m) = m
      go (is_whole u t) = never (sym u ∙ h)
