-- Closing a table: an entry by all events, and the entries one after the other.
use Prim.Native.Nat.{ℕ, zero, suc, ◌+◌, ◌≤◌, ◌<◌}
use native.Mathlib.Nat.{eq-or-lt_of_le}
use native.Mathlib.Omega.{arith}
use mathlib.Core.Path.{◌≡◌, refl, sym, ap, ◌∙◌, subst}
use mathlib.Core.Logic.{⊎_elim}
use mathlib.Core.Bool.{true}
use mathlib.Core.List.{[], ◌∷◌, ◌++◌}
use mathlib.Core.Option.{Option, none, some}
use lib.ListN.{length, get_elem?}
use Rattle.laws.specs.Words.{Word, letters_are_below, before}
use Rattle.laws.specs.Tables.{WordValue, Entry, Table, Came, one_event, one_more, no_entry, enter, through_events, through_entries, Steps}
use Rattle.laws.proofs.Booleans.{less, inside}
use Rattle.laws.proofs.Places.{place_below, past_end, end_past}
use Rattle.laws.proofs.Order.{before_then, more_before, event_before, letters_more}
use Rattle.laws.proofs.Entering.{cut_same, events_still, entries_end, entries_on, entries_still}
use Rattle.laws.proofs.Listed.{put, put_new, put_old, Next}
use Rattle.laws.proofs.Making.{Making, Found, Low, Tried, Outcome, over, on, entering}
use Rattle.laws.proofs.Making.{Onward, onward_here, onward_then, found_onward}

module _ {Value : Type 0} {Val : WordValue Value} {k room : ℕ} where
  -- where the entries by one event more come from: from no entry, with the empty word, or from entry number i, with its word
  pub data Base {t : Table Value} (s : Making Val k room t) (i : ℕ) (u : Word) : Type 0 where
    no_entry_is : Val.of [] ≡ none → u ≡ [] → i ≡ no_entry → Base s i u
    of_entry : i < length t.entries → u ≡ s.word i → Base s i u

  -- also later
  base_onward : {t t' : Table Value} {s : Making Val k room t} {s' : Making Val k room t'} {i : ℕ} {u : Word}
      → Onward s s' → Base s i u → Base s' i u
  base_onward o (no_entry_is n p q) = no_entry_is n p q
  base_onward {i = i} o (of_entry b p) = of_entry (omega (arith, o.longer)) (p ∙ sym (o.same i b))

  -- so they came
  base_came : {t : Table Value} {s : Making Val k room t} {i : ℕ} {u : Word} (x : Value) (a : ℕ) → Base s i u
      → Came Val (put s.word (length t.entries) (u ++ (a ∷ []))) (length t.entries) (record { value = x; from = i; event = a })
  base_came {t} {s} {i} {u} x a (no_entry_is n p q) =
      one_event n (put_new s.word (length t.entries) (u ++ (a ∷ [])) ∙ ap (λ (y : Word). y ++ (a ∷ [])) p) q
  base_came {t} {s} {i} {u} x a (of_entry b p) =
      one_more b
      (put_new s.word (length t.entries) (u ++ (a ∷ []))
      ∙ ap (λ (y : Word). y ++ (a ∷ [])) (p ∙ sym (put_old s.word (length t.entries) (u ++ (a ∷ [])) i b)))

  -- the events from a on have been tried behind u, whose value is x
  pub record Behind (x : Option Value) (u : Word) (a : ℕ) {t : Table Value} (s : Making Val k room t) : Type 0 where
    pub found : (b : ℕ) → a ≤ b → b < k → Found s (Val.next x b) (u ++ (b ∷ []))
    pub low : Low s (u ++ (k ∷ []))

  -- the first of them, and then the others
  behind_one : {x : Option Value} {u : Word} {a : ℕ} {t t₁ t₂ : Table Value} {s : Making Val k room t} {s₁ : Making Val k room t₁}
      → Onward s s₁ → Tried s₁ (Val.next x a) (u ++ (a ∷ [])) → Outcome s₁ t₂ (Behind x u (suc a)) → Outcome s t₂ (Behind x u a)
  behind_one o r (over c m) = over c m
  behind_one {x} {u} {a} o r (on s₂ p g) =
      on s₂ (onward_then o p)
      (record {
        found =
            λ b h l.
            ⊎_elim
            (λ e. subst (λ (c : ℕ). Found s₂ (Val.next x c) (u ++ (c ∷ []))) e (found_onward p r.found))
            (λ h. g.found b h l)
            (eq-or-lt_of_le h);
        low = g.low;
      })

module _ {Value : Type 0} {Val : WordValue Value} (steps : Steps Val) {k room : ℕ} (i : ℕ) (x : Option Value) (u : Word)
    (letters : letters_are_below k u ≡ true) (has : Val.of u ≡ x) where
  -- the next entry by event a
  next_event : {t : Table Value} (s : Making Val k room t) → Base s i u → (a : ℕ) → a < k → Low s (u ++ (a ∷ []))
      → Next Val k t.entries s.word (record { value = Val.next x a; from = i; event = a }) (u ++ (a ∷ []))
  next_event s b a h low =
      record {
        letters = letters_more k u a letters h;
        has = steps.more u a ∙ ap (λ (y : Option Value). some (Val.next y a)) has;
        last = low;
        came = base_came (Val.next x a) a b;
      }

  -- all events from a on
  pub by_each_event : (d a : ℕ) → a + d ≡ k → {t : Table Value} (s : Making Val k room t) → Base s i u → Low s (u ++ (a ∷ []))
      → Outcome s (through_events Val room i x d a t) (Behind x u a)
  unfolding through_events
  by_each_event zero a p s base low =
      on s (onward_here s)
      (record { found = λ b h l. absurd (omega arith); low = subst (λ (c : ℕ). Low s (u ++ (c ∷ []))) (omega arith) low })
  by_each_event (suc d) a p {t} s base low =
      go (entering steps s (next_event s base a (omega arith) low)) (by_each_event d (suc a) (omega arith))
    where
      t₁ : Table Value
      t₁ = enter Val room (record { value = Val.next x a; from = i; event = a }) t

      go : Outcome s t₁ (λ s₁. Tried s₁ (Val.next x a) (u ++ (a ∷ [])))
          → ((s₁ : Making Val k room t₁) → Base s₁ i u → Low s₁ (u ++ (suc a ∷ []))
          → Outcome s₁ (through_events Val room i x d (suc a) t₁) (Behind x u (suc a)))
          → Outcome s (through_events Val room i x d (suc a) t₁) (Behind x u a)
      go (over c m) rest = over (cut_same (events_still Val room i x d (suc a) t₁ c) ∙ c) m
      go (on s₁ o r) rest =
          behind_one o r (rest s₁ (base_onward o base) (r.low (u ++ (suc a ∷ [])) (event_before u a (suc a) (omega arith))))

module _ {Value : Type 0} {Val : WordValue Value} {k room : ℕ} where
  -- entry number j went by all events
  abbrev Spent : {t : Table Value} → Making Val k room t → ℕ → Type 0
  Spent {t} s j =
      (e : Entry Value) (b : ℕ) → get_elem? t.entries j ≡ some e → b < k → Found s (Val.next (some e.value) b) (s.word j ++ (b ∷ []))

  -- also later
  spent_onward : {t t' : Table Value} {s : Making Val k room t} {s' : Making Val k room t'} {j : ℕ} → j < length t.entries
      → Onward s s' → Spent s j → Spent s' j
  spent_onward {s' = s'} {j = j} l o c e b p h =
      subst (λ (y : Word). Found s' (Val.next (some e.value) b) (y ++ (b ∷ []))) (sym (o.same j l))
      (found_onward o (c e b (sym (o.kept j l) ∙ p) h))

  -- an entry behind whose word all events have been tried
  spent_behind : {t t' : Table Value} {s : Making Val k room t} {s' : Making Val k room t'} {i : ℕ} {e : Entry Value}
      → get_elem? t.entries i ≡ some e → Onward s s' → Behind (some e.value) (s.word i) 0 s' → Spent s' i
  spent_behind {t} {s = s} {s' = s'} {i = i} {e = e} p o g f b q h =
      let l = place_below t.entries i p in
      let same : f ≡ e = inside (sym q ∙ o.kept i l ∙ p) in
      rw (same, o.same i l) (g.found b (omega arith) h)

  -- the words are before those of the next entry by an event
  pub low_next : {x : Option Value} {u : Word} {a : ℕ} {t : Table Value} {s : Making Val k room t} → Behind x u a s
      → (i : ℕ) → before u (s.word i) ≡ true → Low s (s.word i ++ (0 ∷ []))
  low_next {u = u} {s = s} g i h j b =
      before_then (s.word j) (u ++ (k ∷ [])) (s.word i ++ (0 ∷ [])) (g.low j b) (more_before u (s.word i) k 0 h)

  -- what comes of a later table comes of the first
  outcome_onward : {t t₁ t₂ : Table Value} {s : Making Val k room t} {s₁ : Making Val k room t₁} {Q : Making Val k room t₂ → Type 0}
      → Onward s s₁ → Outcome s₁ t₂ Q → Outcome s t₂ Q
  outcome_onward o (over c m) = over c m
  outcome_onward o (on s₂ p q) = on s₂ (onward_then o p) q

  -- all did
  abbrev pub AllSpent : {t : Table Value} → Making Val k room t → Type 0
  AllSpent s = (j : ℕ) → Spent s j

  -- the entries below number i did, and entry number i may
  pub record Reached (i : ℕ) {t : Table Value} (s : Making Val k room t) : Type 0 where
    pub spent : (j : ℕ) → j < i → Spent s j
    pub low : i < length t.entries → Low s (s.word i ++ (0 ∷ []))

  -- where there is no entry number i, all did
  ended : (d i : ℕ) {t : Table Value} {s : Making Val k room t} → Reached i s → get_elem? t.entries i ≡ none
      → Outcome s (through_entries Val k room d i t) AllSpent
  ended d i {t} {s} r h =
      subst (λ (x : Table Value). Outcome s x AllSpent) (sym (entries_end Val k room d i t h))
      (on s (onward_here s) (λ j e b p. r.spent j (omega (arith, end_past t.entries i h, place_below t.entries j p)) e b p))

  -- when entry number i did, the next one may
  reached_next : {i : ℕ} {t t₁ : Table Value} {s : Making Val k room t} {s₁ : Making Val k room t₁} {e : Entry Value}
      → Reached i s → get_elem? t.entries i ≡ some e → Onward s s₁ → Behind (some e.value) (s.word i) 0 s₁ → Reached (suc i) s₁
  reached_next {i} {t} {s₁ = s₁} r h o g =
      let l = place_below t.entries i h in
      record {
        spent =
            λ j b.
            ⊎_elim
            (λ n. spent_onward (omega arith) o (r.spent j n))
            (λ q. subst (Spent s₁) (sym q) (spent_behind h o g))
            (less j i b);
        low = λ b. low_next g (suc i) (rw (← (o.same i l)) (s₁.listed.ordered i (suc i) (omega arith) b));
      }

  -- so the others follow
  then_others : (d i : ℕ) {t t₁ : Table Value} {s : Making Val k room t} {e : Entry Value} → Reached i s → get_elem? t.entries i ≡ some e
      → ((s₁ : Making Val k room t₁) → Reached (suc i) s₁ → Outcome s₁ (through_entries Val k room d (suc i) t₁) AllSpent)
      → Outcome s t₁ (Behind (some e.value) (s.word i) 0) → Outcome s (through_entries Val k room d (suc i) t₁) AllSpent
  then_others d i {t₁ = t₁} r h rest (over c m) = over (cut_same (entries_still Val k room d (suc i) t₁ c) ∙ c) m
  then_others d i r h rest (on s₁ o g) = outcome_onward o (rest s₁ (reached_next r h o g))

module _ {Value : Type 0} {Val : WordValue Value} (steps : Steps Val) {k room : ℕ} where
  -- all entries from number i on
  pub by_entries : (d i : ℕ) → d + i ≡ room → {t : Table Value} (s : Making Val k room t) → Reached i s
      → Outcome s (through_entries Val k room d i t) AllSpent
  by_entries zero i p {t} s r = ended zero i r (past_end t.entries i (omega (arith, s.fits)))
  by_entries (suc d) i p {t} s r = go (get_elem? t.entries i) refl (λ t₁. by_entries d (suc i) (omega arith) {t = t₁})
    where
      go : (o : Option (Entry Value)) → get_elem? t.entries i ≡ o
          → ((t₁ : Table Value) (s₁ : Making Val k room t₁) → Reached (suc i) s₁ → Outcome s₁ (through_entries Val k room d (suc i) t₁) AllSpent)
          → Outcome s (through_entries Val k room (suc d) i t) AllSpent
      go none h rest = ended (suc d) i r h
      go (some e) h rest =
          let l = place_below t.entries i h in
          let letters = s.listed.letters i e h in
          let has = s.listed.has i e h in
          rw (entries_on Val k room d i t e h)
          (then_others d i r h (rest _)
          (by_each_event steps i (some e.value) (s.word i) letters has k 0 (omega arith) s (of_entry l refl) (r.low l)))
