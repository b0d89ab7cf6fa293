-- The order of words: nothing is before itself, the order is transitive and total, and one event more at the end keeps it.
-- Then words by their ends: the last event of a word, its letters, and induction from the end.
use Prim.Native.Nat.{ℕ, zero, suc, ◌<◌}
use native.Mathlib.Omega.{arith}
use mathlib.Core.Path.{◌≡◌, refl, sym, ap, ap₂, ◌∙◌, subst}
use mathlib.Core.Logic.{◌⊎◌, inl, inr, ⊎_elim}
use mathlib.Core.Bool.{Bool, true, false, ◌&&◌, ◌||◌, false≢true, and-eq-true_iff}
use mathlib.Core.List.{[], ◌∷◌, ◌++◌, append_assoc, append-nil}
use lib.ListN.{length}
use lib.Dec.{ltb, eqb}
use borrow.Author.Tests.{ltb-true, ltb-false, eqb-true, lt-ltb, le-ltb, eq-eqb}
use Rattle.laws.specs.Words.{Word, power, letters_are_below, lower, before}
use Rattle.laws.proofs.Booleans.{never}
use Rattle.laws.proofs.Places.{length_one_more}

-- what is not true is false
refuted : (b : Bool) → (b ≡ true → ⊥) → b ≡ false
refuted true h = absurd (h refl)
refuted false h = refl

-- the order of two numbers, and where they are the same, c: how `lower` goes on at each event, and `before` from lengths to events
abbrev lex : ℕ → ℕ → Bool → Bool
lex m n c = ltb m n || (eqb m n && c)

-- what it says
lex_says : (m n : ℕ) (c : Bool) → lex m n c ≡ true → (m < n) ⊎ ((m ≡ n) × (c ≡ true))
lex_says m n c h = go (ltb m n) refl
  where
    go : (b : Bool) → ltb m n ≡ b → (m < n) ⊎ ((m ≡ n) × (c ≡ true))
    go true e = inl (ltb-true m n e)
    go false e =
        let both = (and-eq-true_iff (eqb m n) c).0 (rw e at h) in
        inr (eqb-true m n both.0, both.1)

-- it holds where the first number is lower
lex_lower : (m n : ℕ) (c : Bool) → m < n → lex m n c ≡ true
lex_lower m n c h = rw (lt-ltb m n)

-- and where they are the same, if c does
lex_same : (m n : ℕ) (c : Bool) → m ≡ n → c ≡ true → lex m n c ≡ true
lex_same m n c e h = rw (le-ltb m n (omega arith), eq-eqb m n e) h

-- not of a number and itself, without c
lex_itself : (m : ℕ) (c : Bool) → c ≡ false → lex m m c ≡ false
lex_itself m c h = rw (le-ltb m m (omega arith), eq-eqb m m refl) h

-- one such order behind another
lex_then : (m n o : ℕ) (c d e : Bool) → (c ≡ true → d ≡ true → e ≡ true) → lex m n c ≡ true → lex n o d ≡ true → lex m o e ≡ true
lex_then m n o c d e f h k = go (lex_says m n c h) (lex_says n o d k)
  where
    go : (m < n) ⊎ ((m ≡ n) × (c ≡ true)) → (n < o) ⊎ ((n ≡ o) × (d ≡ true)) → lex m o e ≡ true
    go (inl p) (inl q) = lex_lower m o e (omega arith)
    go (inl p) (inr q) = lex_lower m o e (omega arith)
    go (inr p) (inl q) = lex_lower m o e (omega arith)
    go (inr p) (inr q) = lex_same m o e (omega arith) (f p.1 q.1)

-- it holds one way or the other, if it does so where the numbers are the same
lex_or : {E : Type 0} (m n : ℕ) (c d : Bool) → (m ≡ n → (c ≡ true) ⊎ (E ⊎ (d ≡ true))) → (lex m n c ≡ true) ⊎ (E ⊎ (lex n m d ≡ true))
lex_or {E} m n c d f = go (ltb m n) (ltb n m) refl refl
  where
    same : m ≡ n → (c ≡ true) ⊎ (E ⊎ (d ≡ true)) → (lex m n c ≡ true) ⊎ (E ⊎ (lex n m d ≡ true))
    same e (inl h) = inl (lex_same m n c e h)
    same e (inr (inl h)) = inr (inl h)
    same e (inr (inr h)) = inr (inr (lex_same n m d (sym e) h))

    go : (b b' : Bool) → ltb m n ≡ b → ltb n m ≡ b' → (lex m n c ≡ true) ⊎ (E ⊎ (lex n m d ≡ true))
    go true b' p q = inl (lex_lower m n c (ltb-true m n p))
    go false true p q = inr (inr (lex_lower n m d (ltb-true n m q)))
    go false false p q = let e : m ≡ n = omega (arith, ltb-false m n p, ltb-false n m q) in same e (f e)

-- no word is lower than itself
lower_itself : (x : Word) → lower x x ≡ false
unfolding lower
lower_itself [] = refl
lower_itself (a ∷ x) = lex_itself a (lower x x) (lower_itself x)

-- a word lower than a lower one is lower
lower_then : (x y z : Word) → lower x y ≡ true → lower y z ≡ true → lower x z ≡ true
unfolding lower
lower_then [] y z h k = never h
lower_then (a ∷ x) [] z h k = never h
lower_then (a ∷ x) (b ∷ y) [] h k = never k
lower_then (a ∷ x) (b ∷ y) (c ∷ z) h k = lex_then a b c (lower x y) (lower y z) (lower x z) (lower_then x y z) h k

-- two words of one length are the same, or one is lower
lower_or : (x y : Word) → length x ≡ length y → (lower x y ≡ true) ⊎ ((x ≡ y) ⊎ (lower y x ≡ true))
unfolding lower
lower_or [] [] l = inr (inl refl)
lower_or [] (b ∷ y) l = absurd (omega arith)
lower_or (a ∷ x) [] l = absurd (omega arith)
lower_or (a ∷ x) (b ∷ y) l = lex_or a b (lower x y) (lower y x) (λ e. go e (lower_or x y (omega arith)))
  where
    go : a ≡ b → (lower x y ≡ true) ⊎ ((x ≡ y) ⊎ (lower y x ≡ true)) → (lower x y ≡ true) ⊎ ((a ∷ x ≡ b ∷ y) ⊎ (lower y x ≡ true))
    go e (inl h) = inl h
    go e (inr (inl h)) = inr (inl (cc))
    go e (inr (inr h)) = inr (inr h)

-- a lower word stays lower, whatever stands behind
lower_more : (x y s t : Word) → lower x y ≡ true → lower (x ++ s) (y ++ t) ≡ true
unfolding lower
lower_more [] y s t h = never h
lower_more (a ∷ x) [] s t h = never h
lower_more (a ∷ x) (b ∷ y) s t h =
    ⊎_elim
    (lex_lower a b (lower (x ++ s) (y ++ t)))
    (λ e. lex_same a b (lower (x ++ s) (y ++ t)) e.0 (lower_more x y s t e.1))
    (lex_says a b (lower x y) h)

-- nothing is before itself
pub before_itself : (x : Word) → before x x ≡ false
unfolding before
before_itself x = lex_itself (length x) (lower x x) (lower_itself x)

-- a word before one that is before a third is before the third
pub before_then : (x y z : Word) → before x y ≡ true → before y z ≡ true → before x z ≡ true
unfolding before
before_then x y z = lex_then (length x) (length y) (length z) (lower x y) (lower y z) (lower x z) (lower_then x y z)

-- of two words one is before the other, or they are the same
before_or : (x y : Word) → (before x y ≡ true) ⊎ ((x ≡ y) ⊎ (before y x ≡ true))
unfolding before
before_or x y = lex_or (length x) (length y) (lower x y) (lower y x) (lower_or x y)

-- not both of two words are before the other
pub before_not : (x y : Word) → before x y ≡ true → before y x ≡ false
before_not x y h = refuted (before y x) (λ k. false≢true (sym (before_itself x) ∙ before_then x y x h k))

-- two words of which neither is before the other are the same
pub neither_before : (x y : Word) → before x y ≡ false → before y x ≡ false → x ≡ y
neither_before x y h k =
    ⊎_elim (λ b. never (sym h ∙ b)) (⊎_elim (λ e. e) (λ b. never (sym k ∙ b))) (before_or x y)

-- a word before one that is not after a third is before the third
before_not_after : (x y z : Word) → before x y ≡ true → before z y ≡ false → before x z ≡ true
before_not_after x y z h k =
    ⊎_elim
    (before_then x y z h)
    (⊎_elim (λ e. rw (← e) h) (λ b. never (sym k ∙ b)))
    (before_or y z)

-- a word not after one that is not after a third is not after the third
pub not_after_then : (x y z : Word) → before y x ≡ false → before z y ≡ false → before z x ≡ false
not_after_then x y z h k = refuted (before z x) (λ b. false≢true (sym k ∙ before_not_after z x y b h))

-- a shorter word is before a longer one
shorter_before : (x y : Word) → length x < length y → before x y ≡ true
unfolding before
shorter_before x y h = lex_lower (length x) (length y) (lower x y) h

-- a lower word is before one of the same length
lower_before : (x y : Word) → length x ≡ length y → lower x y ≡ true → before x y ≡ true
unfolding before
lower_before x y e h = lex_same (length x) (length y) (lower x y) e h

-- nothing is before the empty word
pub none_before_empty : (x : Word) → before x [] ≡ false
none_before_empty [] = before_itself []
none_before_empty (a ∷ x) = before_not [] (a ∷ x) (shorter_before [] (a ∷ x) (omega arith))

-- an event more behind each of two words keeps their order
pub more_before : (x y : Word) (a b : ℕ) → before x y ≡ true → before (x ++ (a ∷ [])) (y ++ (b ∷ [])) ≡ true
unfolding before
more_before x y a b h =
    ⊎_elim
    (λ (s : length x < length y). shorter_before (x ++ (a ∷ [])) (y ++ (b ∷ [])) (simp length_one_more (omega arith)))
    (λ e. lower_before (x ++ (a ∷ [])) (y ++ (b ∷ [])) (simp length_one_more (ap suc e.0)) (lower_more x y (a ∷ []) (b ∷ []) e.1))
    (lex_says (length x) (length y) (lower x y) h)

-- behind one word, the lower event makes the lower word
lower_event : (x : Word) (a b : ℕ) → a < b → lower (x ++ (a ∷ [])) (x ++ (b ∷ [])) ≡ true
unfolding lower
lower_event [] a b h = lex_lower a b false h
lower_event (c ∷ x) a b h = lex_same c c (lower (x ++ (a ∷ [])) (x ++ (b ∷ []))) refl (lower_event x a b h)

-- and the one that is before
pub event_before : (x : Word) (a b : ℕ) → a < b → before (x ++ (a ∷ [])) (x ++ (b ∷ [])) ≡ true
event_before x a b h = lower_before (x ++ (a ∷ [])) (x ++ (b ∷ [])) (simp length_one_more) (lower_event x a b h)

-- the same event behind two words keeps that one is not after the other
pub more_not_after : (x y : Word) (a : ℕ) → before y x ≡ false → before (y ++ (a ∷ [])) (x ++ (a ∷ [])) ≡ false
more_not_after x y a h =
    ⊎_elim
    (λ b. before_not (x ++ (a ∷ [])) (y ++ (a ∷ [])) (more_before x y a a b))
    (⊎_elim (λ e. rw e (before_itself (y ++ (a ∷ [])))) (λ b. never (sym h ∙ b)))
    (before_or x y)

-- a word with an event more is not empty
pub more_not_empty : (x : Word) (a : ℕ) → x ++ (a ∷ []) ≡ [] → ⊥
more_not_empty x a e = omega (arith, length_one_more x a, ap length e)

-- words that are the same with an event more were the same, and the events are
pub same_more : (x y : Word) (a b : ℕ) → x ++ (a ∷ []) ≡ y ++ (b ∷ []) → (x ≡ y) × (a ≡ b)
same_more [] [] a b e = (refl, cc)
same_more [] (d ∷ y) a b e = absurd (omega (arith, ap length e, length_one_more y b))
same_more (c ∷ x) [] a b e = absurd (omega (arith, ap length e, length_one_more x a))
same_more (c ∷ x) (d ∷ y) a b e =
    let tails : x ++ (a ∷ []) ≡ y ++ (b ∷ []) = cc in
    let s = same_more x y a b tails in
    let heads : c ≡ d = cc in
    (ap₂ ◌∷◌ heads s.0, s.1)

-- two words over k events, one behind the other, are one
pub letters_join : (k : ℕ) (x y : Word) → letters_are_below k x ≡ true → letters_are_below k y ≡ true → letters_are_below k (x ++ y) ≡ true
unfolding letters_are_below
letters_join k [] y h l = l
letters_join k (a ∷ x) y h l =
    let both = (and-eq-true_iff (ltb a k) (letters_are_below k x)).0 h in
    (and-eq-true_iff (ltb a k) (letters_are_below k (x ++ y))).1 (both.0, letters_join k x y both.1 l)

-- and of a word repeated
pub letters_power : (k i : ℕ) (v : Word) → letters_are_below k v ≡ true → letters_are_below k (power i v) ≡ true
unfolding letters_are_below power
letters_power k zero v h = refl
letters_power k (suc i) v h = letters_join k v (power i v) h (letters_power k i v h)

-- and the parts of one are words over k events
letters_parts : (k : ℕ) (x y : Word) → letters_are_below k (x ++ y) ≡ true → (letters_are_below k x ≡ true) × (letters_are_below k y ≡ true)
unfolding letters_are_below
letters_parts k [] y h = (refl, h)
letters_parts k (a ∷ x) y h =
    let both = (and-eq-true_iff (ltb a k) (letters_are_below k (x ++ y))).0 h in
    let parts = letters_parts k x y both.1 in
    ((and-eq-true_iff (ltb a k) (letters_are_below k x)).1 (both.0, parts.0), parts.1)

-- an event more behind a word over k events
pub letters_more : (k : ℕ) (x : Word) (a : ℕ) → letters_are_below k x ≡ true → a < k → letters_are_below k (x ++ (a ∷ [])) ≡ true
unfolding letters_are_below
letters_more k x a h l = letters_join k x (a ∷ []) h (rw (lt-ltb a k))

-- the word before the last event, and that event
pub letters_less : (k : ℕ) (x : Word) (a : ℕ) → letters_are_below k (x ++ (a ∷ [])) ≡ true → (letters_are_below k x ≡ true) × (a < k)
unfolding letters_are_below
letters_less k x a h =
    let parts = letters_parts k x (a ∷ []) h in
    (parts.0, ltb-true a k ((and-eq-true_iff (ltb a k) true).0 parts.1).0)

-- induction on a word from its end
pub from_the_end : {P : Word → Type 0} → P [] → ((w : Word) (a : ℕ) → P w → P (w ++ (a ∷ []))) → (w : Word) → P w
from_the_end {P} none more w = go [] w none
  where
    go : (v w : Word) → P v → P (v ++ w)
    go v [] h = rw append-nil h
    go v (a ∷ w) h = subst P (append_assoc v (a ∷ []) w) (go (v ++ (a ∷ [])) w (more v a h))
