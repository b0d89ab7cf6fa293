-- The listed arrows are sorted by from, then event, then to, and none is listed twice: for any sets, profiles and blocks.
use Prim.Native.Nat.{ℕ, zero, suc, ◌+◌, ◌≤◌, ◌<◌}
use native.Mathlib.Omega.{arith}
use mathlib.Core.Path.{◌≡◌, refl, sym, ap, ◌∙◌}
use mathlib.Core.Bool.{Bool, true, false, cond}
use mathlib.Core.Logic.{⊎_elim}
use mathlib.Core.List.Memᴰ.{head}
use mathlib.Core.List.Memᴰ.{tail}
use mathlib.Core.List.{List, [], ◌∷◌, ◌++◌, Memᴰ as Member}
use mathlib.Core.List.Memᴰ.{cases_cons}
use mathlib.Core.List.Memᴰ.{eq_of_singleton}
use mathlib.Core.List.Memᴰ.{append_cases}
use mathlib.Core.Option.{some}
use lib.ListN.{length, get_elem?}
use lib.Dec.{eqb, ltb}
use borrow.Author.Tests.{eq-eqb, lt-ltb, le-ltb}
use Rattle.laws.specs.Bits.{counted, every_of, gather, place_of, each_below}
use Rattle.laws.specs.Model.{Machine}
use Rattle.laws.specs.Profiles.{Profile, same_profile, join, after, event_profile}
use Rattle.laws.specs.Opposite.{Arrow, arrow, earlier, sorted, rejects_non_empty, gate, in_block, onto}
use Rattle.laws.specs.Opposite.{from_set, from_gate, from_state, from_block, arrows}
use Rattle.laws.proofs.Booleans.{both, and_left, and_right, or_left, or_right, never, not_nothing}
use Rattle.laws.proofs.Places.{In, place_below}
use Rattle.laws.proofs.Members.{member, only, shifted, gathered, by_place, each, gathered_each}
use Rattle.laws.proofs.Numbered.{gate_grows}

-- each arrow of the one list is earlier than each of the other
Before : List Arrow → List Arrow → Type 0
Before es fs = (e f : Arrow) → Member e es → Member f fs → earlier e f ≡ true

-- earlier by from; by event, from the same state; and by to, from the same state on the same event
by_from : (e f : Arrow) → e.from < f.from → earlier e f ≡ true
unfolding earlier
by_from e f h = or_left _ (lt-ltb e.from f.from h)

by_event : (e f : Arrow) → e.from ≡ f.from → e.event < f.event → earlier e f ≡ true
unfolding earlier
by_event e f p h = or_right (ltb e.from f.from) (both (eq-eqb e.from f.from p) (or_left _ (lt-ltb e.event f.event h)))

by_to : {e f : Arrow} (p a q r : ℕ) → e ≡ arrow p a q → f ≡ arrow p a r → q < r → earlier e f ≡ true
unfolding earlier arrow
by_to p a q r x y h = rw (x, y) (or_right (ltb p p) (both (eq-eqb p p refl) (or_right (ltb a a) (both (eq-eqb a a refl) (lt-ltb q r h)))))

-- what holds of every member holds of every element
every_member : {A : Type 0} (f : A → Bool) (xs : List A) → ((x : A) → Member x xs → f x ≡ true) → every_of f xs ≡ true
unfolding every_of
every_member f [] h = refl
every_member f (x ∷ xs) h = both (h x (head refl)) (every_member f xs (λ y m. h y (tail m)))

-- and the other way round
member_every : {A : Type 0} (f : A → Bool) {x : A} {xs : List A} → every_of f xs ≡ true → Member x xs → f x ≡ true
unfolding every_of
member_every f h (head {x = y} {xs = xs} p) = ap f p ∙ and_left (f y) (every_of f xs) h
member_every f h (tail {x = y} {xs = xs} m) = member_every f (and_right (f y) (every_of f xs) h) m

-- two sorted lists one behind the other are sorted if each arrow of the first is earlier than each of the second
sorted_append : (es fs : List Arrow) → sorted es ≡ true → sorted fs ≡ true → Before es fs → sorted (es ++ fs) ≡ true
unfolding sorted Before
sorted_append [] fs h g before = g
sorted_append (e ∷ es) fs h g before =
    let own = and_left (every_of (earlier e) es) (sorted es) h in
    let rest = and_right (every_of (earlier e) es) (sorted es) h in
    both
    (every_member (earlier e) (es ++ fs) (λ f m. ⊎_elim (member_every (earlier e) own) (before e f (head refl)) (append_cases es m)))
    (sorted_append es fs rest g (λ x y m n. before x y (tail m) n))

-- gathered lists are sorted if each is, and each is before all those of higher numbers
sorted_gather : {A : Type 0} (f : ℕ → A → List Arrow) (xs : List A) → ((i : ℕ) (x : A) → sorted (f i x) ≡ true)
    → ((i j : ℕ) (x y : A) → i < j → Before (f i x) (f j y)) → sorted (gather f 0 xs) ≡ true
unfolding gather Before sorted
sorted_gather f [] h before = refl
sorted_gather f (x ∷ xs) h before =
    rw (shifted f 0 xs) (sorted_append (f 0 x) (gather (λ n. f (suc n)) 0 xs) (h 0 x)
    (sorted_gather (λ n. f (suc n)) xs (λ i. h (suc i)) (λ i j y z l. before (suc i) (suc j) y z (omega arith)))
    (λ e d m n. let g = gathered (λ n. f (suc n)) xs n in before 0 (suc g.0) x g.1 (omega arith) e d m g.3))

-- all arrows of the list are from p, on event a
From : ℕ → ℕ → List Arrow → Type 0
From p a es = (e : Arrow) → Member e es → (e.from ≡ p) × (e.event ≡ a)

module _ (k p : ℕ) (f : ℕ → List Arrow) (on : (a : ℕ) → From p a (f a)) where
  -- the arrows from one state, event by event, are sorted if those on each event are
  sorted_events : ((a : ℕ) → sorted (f a) ≡ true) → sorted (each_below k f) ≡ true
  unfolding From Before
  sorted_events h =
      rw by_place (sorted_gather (λ a _. f a) (counted 0 k) (λ a _. h a)
      (λ a c _ _ l e d m n. let x = on a e m in let y = on c d n in by_event e d (x.0 ∙ sym y.0) (omega arith)))

  -- and they are from that state
  from_events : (e : Arrow) → Member e (each_below k f) → e.from ≡ p
  unfolding From
  from_events e m = let g = each k f m in (on g.0 e g.2).0

module _ {A : Type 0} (k : ℕ) (key : ℕ → ℕ) (f : ℕ → A → ℕ → List Arrow) (on : (i : ℕ) (x : A) (a : ℕ) → From (key i) a (f i x a)) where
  -- so are those from the states of the elements of a list, if higher elements have higher states
  sorted_states : ((i j : ℕ) → i < j → key i < key j) → ((i : ℕ) (x : A) (a : ℕ) → sorted (f i x a) ≡ true) → (xs : List A)
      → sorted (gather (λ i x. each_below k (f i x)) 0 xs) ≡ true
  unfolding Before
  sorted_states grows h xs =
      sorted_gather (λ i x. each_below k (f i x)) xs (λ i x. sorted_events k (key i) (f i x) (on i x) (h i x))
      (λ i j x y l e d m n.
      let p = from_events k (key i) (f i x) (on i x) e m in
      let q = from_events k (key j) (f j y) (on j y) d n in
      by_from e d (omega (arith, grows i j l)))

  -- and they are from these states
  from_states : (xs : List A) (e : Arrow) → Member e (gather (λ i x. each_below k (f i x)) 0 xs)
      → (i : ℕ) × (i < length xs) × (e.from ≡ key i)
  unfolding From
  from_states xs e m =
      let g = gathered_each k f xs m in
      (g.0, place_below xs g.0 g.3, (on g.0 g.1 g.2 e g.5).0)

-- a list of one arrow, if b, is sorted
sorted_one : (b : Bool) (e : Arrow) → sorted (cond b (e ∷ []) []) ≡ true
unfolding sorted every_of
sorted_one true e = refl
sorted_one false e = refl

-- an element has its place in a list or behind it
pub place_in : {A : Type 0} (f : A → Bool) (xs : List A) → place_of f xs ≤ length xs
unfolding place_of
place_in f [] = omega arith
place_in f (x ∷ xs) = go (f x) (place_in f xs)
  where
    go : (b : Bool) → place_of f xs ≤ length xs → cond b 0 (suc (place_of f xs)) ≤ suc (length xs)
    go true h = omega arith
    go false h = omega arith

-- the state and the event of an arrow
starts : {e : Arrow} (p a q : ℕ) → e ≡ arrow p a q → (e.from ≡ p) × (e.event ≡ a)
unfolding arrow
starts p a q x = (ap (λ e. e.from) x, ap (λ e. e.event) x)

module _ (Ps : List ℕ) (ts : List Profile) (b : ℕ) (t : Profile) (p a : ℕ) (y : Profile) where
  -- the arrow to the gate, if there is one
  back : List Arrow
  back = cond (same_profile y t) (arrow p a (gate Ps ts b) ∷ []) []

  -- the arrows onto a profile, in a block: from where they start, and sorted
  from_onto : From p a (onto Ps ts b t p a y)
  unfolding From onto back
  from_onto e m = ⊎_elim (λ n. starts p a _ (only (same_profile y t) n).1) (λ n. starts p a _ (eq_of_singleton n)) (append_cases back m)

  sorted_onto : sorted (onto Ps ts b t p a y) ≡ true
  unfolding onto Before in_block back
  sorted_onto =
      sorted_append back _ (sorted_one (same_profile y t) _) (sorted_one true _)
      (λ e f m n. by_to p a _ _ (only (same_profile y t) m).1 (eq_of_singleton n) (omega arith))

module _ (W : ℕ) (M : Machine ℕ) (Ps : List ℕ) (ts bs : List Profile) (i P a : ℕ) where
  -- the arrow into the block b of t, if there is one
  into : ℕ → Profile → List Arrow
  into b t = cond (rejects_non_empty W P t) (arrow i a (in_block Ps ts b (place_of (same_profile (event_profile W M a)) ts)) ∷ []) []

  -- the arrows of a set on an event: from where they start, and sorted
  from_a_set : From i a (from_set W M Ps ts bs i P a)
  unfolding From from_set into
  from_a_set e m =
      ⊎_elim
      (starts i a _)
      (λ n. let g = gathered into bs n in starts i a _ (only (rejects_non_empty W P g.1) g.3).1)
      (cases_cons m)

  sorted_set : sorted (from_set W M Ps ts bs i P a) ≡ true
  unfolding from_set into Before in_block gate
  sorted_set =
      let own : Arrow = arrow i a (place_of (eqb (after W M P a)) Ps) in
      let rejects : Profile → Bool = rejects_non_empty W P in
      sorted_append (own ∷ []) (gather into 0 bs) (sorted_one true own)
      (sorted_gather into bs (λ b t. sorted_one (rejects t) _)
      (λ b c t u l e f m n. by_to i a _ _ (only (rejects t) m).1 (only (rejects u) n).1 (omega (arith, gate_grows Ps ts b c l))))
      (λ e f m n.
      let g = gathered into bs n in
      by_to i a _ _ (eq_of_singleton m) (only (rejects g.1) g.3).1 (omega (arith, place_in (eqb (after W M P a)) Ps)))

module _ (W : ℕ) (M : Machine ℕ) (k : ℕ) (Ps : List ℕ) (ts : List Profile) where
  -- the arrows of a gate, and those of a state of a block, on an event
  from_a_gate : (b : ℕ) (t : Profile) (a : ℕ) → From (gate Ps ts b) a (from_gate W M Ps ts b t a)
  unfolding from_gate
  from_a_gate b t a = from_onto Ps ts b t (gate Ps ts b) a (event_profile W M a)

  from_a_state : (b : ℕ) (t : Profile) (i : ℕ) (x : Profile) (a : ℕ) → From (in_block Ps ts b i) a (from_state W M Ps ts b t i x a)
  unfolding from_state
  from_a_state b t i x a = from_onto Ps ts b t (in_block Ps ts b i) a (join W x (event_profile W M a))

  -- the arrows of a block start in it
  from_a_block : (b : ℕ) (t : Profile) (e : Arrow) → Member e (from_block W M Ps ts k b t)
      → (gate Ps ts b ≤ e.from) × (e.from < gate Ps ts b + (length ts + 1))
  unfolding from_block in_block
  from_a_block b t e m =
      ⊎_elim
      (λ n. let q = from_events k (gate Ps ts b) (from_gate W M Ps ts b t) (from_a_gate b t) e n in omega arith)
      (λ n. let g = from_states k (in_block Ps ts b) (from_state W M Ps ts b t) (from_a_state b t) ts e n in omega arith)
      (append_cases (each_below k (from_gate W M Ps ts b t)) m)

  -- and they are sorted
  sorted_block : (b : ℕ) (t : Profile) → sorted (from_block W M Ps ts k b t) ≡ true
  unfolding from_block Before in_block from_gate from_state
  sorted_block b t =
      sorted_append (each_below k (from_gate W M Ps ts b t)) (gather (λ i x. each_below k (from_state W M Ps ts b t i x)) 0 ts)
      (sorted_events k (gate Ps ts b) (from_gate W M Ps ts b t) (from_a_gate b t) (λ a. sorted_onto Ps ts b t (gate Ps ts b) a _))
      (sorted_states k (in_block Ps ts b) (from_state W M Ps ts b t) (from_a_state b t) (λ i j l. omega arith)
      (λ i x a. sorted_onto Ps ts b t (in_block Ps ts b i) a _) ts)
      (λ e f m n.
      let q = from_events k (gate Ps ts b) (from_gate W M Ps ts b t) (from_a_gate b t) e m in
      let r = from_states k (in_block Ps ts b) (from_state W M Ps ts b t) (from_a_state b t) ts f n in
      by_from e f (omega arith))

  -- THE ARROWS ARE SORTED
  pub arrows_sorted : (bs : List Profile) → sorted (arrows W M k Ps ts bs) ≡ true
  unfolding arrows Before gate
  arrows_sorted bs =
      sorted_append (gather (λ i P. each_below k (from_set W M Ps ts bs i P)) 0 Ps) (gather (from_block W M Ps ts k) 0 bs)
      (sorted_states k (λ i. i) (from_set W M Ps ts bs) (from_a_set W M Ps ts bs) (λ i j l. l) (sorted_set W M Ps ts bs) Ps)
      (sorted_gather (from_block W M Ps ts k) bs sorted_block
      (λ b c t u l e f m n. by_from e f (omega (arith, from_a_block b t e m, from_a_block c u f n, gate_grows Ps ts b c l))))
      (λ e f m n.
      let p = from_states k (λ i. i) (from_set W M Ps ts bs) (from_a_set W M Ps ts bs) Ps e m in
      let g = gathered (from_block W M Ps ts k) bs n in
      by_from e f (omega (arith, from_a_block g.0 g.1 f g.3)))

-- no arrow is earlier than itself
not_itself : (e : Arrow) → earlier e e ≡ false
unfolding earlier
not_itself e =
    let none : (n : ℕ) → ltb n n ≡ false = λ n. le-ltb n n (omega arith) in
    rw (none e.from, none e.event, none e.to, eq-eqb e.from e.from refl, eq-eqb e.event e.event refl)

-- the first arrow of a sorted list is earlier than what stands behind it
behind : (d : Arrow) (es : List Arrow) {e : Arrow} → sorted (d ∷ es) ≡ true → In e es → earlier d e ≡ true
unfolding sorted
behind d es h at = member_every (earlier d) (and_left (every_of (earlier d) es) (sorted es) h) (member es at)

-- SO A SORTED LIST has no arrow twice
pub sorted_once : (es : List Arrow) → sorted es ≡ true → (i j : ℕ) (e : Arrow) → get_elem? es i ≡ some e → get_elem? es j ≡ some e → i ≡ j
unfolding sorted
sorted_once [] h i j e p q = absurd (not_nothing p)
sorted_once (d ∷ es) h zero zero e p q = refl
sorted_once (d ∷ es) h zero (suc j) e p q = never (sym (not_itself d) ∙ behind d es h (j, q ∙ sym p))
sorted_once (d ∷ es) h (suc i) zero e p q = never (sym (not_itself d) ∙ behind d es h (i, p ∙ sym q))
sorted_once (d ∷ es) h (suc i) (suc j) e p q = ap suc (sorted_once es (and_right (every_of (earlier d) es) (sorted es) h) i j e p q)
