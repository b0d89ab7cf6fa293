-- The written opposite machine by its points: a number stands for one point, the listed arrows are the steps of `Leads`, number 0 is the
-- start set, and the empty set and the gates accept.
use Prim.Native.Nat.{ℕ, zero, suc, ◌+◌, ◌*◌, ◌≤◌, ◌<◌}
use native.Mathlib.Nat.{mul-le-mul_right, suc-mul, zero-mul, zero-add}
use native.Mathlib.Omega.{arith}
use mathlib.Core.Path.{◌≡◌, refl, sym, ap, ◌∙◌, subst}
use mathlib.Core.Bool.{Bool, true, false, ◌&&◌, cond}
use mathlib.Core.Logic.{⊎_elim}
use mathlib.Core.Option.{Option, none, some}
use mathlib.Core.List.Memᴰ.{head}
use mathlib.Core.List.Memᴰ.{tail}
use mathlib.Core.List.{List, [], ◌∷◌, ◌++◌, map, Memᴰ as Member}
use mathlib.Core.List.Memᴰ.{cases_cons}
use mathlib.Core.List.Memᴰ.{eq_of_singleton}
use mathlib.Core.List.Memᴰ.{append_cases}
use mathlib.Core.List.Memᴰ.{append_left}
use mathlib.Core.List.Memᴰ.{append_right}
use lib.ListN.{length, get_or, get_elem?, replicate, length-replicate, length-map, get_or-replicate, get_or-append}
use lib.Seq.{get_or-append-add}
use lib.Dec.{eqb}
use borrow.Author.Tests.{eqb-true, eq-eqb}
use Rattle.laws.specs.Bits.{gather, place_of, each_below}
use Rattle.laws.specs.Model.{Machine}
use Rattle.laws.specs.Profiles.{Profile, same_profile, start_set, after, event_profile, next_profile}
use Rattle.laws.specs.Opposite.{Arrow, arrow, is_arrow, written, rejects_non_empty, gate, in_block, onto}
use Rattle.laws.specs.Opposite.{has_block, block_profiles, flags, state_count, from_set, from_gate, from_state, from_block, arrows}
use Rattle.laws.proofs.Booleans.{both, and_left, and_right, not_nothing, inside, never}
use Rattle.laws.proofs.Places.{In, place_below}
use Rattle.laws.proofs.Joins.{same_equal, equal_same}
use Rattle.laws.proofs.Complete.{Closed}
use Rattle.laws.proofs.Points.{Point, at_set, at_block, Leads, set_is_on, set_enters, block_on, block_back}
use Rattle.laws.proofs.Points.{Stands, set_at, gate_at, state_at, Found, set_found, gate_found, state_found, number}
use Rattle.laws.proofs.Members.{member, stands_in, some_member, member_some, kept, only, placed}
use Rattle.laws.proofs.Members.{gathered, into_gathered, each, into_each, gathered_each, into_gathered_each}

-- the points that accept: the empty set, and the gates
pub data Accepting : Point → Type 0 where
  empty_set : {P : ℕ} → P ≡ 0 → Accepting (at_set P)
  a_gate : {t : Profile} → Accepting (at_block t none)

-- a set, and a profile, stands where its place is
set_placed : (P : ℕ) (Ps : List ℕ) → In P Ps → get_elem? Ps (place_of (eqb P) Ps) ≡ some P
set_placed P Ps h = placed (eqb P) Ps (eq-eqb P P refl) (eqb-true P) (member Ps h)

profile_placed : (x : Profile) (xs : List Profile) → In x xs → get_elem? xs (place_of (same_profile x) xs) ≡ some x
profile_placed x xs h = placed (same_profile x) xs (equal_same x) (same_equal x) (member xs h)

-- the first set has place 0
first_placed : (P : ℕ) (Ps : List ℕ) → get_elem? Ps 0 ≡ some P → place_of (eqb P) Ps ≡ 0
unfolding place_of
first_placed P [] e = absurd (not_nothing e)
first_placed P (Q ∷ Ps) e = rw (eq-eqb P Q (sym (inside e)))

-- a profile that rejects with a set that is not empty has a block
pub has_block_is : (W : ℕ) (Ps : List ℕ) (ts : List Profile) (t : Profile) (P : ℕ) → In t ts → In P Ps → rejects_non_empty W P t ≡ true
    → In t (block_profiles W Ps ts)
unfolding block_profiles
has_block_is W Ps ts t P ht hP e =
    stands_in (kept (has_block W Ps) (member ts ht) (member_some (λ Q. rejects_non_empty W Q t) (member Ps hP) e))

module _ (Ps : List ℕ) (ts : List Profile) where
  -- the gates are a block apart
  pub gate_grows : (b c : ℕ) → b < c → gate Ps ts b + (length ts + 1) ≤ gate Ps ts c
  unfolding gate
  gate_grows b c h = omega (arith, mul-le-mul_right (length ts + 1) h, suc-mul b (length ts + 1))

  -- so a number in a block is in no other, and at one place of it
  place_once : (b c i j : ℕ) → i ≤ length ts → j ≤ length ts → gate Ps ts b + i ≡ gate Ps ts c + j → (b ≡ c) × (i ≡ j)
  place_once b c i j hi hj e =
      let before : ¬ (b < c) = λ h. omega (arith, gate_grows b c h) in
      let behind : ¬ (c < b) = λ h. omega (arith, gate_grows c b h) in
      let same : b ≡ c = omega arith in
      (same, omega (arith, ap (gate Ps ts) same))

  -- the two arrows onto a profile y, in the block b of t
  onto_gate : (b : ℕ) (t : Profile) (p a : ℕ) (y : Profile) → y ≡ t → Member (arrow p a (gate Ps ts b)) (onto Ps ts b t p a y)
  unfolding onto
  onto_gate b t p a y q = rw (q, equal_same t) (head refl)

  onto_state : (b : ℕ) (t : Profile) (p a : ℕ) (y : Profile)
      → Member (arrow p a (in_block Ps ts b (place_of (same_profile y) ts))) (onto Ps ts b t p a y)
  unfolding onto
  onto_state b t p a y = append_right (cond (same_profile y t) (arrow p a (gate Ps ts b) ∷ []) []) (head refl)

-- what stands at place i of a block: none at its gate
at : List Profile → ℕ → Option Profile
at ts zero = none
at ts (suc i) = get_elem? ts i

module _ (Ps : List ℕ) (ts bs : List Profile) where
  -- a number of a block
  record OfBlock (p : ℕ) (t : Profile) (y : Option Profile) : Type 0 where
    b : ℕ
    i : ℕ
    number_is : p ≡ gate Ps ts b + i
    i_below : i ≤ length ts
    block_is : get_elem? bs b ≡ some t
    place_is : at ts i ≡ y

  -- what stands for a point of a block is one
  block_place : {p : ℕ} {t : Profile} {y : Option Profile} → Stands Ps ts bs p (at_block t y) → OfBlock p t y
  unfolding in_block at
  block_place (gate_at b n e) = record { b = b; i = 0; number_is = omega arith; i_below = omega arith; block_is = e; place_is = refl }
  block_place (state_at b i n e f) =
      record { b = b; i = suc i; number_is = omega arith; i_below = place_below ts i f; block_is = e; place_is = f }

  -- what stands for a set is its place
  set_place : {p P : ℕ} → Stands Ps ts bs p (at_set P) → get_elem? Ps p ≡ some P
  set_place (set_at e) = e

  -- the sets come before the blocks
  apart : {p P : ℕ} {t : Profile} {y : Option Profile} → Stands Ps ts bs p (at_set P) → Stands Ps ts bs p (at_block t y) → ⊥
  unfolding gate
  apart {p} x z = omega (arith, place_below Ps p (set_place x), (block_place z).number_is)

  -- A NUMBER STANDS FOR ONE POINT
  pub stands_once : {p : ℕ} {s r : Point} → Stands Ps ts bs p s → Stands Ps ts bs p r → s ≡ r
  stands_once {s = at_set P} {r = at_set Q} x y = let e = set_place x in let f = set_place y in cc
  stands_once {s = at_set P} {r = at_block t y} x z = absurd (apart x z)
  stands_once {s = at_block t y} {r = at_set P} x z = absurd (apart z x)
  stands_once {s = at_block t y} {r = at_block u z} x w =
      let c = block_place x in
      let d = block_place w in
      let same = place_once Ps ts c.b d.b c.i d.i c.i_below d.i_below (sym c.number_is ∙ d.number_is) in
      let blocks : get_elem? bs c.b ≡ some u = rw same.0 d.block_is in
      let places : at ts c.i ≡ z = rw same.1 d.place_is in
      cc (c.block_is, c.place_is)

  -- a point that is found stands at its number
  pub found_stands : {s : Point} → Found Ps ts bs s → Stands Ps ts bs (number Ps ts bs s) s
  unfolding number
  found_stands (set_found {P = P} h) = set_at (set_placed P Ps h)
  found_stands (gate_found {t = t} h) = gate_at _ refl (profile_placed t bs h)
  found_stands (state_found {t = t} {x = x} h g) = state_at _ _ refl (profile_placed t bs h) (profile_placed x ts g)

  -- a number that stands for a point is a state
  pub stands_below : {p : ℕ} {s : Point} → Stands Ps ts bs p s → p < state_count Ps ts bs
  unfolding state_count gate
  stands_below {p} {s = at_set P} x = omega (arith, place_below Ps p (set_place x))
  stands_below {s = at_block t y} x =
      let c = block_place x in
      omega (arith, c.number_is, c.i_below, gate_grows Ps ts c.b (length bs) (place_below bs c.b c.block_is))

-- lists of one length, one behind the other: the elements of the list number b
repeated : {A B : Type 0} (l : List B) (d : B) (i n : ℕ) (xs : List A) (b : ℕ) {x : A} → get_elem? xs b ≡ some x → i < length l
    → get_or (gather (λ _ _. l) n xs) (b * length l + i) d ≡ get_or l i d
unfolding gather
repeated l d i n (y ∷ xs) zero e h = rw (zero-mul, zero-add) (get_or-append l _ d i h)
repeated l d i n (y ∷ xs) (suc b) e h =
    let there : suc b * length l + i ≡ length l + (b * length l + i) = omega (arith, suc-mul b (length l)) in
    rw (there, get_or-append-add) (repeated l d i (suc n) xs b e h)
repeated l d i n [] b e h = absurd (not_nothing e)

-- the image of what stands in a list
mapped : {A B : Type 0} (f : A → B) (d : B) (xs : List A) (ys : List B) (i : ℕ) {x : A} → get_elem? xs i ≡ some x
    → get_or (map f xs ++ ys) i d ≡ f x
mapped f d [] ys i e = absurd (not_nothing e)
mapped f d (y ∷ xs) ys zero e = ap f (inside e)
mapped f d (y ∷ xs) ys (suc i) e = mapped f d xs ys i e

-- the test whether a point accepts
accepts : Point → Bool
accepts (at_set P) = eqb P 0
accepts (at_block t none) = true
accepts (at_block t (some x)) = false

test_accepting : (s : Point) → accepts s ≡ true → Accepting s
unfolding accepts
test_accepting (at_set P) h = empty_set (eqb-true P 0 h)
test_accepting (at_block t none) h = a_gate
test_accepting (at_block t (some x)) h = never h

accepting_test : {s : Point} → Accepting s → accepts s ≡ true
unfolding accepts
accepting_test (empty_set {P = P} z) = eq-eqb P 0 z
accepting_test a_gate = refl

module _ (Ps : List ℕ) (ts bs : List Profile) where
  -- the flag of a set
  set_flag_is : (i : ℕ) {P : ℕ} → get_elem? Ps i ≡ some P → get_or (flags Ps ts bs) i 0 ≡ cond (eqb P 0) 1 0
  unfolding flags
  set_flag_is i e = mapped {B = ℕ} (λ P. cond (eqb P 0) 1 0) 0 Ps _ i e

  -- the flag at place i of a block
  block_flag : (b i : ℕ) {t : Profile} → get_elem? bs b ≡ some t → i ≤ length ts
      → get_or (flags Ps ts bs) (gate Ps ts b + i) 0 ≡ get_or (1 ∷ replicate (length ts) 0) i 0
  unfolding flags gate
  block_flag b i e h =
      let f : ℕ → ℕ = λ P. cond (eqb P 0) 1 0 in
      let l : List ℕ = 1 ∷ replicate (length ts) 0 in
      let size : length l ≡ length ts + 1 = omega (arith, length-replicate {A = ℕ} (length ts) 0) in
      let there : length Ps + b * (length ts + 1) + i ≡ length (map f Ps) + (b * length l + i) =
      omega (arith, length-map Ps f, ap (λ n. b * n) size) in
      rw (there, get_or-append-add) (repeated l 0 i 0 bs b e (omega arith))

  -- the flag of a number is 1 where its point accepts
  home_accepts : {p : ℕ} {s : Point} (es : List Arrow) → Stands Ps ts bs p s → (written (flags Ps ts bs) es).home p ≡ accepts s
  unfolding written accepts in_block
  home_accepts es (set_at {i = i} {P = P} e) = rw (set_flag_is i e) (same (eqb P 0))
    where
      same : (b : Bool) → eqb (cond b 1 0) 1 ≡ b
      same true = refl
      same false = refl
  home_accepts {p} es (gate_at b n e) =
      let there : p ≡ gate Ps ts b + 0 = omega arith in
      rw (there, block_flag b 0 e (omega arith))
  home_accepts {p} es (state_at b i n e f) =
      let below : i < length ts = place_below ts i f in
      let there : p ≡ gate Ps ts b + suc i = omega arith in
      rw (there, block_flag b (suc i) e below, get_or-replicate (length ts) i)

  -- THE EMPTY SET AND THE GATES ACCEPT, AND NOTHING ELSE
  pub home_accepting : {p : ℕ} {s : Point} (es : List Arrow) → Stands Ps ts bs p s
      → (written (flags Ps ts bs) es).home p ≡ true → Accepting s
  home_accepting {s = s} es x h = test_accepting s (sym (home_accepts es x) ∙ h)

  pub accepting_home : {p : ℕ} {s : Point} (es : List Arrow) → Stands Ps ts bs p s
      → Accepting s → (written (flags Ps ts bs) es).home p ≡ true
  accepting_home es x h = home_accepts es x ∙ accepting_test h

-- the test for an arrow
is_that_arrow : (p a q : ℕ) (e : Arrow) → is_arrow p a q e ≡ true → e ≡ arrow p a q
unfolding is_arrow arrow
is_that_arrow p a q e h =
    let two : Bool = eqb e.from p && eqb e.event a in
    let h2 : two ≡ true = and_left two (eqb e.to q) h in
    let x : e.from ≡ p = eqb-true e.from p (and_left (eqb e.from p) (eqb e.event a) h2) in
    let y : e.event ≡ a = eqb-true e.event a (and_right (eqb e.from p) (eqb e.event a) h2) in
    let z : e.to ≡ q = eqb-true e.to q (and_right two (eqb e.to q) h) in
    λ i. record { from = x i; event = y i; to = z i }

arrow_is : (p a q : ℕ) → is_arrow p a q (arrow p a q) ≡ true
unfolding is_arrow arrow
arrow_is p a q = both (both (eq-eqb p p refl) (eq-eqb a a refl)) (eq-eqb q q refl)

module _ (W : ℕ) (M : Machine ℕ) (k : ℕ) (Ps : List ℕ) (ts bs : List Profile) (closed : Closed W M k Ps ts) where
  -- an arrow on an event, from a number to a number, whose points lead the one to the other
  pub record Drawn (e : Arrow) : Type 0 where
    pub s : Point
    pub r : Point
    pub an_event : e.event < k
    pub from_stands : Stands Ps ts bs e.from s
    pub to_stands : Stands Ps ts bs e.to r
    pub leads : Leads W M bs s e.event r

  -- the next profile of a point of a block is there
  next_there : {t : Profile} {p a : ℕ} (y : Option Profile) → Stands Ps ts bs p (at_block t y) → a < k → In (next_profile W M y a) ts
  unfolding next_profile
  next_there {a = a} none x h = closed.one_event a h
  next_there {a = a} (some y) (state_at b i n e f) h = closed.next_one y a (i, f) h

  -- the arrows in a block
  drawn_onto : (b p a : ℕ) {t : Profile} {e : Arrow} (y : Option Profile) → get_elem? bs b ≡ some t → Stands Ps ts bs p (at_block t y)
      → a < k → Member e (onto Ps ts b t p a (next_profile W M y a)) → Drawn e
  unfolding onto arrow
  drawn_onto b p a {t} {e} y there x h m =
      let next : Profile = next_profile W M y a in
      let at_next : get_elem? ts (place_of (same_profile next) ts) ≡ some next = profile_placed next ts (next_there y x h) in
      ⊎_elim
      (λ (back : Member e (cond (same_profile next t) (arrow p a (gate Ps ts b) ∷ []) [])).
      let o = only (same_profile next t) back in
      subst Drawn (sym o.1) (record {
        s = at_block t y;
        r = at_block t none;
        an_event = h;
        from_stands = x;
        to_stands = gate_at b refl there;
        leads = block_back (same_equal next t o.0);
      }))
      (λ on. subst Drawn (sym (eq_of_singleton on)) (record {
        s = at_block t y;
        r = at_block t (some next);
        an_event = h;
        from_stands = x;
        to_stands = state_at b _ refl there at_next;
        leads = block_on;
      }))
      (append_cases (cond (same_profile next t) (arrow p a (gate Ps ts b) ∷ []) []) m)

  -- the arrows of a set
  drawn_set : (i P a : ℕ) {e : Arrow} → get_elem? Ps i ≡ some P → a < k → Member e (from_set W M Ps ts bs i P a) → Drawn e
  unfolding from_set arrow
  drawn_set i P a {e} x h m =
      ⊎_elim
      own
      (λ n. let g = gathered _ bs n in let o = only (rejects_non_empty W P g.1) g.3 in enters g.0 g.1 g.2 o.0 o.1)
      (cases_cons m)
    where
      own : e ≡ arrow i a (place_of (eqb (after W M P a)) Ps) → Drawn e
      own q =
          subst Drawn (sym q) (record {
            s = at_set P;
            r = at_set (after W M P a);
            an_event = h;
            from_stands = set_at x;
            to_stands = set_at (set_placed _ Ps (closed.next_set_is P a (i, x) h));
            leads = set_is_on;
          })

      enters : (b : ℕ) (t : Profile) → get_elem? bs b ≡ some t → rejects_non_empty W P t ≡ true
          → e ≡ arrow i a (in_block Ps ts b (place_of (same_profile (event_profile W M a)) ts)) → Drawn e
      enters b t there rejects q =
          subst Drawn (sym q) (record {
            s = at_set P;
            r = at_block t (some (event_profile W M a));
            an_event = h;
            from_stands = set_at x;
            to_stands = state_at b _ refl there (profile_placed _ ts (closed.one_event a h));
            leads = set_enters (b, there) rejects;
          })

  -- the arrows of a block
  drawn_block : (b : ℕ) (t : Profile) {e : Arrow} → get_elem? bs b ≡ some t → Member e (from_block W M Ps ts k b t) → Drawn e
  unfolding from_block from_gate from_state next_profile
  drawn_block b t there m =
      ⊎_elim
      (λ n. let g = each k (from_gate W M Ps ts b t) n in drawn_onto b _ g.0 none there (gate_at b refl there) g.1 g.2)
      (λ n.
      let g = gathered_each k (from_state W M Ps ts b t) ts n in
      drawn_onto b _ g.2 (some g.1) there (state_at b g.0 refl there g.3) g.4 g.5)
      (append_cases (each_below k (from_gate W M Ps ts b t)) m)

  -- every listed arrow is drawn
  pub drawn : {e : Arrow} → Member e (arrows W M k Ps ts bs) → Drawn e
  unfolding arrows
  drawn m =
      ⊎_elim
      (λ n. let g = gathered_each k (from_set W M Ps ts bs) Ps n in drawn_set g.0 g.1 g.2 g.3 g.4 g.5)
      (λ n. let g = gathered (from_block W M Ps ts k) bs n in drawn_block g.0 g.1 g.2 g.3)
      (append_cases (gather (λ i P. each_below k (from_set W M Ps ts bs i P)) 0 Ps) m)

  -- AN ARROW OF THE LIST FROM A NUMBER THAT STANDS FOR s LEADS TO ONE THAT STANDS FOR A POINT TO WHICH s LEADS
  pub read_arrow : (p a q : ℕ) (s : Point) → Stands Ps ts bs p s → (written (flags Ps ts bs) (arrows W M k Ps ts bs)).arrow p a q ≡ true
      → (r : Point) × (Stands Ps ts bs q r) × Leads W M bs s a r
  unfolding written arrow
  read_arrow p a q s x h =
      let found = some_member (is_arrow p a q) (arrows W M k Ps ts bs) h in
      let d : Drawn (arrow p a q) = subst Drawn (is_that_arrow p a q found.0 found.2) (drawn found.1) in
      (d.r, d.to_stands, rw (stands_once Ps ts bs x d.from_stands) d.leads)

  -- an arrow of a set, and one of a block, is listed
  of_set : (i a : ℕ) {P : ℕ} {e : Arrow} → get_elem? Ps i ≡ some P → a < k → Member e (from_set W M Ps ts bs i P a)
      → Member e (arrows W M k Ps ts bs)
  unfolding arrows
  of_set i a x h m = append_left _ (into_gathered_each k (from_set W M Ps ts bs) Ps i a x h m)

  of_block : (b : ℕ) {t : Profile} {e : Arrow} → get_elem? bs b ≡ some t → Member e (from_block W M Ps ts k b t)
      → Member e (arrows W M k Ps ts bs)
  unfolding arrows
  of_block b there m =
      append_right (gather (λ i P. each_below k (from_set W M Ps ts bs i P)) 0 Ps) (into_gathered (from_block W M Ps ts k) bs b there m)

  -- from the number of a point of a block: onto the next profile
  of_point : (a : ℕ) {t : Profile} {y : Option Profile} {e : Arrow} → a < k → Found Ps ts bs (at_block t y)
      → Member e (onto Ps ts (place_of (same_profile t) bs) t (number Ps ts bs (at_block t y)) a (next_profile W M y a))
      → Member e (arrows W M k Ps ts bs)
  unfolding number next_profile from_block from_gate from_state
  of_point a h (gate_found {t = t} there) m =
      let b : ℕ = place_of (same_profile t) bs in
      of_block b (profile_placed t bs there) (append_left _ (into_each k (from_gate W M Ps ts b t) a h m))
  of_point a h (state_found {t = t} {x = x} there at_x) m =
      let b : ℕ = place_of (same_profile t) bs in
      let n = into_gathered_each k (from_state W M Ps ts b t) ts _ a (profile_placed x ts at_x) h m in
      of_block b (profile_placed t bs there) (append_right (each_below k (from_gate W M Ps ts b t)) n)

  -- a point of a block that is found is of a profile with a block
  block_found : {t : Profile} {y : Option Profile} → Found Ps ts bs (at_block t y) → In t bs
  block_found (gate_found there) = there
  block_found (state_found there at_x) = there

  -- each step is a listed arrow
  listed : {s : Point} (a : ℕ) {r : Point} → a < k → Found Ps ts bs s → Leads W M bs s a r
      → Found Ps ts bs r × Member (arrow (number Ps ts bs s) a (number Ps ts bs r)) (arrows W M k Ps ts bs)
  unfolding number from_set
  listed a h (set_found {P = P} x) set_is_on = (set_found (closed.next_set_is P a x h), of_set _ a (set_placed P Ps x) h (head refl))
  listed a h (set_found {P = P} x) (set_enters {t = t} there rejects) = (
    state_found there (closed.one_event a h),
    of_set _ a (set_placed P Ps x) h (tail (into_gathered _ bs _ (profile_placed t bs there) (rw rejects (head refl)))),
  )
  listed a h x (block_on {t = t} {y = y}) =
      let next = next_there y (found_stands Ps ts bs x) h in
      (state_found (block_found x) next, of_point a h x (onto_state Ps ts _ t _ a (next_profile W M y a)))
  listed a h x (block_back {t = t} {y = y} q) =
      (gate_found (block_found x), of_point a h x (onto_gate Ps ts _ t _ a (next_profile W M y a) q))

  -- A STEP FROM A POINT THAT IS FOUND IS AN ARROW OF THE LIST, TO A POINT THAT IS FOUND
  pub write_arrow : (s r : Point) (a : ℕ) → a < k → Found Ps ts bs s → Leads W M bs s a r
      → (Found Ps ts bs r) × ((written (flags Ps ts bs) (arrows W M k Ps ts bs)).arrow (number Ps ts bs s) a (number Ps ts bs r) ≡ true)
  unfolding written
  write_arrow s r a h x l =
      let n = listed a h x l in
      (n.0, member_some (is_arrow (number Ps ts bs s) a (number Ps ts bs r)) n.1 (arrow_is (number Ps ts bs s) a (number Ps ts bs r)))

  -- THE START SET HAS NUMBER 0
  pub start_stands : Stands Ps ts bs 0 (at_set (start_set W M))
  start_stands = set_at closed.start_first

  pub start_number : number Ps ts bs (at_set (start_set W M)) ≡ 0
  unfolding number
  start_number = first_placed (start_set W M) Ps closed.start_first
