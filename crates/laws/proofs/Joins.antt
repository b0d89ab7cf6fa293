-- The join of two profiles and the image of a set, over any width: a join leads through a state between, it is associative, and the
-- image under a join is the image of the image.
use Prim.Native.Nat.{ℕ, ◌*◌, ◌<◌, ◌^◌}
use mathlib.Core.Path.{◌≡◌, refl, sym, ap, ap₂, ◌∙◌}
use mathlib.Core.Bool.{Bool, true, false, ◌&&◌, ◌||◌, and-eq-true_iff}
use mathlib.Core.Logic.{◌⊎◌, inl, inr, ⊎_elim}
use lib.Pow.{pow_pos}
use lib.Dec.{eqb}
use borrow.Author.Tests.{eqb-true, eq-eqb}
use Rattle.laws.specs.Bits.{bit, some_below}
use Rattle.laws.specs.Model.{Machine}
use Rattle.laws.specs.Profiles.{Profile, same_profile, leads_to, marked, join, image, after, event_profile}
use Rattle.laws.proofs.Booleans.{or_left, or_right, or_cases, both, same_test, never, some_is_below, below_both, some_same}
use Rattle.laws.proofs.Packing.{bit_number_of_bits, number_of_bits_below, number_of_bits_same, same_bits, no_bit, cell_grid, grid_below, same_cells}

-- the test for equal profiles tells exactly equal ones
pub same_equal : (s t : Profile) → same_profile s t ≡ true → s ≡ t
unfolding same_profile
same_equal s t h =
    let (a, m) = (and-eq-true_iff (eqb s.arrows t.arrows) (eqb s.marks t.marks)).0 h in
    ap₂ (λ x y. record { arrows = x; marks = y }) (eqb-true s.arrows t.arrows a) (eqb-true s.marks t.marks m)

pub equal_same : (t : Profile) → same_profile t t ≡ true
unfolding same_profile
equal_same t = both (eq-eqb t.arrows t.arrows refl) (eq-eqb t.marks t.marks refl)

module _ (W : ℕ) where
  -- some state between, to which s leads from p and from which t leads to q; if it is to be marked, one of the two is
  pub record Via (s t : Profile) (p q : ℕ) (marking : Bool) : Type 0 where
    pub r : ℕ
    pub r_below : r < W
    pub first : leads_to W s p r ≡ true
    pub second : leads_to W t r q ≡ true
    pub mark : marking ≡ true → (marked W s p r ≡ true) ⊎ (marked W t r q ≡ true)

  -- the test for such a state, and whether one of the two is marked
  abbrev between : Profile → Profile → ℕ → ℕ → ℕ → Bool
  between s t p q r = leads_to W s p r && leads_to W t r q

  abbrev either_marked : Profile → Profile → ℕ → ℕ → ℕ → Bool
  either_marked s t p q r = marked W s p r || marked W t r q

  module _ (s t : Profile) (p q : ℕ) (hp : p < W) (hq : q < W) where
    -- the join leads exactly where there is such a state
    leads_join : leads_to W (join W s t) p q ≡ some_below W (between s t p q)
    unfolding join leads_to
    leads_join = cell_grid W (λ p q. some_below W (between s t p q)) p q hp hq

    pub join_leads : {b : Bool} → Via s t p q b → leads_to W (join W s t) p q ≡ true
    join_leads v = leads_join ∙ some_is_below (between s t p q) W v.r v.r_below (both v.first v.second)

    pub leads_via : leads_to W (join W s t) p q ≡ true → Via s t p q false
    leads_via h =
        let (r, l, first, second) = below_both (leads_to W s p) (λ r. leads_to W t r q) W (sym leads_join ∙ h) in
        record { r = r; r_below = l; first = first; second = second; mark = never }

    -- and marks exactly where one of the two is marked
    marked_join : marked W (join W s t) p q ≡ some_below W (λ r. between s t p q r && either_marked s t p q r)
    unfolding join marked leads_to
    marked_join = cell_grid W (λ p q. some_below W (λ r. between s t p q r && either_marked s t p q r)) p q hp hq

    pub join_marks : Via s t p q true → marked W (join W s t) p q ≡ true
    join_marks v =
        let r : ℕ = v.r in
        let m = ⊎_elim (or_left (marked W t r q)) (or_right (marked W s p r)) (v.mark refl) in
        marked_join
        ∙ some_is_below (λ r. between s t p q r && either_marked s t p q r) W r v.r_below (both (both v.first v.second) m)

    pub marks_via : marked W (join W s t) p q ≡ true → Via s t p q true
    marks_via h =
        let (r, l, leads, marks) = below_both (between s t p q) (either_marked s t p q) W (sym marked_join ∙ h) in
        let (first, second) = (and-eq-true_iff (leads_to W s p r) (leads_to W t r q)).0 leads in
        record { r = r; r_below = l; first = first; second = second; mark = λ _. or_cases (marked W s p r) (marked W t r q) marks }

  -- a profile whose two numbers are below 2^(W·W), as those of joins and of events are
  pub record Small (t : Profile) : Type 0 where
    pub arrows_below : t.arrows < 2 ^ (W * W)
    pub marks_below : t.marks < 2 ^ (W * W)

  -- a join is small
  pub join_small : (s t : Profile) → Small (join W s t)
  unfolding join
  join_small s t =
      record {
        arrows_below = grid_below W (λ p q. some_below W (between s t p q));
        marks_below = grid_below W (λ p q. some_below W (λ r. between s t p q r && either_marked s t p q r));
      }

  -- two small profiles that lead and mark alike are equal
  pub small_equal : (s t : Profile) → Small s → Small t → ((p q : ℕ) → p < W → q < W → leads_to W s p q ≡ leads_to W t p q)
      → ((p q : ℕ) → p < W → q < W → marked W s p q ≡ marked W t p q) → s ≡ t
  unfolding leads_to marked
  small_equal s t hs ht l m =
      ap₂ (λ x y. record { arrows = x; marks = y })
      (same_cells W s.arrows t.arrows hs.arrows_below ht.arrows_below l)
      (same_cells W s.marks t.marks hs.marks_below ht.marks_below m)

  module _ (r s t : Profile) (p q : ℕ) (hp : p < W) (hq : q < W) where
    -- of r to x, s on to y and t on to q, one is marked
    abbrev OneOf : ℕ → ℕ → Type 0
    OneOf x y = (marked W r p x ≡ true) ⊎ ((marked W s x y ≡ true) ⊎ (marked W t y q ≡ true))

    -- where y is between r then s and t, and x between r and s, x is between r and s then t
    regroup_right : {b c : Bool} (v : Via (join W r s) t p q b) (w : Via r s p v.r c) → (b ≡ true → OneOf w.r v.r)
        → Via r (join W s t) p q b
    regroup_right v w m =
        record {
          r = w.r;
          r_below = w.r_below;
          first = w.first;
          second = join_leads s t w.r q w.r_below hq (behind false never);
          mark = λ e. ⊎_elim inl (λ n. inr (join_marks s t w.r q w.r_below hq (behind true (λ _. n)))) (m e);
        }
      where
        behind : (c : Bool) → (c ≡ true → (marked W s w.r v.r ≡ true) ⊎ (marked W t v.r q ≡ true)) → Via s t w.r q c
        behind c n = record { r = v.r; r_below = v.r_below; first = w.second; second = v.second; mark = n }

    -- so with a state between r then s and t there is one between r and s then t
    to_right : (b : Bool) → Via (join W r s) t p q b → Via r (join W s t) p q b
    to_right false v = regroup_right v (leads_via r s p v.r hp v.r_below v.first) never
    to_right true v =
        ⊎_elim
        (λ m. let w = marks_via r s p v.r hp v.r_below m in regroup_right v w (λ _. ⊎_elim inl (λ n. inr (inl n)) (w.mark refl)))
        (λ m. regroup_right v (leads_via r s p v.r hp v.r_below v.first) (λ _. inr (inr m)))
        (v.mark refl)

    -- the same the other way round
    regroup_left : {b c : Bool} (v : Via r (join W s t) p q b) (w : Via s t v.r q c) → (b ≡ true → OneOf v.r w.r)
        → Via (join W r s) t p q b
    regroup_left v w m =
        record {
          r = w.r;
          r_below = w.r_below;
          first = join_leads r s p w.r hp w.r_below (before false never);
          second = w.second;
          mark = λ e. ⊎_elim (λ n. inl (marks (inl n))) (⊎_elim (λ n. inl (marks (inr n))) inr) (m e);
        }
      where
        before : (c : Bool) → (c ≡ true → (marked W r p v.r ≡ true) ⊎ (marked W s v.r w.r ≡ true)) → Via r s p w.r c
        before c n = record { r = v.r; r_below = v.r_below; first = v.first; second = w.first; mark = n }

        marks : (marked W r p v.r ≡ true) ⊎ (marked W s v.r w.r ≡ true) → marked W (join W r s) p w.r ≡ true
        marks n = join_marks r s p w.r hp w.r_below (before true (λ _. n))

    -- so that holds the other way round too
    to_left : (b : Bool) → Via r (join W s t) p q b → Via (join W r s) t p q b
    to_left false v = regroup_left v (leads_via s t v.r q v.r_below hq v.second) never
    to_left true v =
        ⊎_elim
        (λ m. regroup_left v (leads_via s t v.r q v.r_below hq v.second) (λ _. inl m))
        (λ m. let w = marks_via s t v.r q v.r_below hq m in regroup_left v w (λ _. inr (w.mark refl)))
        (v.mark refl)

    -- so both joins of the three lead alike, and mark alike
    assoc_leads : leads_to W (join W (join W r s) t) p q ≡ leads_to W (join W r (join W s t)) p q
    assoc_leads =
        same_test
        (λ h. join_leads r (join W s t) p q hp hq (to_right false (leads_via (join W r s) t p q hp hq h)))
        (λ h. join_leads (join W r s) t p q hp hq (to_left false (leads_via r (join W s t) p q hp hq h)))

    assoc_marks : marked W (join W (join W r s) t) p q ≡ marked W (join W r (join W s t)) p q
    assoc_marks =
        same_test
        (λ h. join_marks r (join W s t) p q hp hq (to_right true (marks_via (join W r s) t p q hp hq h)))
        (λ h. join_marks (join W r s) t p q hp hq (to_left true (marks_via r (join W s t) p q hp hq h)))

  -- JOINS ARE ASSOCIATIVE
  pub join_assoc : (r s t : Profile) → join W (join W r s) t ≡ join W r (join W s t)
  join_assoc r s t =
      small_equal (join W (join W r s) t) (join W r (join W s t)) (join_small (join W r s) t) (join_small r (join W s t))
      (assoc_leads r s t)
      (assoc_marks r s t)

  -- the test for a state of P from which t leads to q
  abbrev from : ℕ → Profile → ℕ → ℕ → Bool
  from P t q p = bit P p && leads_to W t p q

  -- q is in the image of P exactly if t leads to it from a state of P
  image_bit : (P : ℕ) (t : Profile) (q : ℕ) → q < W → bit (image W P t) q ≡ some_below W (from P t q)
  unfolding image
  image_bit P t q h = bit_number_of_bits W (λ q. some_below W (from P t q)) q h

  pub image_has : (P : ℕ) (t : Profile) (p q : ℕ) → p < W → q < W → bit P p ≡ true → leads_to W t p q ≡ true → bit (image W P t) q ≡ true
  image_has P t p q hp hq b l = image_bit P t q hq ∙ some_is_below (from P t q) W p hp (both b l)

  pub image_from : (P : ℕ) (t : Profile) (q : ℕ) → q < W → bit (image W P t) q ≡ true
      → (p : ℕ) × (p < W) × (bit P p ≡ true) × (leads_to W t p q ≡ true)
  image_from P t q h e = below_both (bit P) (λ p. leads_to W t p q) W (sym (image_bit P t q h) ∙ e)

  -- an image is below 2^W
  image_below : (P : ℕ) (t : Profile) → image W P t < 2 ^ W
  unfolding image
  image_below P t = number_of_bits_below W (λ q. some_below W (from P t q))

  -- THE IMAGE UNDER A JOIN is the image of the image
  pub image_join : (P : ℕ) (s t : Profile) → image W (image W P s) t ≡ image W P (join W s t)
  image_join P s t =
      same_bits W (image W (image W P s) t) (image W P (join W s t)) (image_below (image W P s) t) (image_below P (join W s t))
      (λ q h. same_test (there q h) (back q h))
    where
      there : (q : ℕ) → q < W → bit (image W (image W P s) t) q ≡ true → bit (image W P (join W s t)) q ≡ true
      there q h e =
          let (r, r_below, r_in, second) = image_from (image W P s) t q h e in
          let (p, p_below, p_in, first) = image_from P s r r_below r_in in
          let v : Via s t p q false = record { r = r; r_below = r_below; first = first; second = second; mark = never } in
          image_has P (join W s t) p q p_below h p_in (join_leads s t p q p_below h v)

      back : (q : ℕ) → q < W → bit (image W P (join W s t)) q ≡ true → bit (image W (image W P s) t) q ≡ true
      back q h e =
          let (p, p_below, p_in, l) = image_from P (join W s t) q h e in
          let v = leads_via s t p q p_below h l in
          image_has (image W P s) t v.r q v.r_below h (image_has P s p v.r p_below v.r_below p_in v.first) v.second

  -- the empty set leads nowhere
  pub image_nothing : (t : Profile) → image W 0 t ≡ 0
  image_nothing t =
      same_bits W (image W 0 t) 0 (image_below 0 t) (pow_pos W)
      (λ q h. same_test (λ e. let (p, _, p_in, _) = image_from 0 t q h e in none p p_in) (none q))
    where
      none : {A : Type 0} (p : ℕ) → bit 0 p ≡ true → A
      none p e = never (sym (no_bit p) ∙ e)

  module _ (M : Machine ℕ) (a : ℕ) where
    -- the profile of one event leads where the event does, and marks by its rule
    pub leads_event : (p q : ℕ) → p < W → q < W → leads_to W (event_profile W M a) p q ≡ M.arrow p a q
    unfolding leads_to event_profile
    leads_event p q hp hq = cell_grid W (λ p q. M.arrow p a q) p q hp hq

    pub marked_event : (p q : ℕ) → p < W → q < W → marked W (event_profile W M a) p q ≡ (M.arrow p a q && M.home q)
    unfolding marked event_profile
    marked_event p q hp hq = cell_grid W (λ p q. M.arrow p a q && M.home q) p q hp hq

    -- and it is small
    pub event_small : Small (event_profile W M a)
    unfolding event_profile
    event_small =
        record {
          arrows_below = grid_below W (λ p q. M.arrow p a q);
          marks_below = grid_below W (λ p q. M.arrow p a q && M.home q);
        }

    -- the set after an event is the image under its profile
    pub after_event : (P : ℕ) → after W M P a ≡ image W P (event_profile W M a)
    unfolding after image
    after_event P =
        number_of_bits_same W _ _ (λ q hq. some_same W _ _ (λ p hp. ap (λ b. bit P p && b) (sym (leads_event p q hp hq))))
