-- Sets and profiles mean paths, over any width: for one event by its rule, for a word by joins. Of the marks only `round_marked` and
-- `marked_round` are for use above: they hold at a path from a state back to itself, whichever end of an arrow the rule looks at.
use Prim.Native.Nat.{ℕ, ◌<◌, ◌≤◌, ◌^◌}
use native.Mathlib.Omega.{arith}
use mathlib.Core.Path.{◌≡◌, refl, sym, ap, ◌∙◌, subst}
use mathlib.Core.Bool.{Bool, true, false, ◌&&◌, and-eq-true_iff}
use mathlib.Core.Logic.{◌⊎◌, inl, inr, ⊎_elim}
use mathlib.Core.List.{[], ◌∷◌, ◌++◌, append_assoc, append-nil}
use mathlib.Core.Option.{Option, none, some}
use lib.ListN.{get_or}
use lib.Dec.{ltb}
use borrow.Author.Tests.{ltb-true}
use Rattle.laws.specs.Bits.{bit, cell, some_below}
use Rattle.laws.specs.Words.{Word, empty}
use Rattle.laws.specs.Model.{Machine, Path, stop, step, homed, Model, is_state, leads, machine, Within}
use Rattle.laws.specs.Profiles.{Profile, marked, join, image, marked_path, start_set, after, set_from, word_set, SetMeans}
use Rattle.laws.specs.Profiles.{event_profile, next_profile, profile_from, word_profile, ProfileMeans}
use Rattle.laws.proofs.Booleans.{or_left, or_right, or_cases, both, and_left, same_test, never, some_is_below, below_both}
use Rattle.laws.proofs.Booleans.{inside, not_nothing}
use Rattle.laws.proofs.Packing.{bit_number_of_bits, number_of_bits_below, bit_inside, same_numbers}
use Rattle.laws.proofs.Joins.{Small, Via, join_leads, leads_via, join_marks, marks_via, small_equal, join_assoc, image_join}
use Rattle.laws.proofs.Joins.{event_small, join_small, leads_event, marked_event, after_event}
use Rattle.laws.proofs.Paths.{then, cut, HomePath, first_home}

-- the states of a model with at most W states are below W
pub machine_within : (W : ℕ) (m : Model) → m.n ≤ W → Within W (machine W m)
unfolding machine leads is_state
machine_within W m h =
    record {
      start_below = λ p e. let l = and_left (ltb p m.n) (bit m.start p) e in omega (arith, ltb-true);
      from_below = λ p a q e. let (l, _) = states p a q e in omega (arith, ltb-true);
      to_below = λ p a q e. let (_, l) = states p a q e in omega (arith, ltb-true);
    }
  where
    states : (p a q : ℕ) → leads W m p a q ≡ true → (ltb p m.n ≡ true) × (ltb q m.n ≡ true)
    states p a q e =
        let three = and_left (ltb p m.n && ltb q m.n && ltb a m.k) (cell W (get_or m.arrows a 0) p q) e in
        let two = and_left (ltb p m.n && ltb q m.n) (ltb a m.k) three in
        (and-eq-true_iff (ltb p m.n) (ltb q m.n)).0 two

module _ {S : Type 0} (M : Machine S) where
  -- a path in two parts is marked exactly if one of them is
  then_marked : {p q r : S} {x y : Word} (s : Path M p x q) (t : Path M q y r) → (marked_path M s ≡ true) ⊎ (marked_path M t ≡ true)
      → marked_path M (then M s t) ≡ true
  unfolding then marked_path
  then_marked stop t (inl f) = never f
  then_marked stop t (inr g) = g
  then_marked (step {r = r} e s) t (inl f) =
      ⊎_elim
      (or_left (marked_path M (then M s t)))
      (λ l. or_right (M.home r) (then_marked s t (inl l)))
      (or_cases (M.home r) (marked_path M s) f)
  then_marked (step {r = r} e s) t (inr g) = or_right (M.home r) (then_marked s t (inr g))

  pub cut_marked : (x y : Word) {p q : S} (s : Path M p (x ++ y) q) → marked_path M s ≡ true
      → (marked_path M (cut M x s).left ≡ true) ⊎ (marked_path M (cut M x s).right ≡ true)
  unfolding marked_path cut
  cut_marked [] y s h = inr h
  cut_marked (a ∷ x) y (step {r = r} e s) h =
      ⊎_elim
      (λ f. inl (or_left (marked_path M (cut M x s).left) f))
      (λ l. ⊎_elim (λ f. inl (or_right (M.home r) f)) inr (cut_marked x y s l))
      (or_cases (M.home r) (marked_path M s) h)

  -- a marked path has a home state among its states
  pub marked_homed : {p q : S} {w : Word} (s : Path M p w q) → marked_path M s ≡ true → homed M s ≡ true
  unfolding marked_path homed
  marked_homed stop h = never h
  marked_homed (step {p = p} {r = r} e s) h =
      or_right (M.home p) (⊎_elim (λ f. first_home M f s) (marked_homed s) (or_cases (M.home r) (marked_path M s) h))

  -- a path with a home state is marked, or that state is its first
  pub homed_marked : {p q : S} {w : Word} (s : Path M p w q) → homed M s ≡ true → (M.home p ≡ true) ⊎ (marked_path M s ≡ true)
  unfolding marked_path homed
  homed_marked stop h = inl h
  homed_marked (step {p = p} {r = r} e s) h =
      ⊎_elim
      inl
      (λ l. inr (⊎_elim (or_left (marked_path M s)) (or_right (M.home r)) (homed_marked s l)))
      (or_cases (M.home p) (homed M s) h)

  -- a path of one event or more that ends at home is marked
  last_marked : (a : ℕ) (w : Word) {p q : S} (s : Path M p (a ∷ w) q) → M.home q ≡ true → marked_path M s ≡ true
  unfolding marked_path
  last_marked a [] (step e stop) h = or_left false h
  last_marked a (b ∷ w) (step {r = r} e s) h = or_right (M.home r) (last_marked b w s h)

module _ (W : ℕ) (M : Machine ℕ) where
  -- what is joined before a profile stays before it while the word goes on
  profile_on : (s t z : Profile) (w : Word) → profile_from W M (some t) w ≡ some z
      → profile_from W M (some (join W s t)) w ≡ some (join W s z)
  unfolding profile_from next_profile
  profile_on s t z [] h = ap (λ y. some (join W s y)) (inside h)
  profile_on s t z (a ∷ w) h = rw join_assoc (profile_on s (join W t (event_profile W M a)) z w h)

  -- the profile of u·w goes on from that of u
  pub profile_append : (y : Option Profile) (u w : Word) → profile_from W M y (u ++ w) ≡ profile_from W M (profile_from W M y u) w
  unfolding profile_from
  profile_append y [] w = refl
  profile_append y (a ∷ u) w = profile_append (some (next_profile W M y a)) u w

  -- exactly the words of one event or more have a profile
  profile_some : (y : Option Profile) (a : ℕ) (w : Word) → (t : Profile) × (profile_from W M y (a ∷ w) ≡ some t)
  unfolding profile_from
  profile_some y a [] = (next_profile W M y a, refl)
  profile_some y a (b ∷ w) = profile_some (some (next_profile W M y a)) b w

  pub has_profile : (w : Word) → empty w ≡ false → (t : Profile) × (word_profile W M w ≡ some t)
  unfolding empty word_profile
  has_profile [] h = never (sym h)
  has_profile (a ∷ w) h = profile_some none a w

  pub profile_has : (w : Word) (t : Profile) → word_profile W M w ≡ some t → empty w ≡ false
  unfolding empty word_profile profile_from
  profile_has [] t h = absurd (not_nothing h)
  profile_has (a ∷ w) t h = refl

  -- THE PROFILE OF x·y is the join of those of x and y
  pub profile_of_two : (x y : Word) (s t : Profile) → word_profile W M x ≡ some s → word_profile W M y ≡ some t
      → word_profile W M (x ++ y) ≡ some (join W s t)
  unfolding word_profile profile_from next_profile
  profile_of_two x [] s t hx hy = absurd (not_nothing hy)
  profile_of_two x (a ∷ y) s t hx hy = rw (profile_append none x (a ∷ y), hx) (profile_on s (event_profile W M a) t y hy)

  -- the set of u·w goes on from that of u
  pub set_append : (P : ℕ) (u w : Word) → set_from W M P (u ++ w) ≡ set_from W M (set_from W M P u) w
  unfolding set_from
  set_append P [] w = refl
  set_append P (a ∷ u) w = set_append (after W M P a) u w

  -- an image stays the image while the profile goes on
  set_is_on : (P : ℕ) (t z : Profile) (w : Word) → profile_from W M (some t) w ≡ some z → set_from W M (image W P t) w ≡ image W P z
  unfolding set_from profile_from next_profile
  set_is_on P t z [] h = ap (image W P) (inside h)
  set_is_on P t z (a ∷ w) h = rw (after_event W M a (image W P t), image_join) (set_is_on P (join W t (event_profile W M a)) z w h)

  -- so the set that a word reaches from P is the image of P under the word's profile
  pub set_image : (P : ℕ) (w : Word) (t : Profile) → word_profile W M w ≡ some t → set_from W M P w ≡ image W P t
  unfolding set_from word_profile profile_from next_profile
  set_image P [] t h = absurd (not_nothing h)
  set_image P (a ∷ w) t h = rw (after_event W M a P) (set_is_on P (event_profile W M a) t w h)

  -- THE SET OF u·w is the image of that of u under w's profile
  pub set_of_two : (u w : Word) (t : Profile) → word_profile W M w ≡ some t → word_set W M (u ++ w) ≡ image W (word_set W M u) t
  unfolding word_set
  set_of_two u w t h = set_append (start_set W M) u w ∙ set_image (set_from W M (start_set W M) u) w t h

  -- the test for a state of P from which event a leads to q
  abbrev from : ℕ → ℕ → ℕ → ℕ → Bool
  from P a q p = bit P p && M.arrow p a q

  -- the set after an event is below 2^W
  pub after_below : (P a : ℕ) → after W M P a < 2 ^ W
  unfolding after
  after_below P a = number_of_bits_below W (λ q. some_below W (from P a q))

  module _ (within : Within W M) where
    -- a path from a state below W stays below W
    pub path_below : {p q : ℕ} {w : Word} → p < W → Path M p w q → q < W
    path_below h stop = h
    path_below h (step {p = p} {r = r} {a = a} e s) = path_below (within.to_below p a r e) s

    -- the profile of one event means paths
    event_means : (a : ℕ) → ProfileMeans W M (a ∷ []) (event_profile W M a)
    unfolding marked_path
    event_means a =
        record {
          path = λ p q hp hq s. leads_event W M a p q hp hq ∙ arrow s;
          only_path = λ p q hp hq h. step (sym (leads_event W M a p q hp hq) ∙ h) stop;
          path_is_marked = λ p q hp hq s m. marked_event W M a p q hp hq ∙ both (arrow s) (home s m);
          only_marked_path = λ p q hp hq h.
              let (e, f) = (and-eq-true_iff (M.arrow p a q) (M.home q)).0 (sym (marked_event W M a p q hp hq) ∙ h) in
              (step e stop, or_left false f);
          arrows_below = (event_small W M a).arrows_below;
          marks_below = (event_small W M a).marks_below;
        }
      where
        arrow : {p q : ℕ} → Path M p (a ∷ []) q → M.arrow p a q ≡ true
        arrow (step e stop) = e

        home : {p q : ℕ} (s : Path M p (a ∷ []) q) → marked_path M s ≡ true → M.home q ≡ true
        home (step {r = r} e stop) m = ⊎_elim (λ l. l) never (or_cases (M.home r) false m)

    module _ (x y : Word) (s t : Profile) (X : ProfileMeans W M x s) (Y : ProfileMeans W M y t) where
      -- the profiles of x and y lead through the state at which a path that reads x·y is cut
      cut_via : {b : Bool} {p q : ℕ} → p < W → q < W → (w : Path M p (x ++ y) q) → (b ≡ true → marked_path M w ≡ true) → Via W s t p q b
      cut_via {p = p} {q = q} hp hq w m =
          let c = cut M x w in
          let hr = path_below hp c.left in
          record {
            r = c.middle;
            r_below = hr;
            first = X.path p c.middle hp hr c.left;
            second = Y.path c.middle q hr hq c.right;
            mark = λ e.
                ⊎_elim
                (λ l. inl (X.path_is_marked p c.middle hp hr c.left l))
                (λ l. inr (Y.path_is_marked c.middle q hr hq c.right l))
                (cut_marked M x y w (m e));
          }

      -- so the join means paths
      join_means : ProfileMeans W M (x ++ y) (join W s t)
      join_means =
          record {
            path = λ p q hp hq w. join_leads W s t p q hp hq (cut_via {b = false} hp hq w never);
            only_path = λ p q hp hq h.
                let v = leads_via W s t p q hp hq h in
                then M (X.only_path p v.r hp v.r_below v.first) (Y.only_path v.r q v.r_below hq v.second);
            path_is_marked = λ p q hp hq w m. join_marks W s t p q hp hq (cut_via hp hq w (λ _. m));
            only_marked_path = λ p q hp hq h.
                let v = marks_via W s t p q hp hq h in
                ⊎_elim
                (λ l.
                let (c, m) = X.only_marked_path p v.r hp v.r_below l in
                let d = Y.only_path v.r q v.r_below hq v.second in
                (then M c d, then_marked M c d (inl m)))
                (λ l.
                let c = X.only_path p v.r hp v.r_below v.first in
                let (d, m) = Y.only_marked_path v.r q v.r_below hq l in
                (then M c d, then_marked M c d (inr m)))
                (v.mark refl);
            arrows_below = (join_small W s t).arrows_below;
            marks_below = (join_small W s t).marks_below;
          }

    -- so does the profile of a word that goes on
    word_means : (x w : Word) (s t : Profile) → ProfileMeans W M x s → profile_from W M (some s) w ≡ some t → ProfileMeans W M (x ++ w) t
    unfolding profile_from next_profile
    word_means x [] s t X h = rw append-nil (subst (ProfileMeans W M x) (inside h) X)
    word_means x (a ∷ w) s t X h =
        let e : Profile = event_profile W M a in
        rw append_assoc at (word_means (x ++ (a ∷ [])) w (join W s e) t (join_means x (a ∷ []) s e X (event_means a)) h)

    -- THE PROFILE OF A WORD means paths
    pub profile_means : (w : Word) (t : Profile) → word_profile W M w ≡ some t → ProfileMeans W M w t
    unfolding word_profile profile_from next_profile
    profile_means [] t h = absurd (not_nothing h)
    profile_means (a ∷ w) t h = word_means (a ∷ []) w (event_profile W M a) t (event_means a) h

    -- A ROUND from r back to r is marked in the profile exactly if some path has a home state among its states
    pub marked_round : (w : Word) (t : Profile) (r : ℕ) → word_profile W M w ≡ some t → r < W → marked W t r r ≡ true → HomePath M r w r
    marked_round w t r h hr m =
        let (s, s_marked) = (profile_means w t h).only_marked_path r r hr hr m in
        record { path = s; home = marked_homed M s s_marked }

    pub round_marked : (w : Word) (t : Profile) (r : ℕ) → word_profile W M w ≡ some t → r < W → HomePath M r w r → marked W t r r ≡ true
    unfolding word_profile profile_from
    round_marked [] t r h hr s = absurd (not_nothing h)
    round_marked (a ∷ w) t r h hr s =
        (profile_means (a ∷ w) t h).path_is_marked r r hr hr s.path
        (⊎_elim (last_marked M a w s.path) (λ m. m) (homed_marked M s.path s.home))

    -- q is in the set after an event exactly if the event leads to it from a state of the set
    after_bit : (P a q : ℕ) → q < W → bit (after W M P a) q ≡ some_below W (from P a q)
    unfolding after
    after_bit P a q h = bit_number_of_bits W (λ q. some_below W (from P a q)) q h

    -- what a path reaches from a state of P is in the set that its word makes of P
    set_reached : (P : ℕ) (w : Word) {p q : ℕ} → bit P p ≡ true → Path M p w q → bit (set_from W M P w) q ≡ true
    unfolding set_from
    set_reached P [] b stop = b
    set_reached P (a ∷ w) b (step {p = p} {r = r} e s) =
        let r_in = some_is_below (from P a r) W p (within.from_below p a r e) (both b e) in
        set_reached (after W M P a) w (after_bit P a r (within.to_below p a r e) ∙ r_in) s

    -- and nothing else is
    set_only_reached : (P : ℕ) → P < 2 ^ W → (w : Word) (q : ℕ) → bit (set_from W M P w) q ≡ true
        → (p : ℕ) × (bit P p ≡ true) × Path M p w q
    unfolding set_from
    set_only_reached P h [] q b = (q, b, stop)
    set_only_reached P h (a ∷ w) q b =
        let (r, r_in, s) = set_only_reached (after W M P a) (after_below P a) w q b in
        let r_below = bit_inside W (after W M P a) r (after_below P a) r_in in
        let (p, _, p_in, e) = below_both (bit P) (λ p. M.arrow p a r) W (sym (after_bit P a r r_below) ∙ r_in) in
        (p, p_in, step e s)

    -- THE SET OF A WORD means paths from a start state
    pub set_means : (w : Word) → SetMeans W M w (word_set W M w)
    unfolding word_set start_set
    set_means w =
        record {
          reached = λ p q h s. set_reached (start_set W M) w (bit_number_of_bits W M.start p (within.start_below p h) ∙ h) s;
          only_reached = λ q b.
              let small = number_of_bits_below W M.start in
              let (p, p_in, s) = set_only_reached (start_set W M) small w q b in
              (p, sym (bit_number_of_bits W M.start p (bit_inside W (start_set W M) p small p_in)) ∙ p_in, s);
        }

  -- no second number means the same paths: neither for a set
  pub one_set : (w : Word) (P Q : ℕ) → SetMeans W M w P → SetMeans W M w Q → P ≡ Q
  one_set w P Q p q = same_numbers P Q (λ i. same_test (there P Q p q i) (there Q P q p i))
    where
      there : (P Q : ℕ) → SetMeans W M w P → SetMeans W M w Q → (i : ℕ) → bit P i ≡ true → bit Q i ≡ true
      there P Q p q i b = let (r, r_starts, s) = p.only_reached i b in q.reached r i r_starts s

  -- nor two numbers for a profile
  pub one_profile : (w : Word) (s t : Profile) → ProfileMeans W M w s → ProfileMeans W M w t → s ≡ t
  one_profile w s t S T =
      small_equal W s t (small S) (small T)
      (λ p q hp hq. same_test (λ l. T.path p q hp hq (S.only_path p q hp hq l)) (λ l. S.path p q hp hq (T.only_path p q hp hq l)))
      (λ p q hp hq. same_test
      (λ l. let (r, m) = S.only_marked_path p q hp hq l in T.path_is_marked p q hp hq r m)
      (λ l. let (r, m) = T.only_marked_path p q hp hq l in S.path_is_marked p q hp hq r m))
    where
      small : {t : Profile} → ProfileMeans W M w t → Small W t
      small T = record { arrows_below = T.arrows_below; marks_below = T.marks_below }
