-- For every course exactly one of the model and its opposite machine accepts. The opposite's paths are ways along points; a settling pair
-- that rejects gives the opposite a way past the empty set or a gate, and such a way gives a pair that rejects.
use Prim.Native.Nat.{ℕ, zero, suc, ◌+◌, ◌≤◌, ◌<◌}
use native.Mathlib.Omega.{arith}
use mathlib.Core.Path.{◌≡◌, refl, sym, ap, ◌∙◌, subst}
use mathlib.Core.Bool.{true, false, not, true≢false}
use mathlib.Core.Logic.{◌⊎◌, inl, inr, ⊎_elim}
use mathlib.Core.List.{List, [], ◌∷◌, ◌++◌, append_assoc}
use mathlib.Core.Option.{none, some}
use lib.Dec.{eqb, ltb}
use borrow.Author.Tests.{ltb-true, eqb-true, eq-eqb}
use Rattle.laws.specs.Words.{Word, power, letters_are_below, empty}
use Rattle.laws.specs.Model.{Machine, Path, stop, step, Accepted, Course, Within}
use Rattle.laws.specs.Tables.{Entry}
use Rattle.laws.specs.Profiles.{Profile, values, is_rejecting_pair, start_set, set_from, word_set, event_profile, profile_from, word_profile}
use Rattle.laws.specs.Profiles.{HoldsSets, HoldsProfiles}
use Rattle.laws.specs.Opposite.{written, rejects_non_empty, block_profiles, arrows, opposite, Opposed}
use Rattle.laws.proofs.Places.{In}
use Rattle.laws.proofs.Booleans.{both, and_left, and_right, either}
use Rattle.laws.proofs.Order.{letters_join, letters_power}
use Rattle.laws.proofs.Paths.{then, cut, last_home, at_home}
use Rattle.laws.proofs.Joins.{image_nothing, after_event}
use Rattle.laws.proofs.Points.{Point, at_set, at_block, Way, here, on, Stands, Found, set_found, number}
use Rattle.laws.proofs.Numbered.{Accepting, empty_set, a_gate, has_block_is, stands_once, found_stands, home_accepting, accepting_home}
use Rattle.laws.proofs.Numbered.{read_arrow, write_arrow, start_stands, start_number}
use Rattle.laws.proofs.Meaning.{profile_append, profile_of_two}
use Rattle.laws.proofs.Complete.{Closed, sets_found, profiles_found, closed}
use Rattle.laws.proofs.Rounds.{fits_join, rejecting_fits, Settled, settled, accepts, rejects, no_path}
use Rattle.laws.proofs.Lassos.{power_add, later, turned}
use Rattle.laws.proofs.Blocks.{way_then, sets_on, enters, to_gate, gate_round, set_reached, gate_reached}

-- the first letter, and the others
letters_first : (k a : ℕ) (w : Word) → letters_are_below k (a ∷ w) ≡ true → (a < k) × (letters_are_below k w ≡ true)
unfolding letters_are_below
letters_first k a w h = (ltb-true a k (and_left (ltb a k) (letters_are_below k w) h), and_right (ltb a k) (letters_are_below k w) h)

-- a word that is not empty, repeated at least once, is not empty
some_power : (j : ℕ) (v : Word) → 1 ≤ j → empty v ≡ false → empty (power j v) ≡ false
unfolding empty power
some_power zero v h n = absurd (omega arith)
some_power (suc j) [] h n = absurd (true≢false n)
some_power (suc j) (a ∷ v) h n = refl

-- two words, the one behind the other, are empty in either order
empty_turn : (x y : Word) → empty (x ++ y) ≡ empty (y ++ x)
unfolding empty
empty_turn [] [] = refl
empty_turn [] (b ∷ y) = refl
empty_turn (a ∷ x) [] = refl
empty_turn (a ∷ x) (b ∷ y) = refl

-- from the empty set every word leads to the empty set
set_nothing : (W : ℕ) (M : Machine ℕ) (w : Word) → set_from W M 0 w ≡ 0
unfolding set_from
set_nothing W M [] = refl
set_nothing W M (a ∷ w) = ap (λ P. set_from W M P w) (after_event W M a 0 ∙ image_nothing W (event_profile W M a)) ∙ set_nothing W M w

module _ (W : ℕ) (M : Machine ℕ) (k : ℕ) (sets : List (Entry ℕ)) (profiles : List (Entry Profile)) (hs : HoldsSets W M k sets)
    (hp : HoldsProfiles W M k profiles) where
  -- the sets, the profiles, the profiles with a block, and the opposite machine
  abbrev Ps : List ℕ
  Ps = values sets

  abbrev ts : List Profile
  ts = values profiles

  abbrev bs : List Profile
  bs = block_profiles W Ps ts

  abbrev O : Machine ℕ
  O = opposite W M k Ps ts

  -- the tables are closed under one event more
  all_there : Closed W M k Ps ts
  all_there = closed W M k sets profiles hs hp

  -- a way from a point with a number is a path of the opposite, to a point with a number
  path_of : {s r : Point} {w : Word} → letters_are_below k w ≡ true → Found Ps ts bs s → Way W M bs s w r
      → Found Ps ts bs r × Path O (number Ps ts bs s) w (number Ps ts bs r)
  unfolding opposite
  path_of h f here = (f, stop)
  path_of h f (on {s = s} {r = r} {a = a} {w = w} l rest) =
      let letters = letters_first k a w h in
      let x = write_arrow W M k Ps ts bs all_there s r a letters.0 f l in
      let p = path_of letters.1 x.0 rest in
      (p.0, step x.1 p.1)

  -- a path of the opposite is a way from the point that its first state stands for
  way_of : {p q : ℕ} {w : Word} {s : Point} → Path O p w q → Stands Ps ts bs p s → (r : Point) × Stands Ps ts bs q r × Way W M bs s w r
  unfolding opposite
  way_of {s = s} stop x = (s, x, here)
  way_of {s = s} (step {p = p} {r = q} {a = a} e rest) x =
      let y = read_arrow W M k Ps ts bs all_there p a q s x e in
      let z = way_of rest y.1 in
      (z.0, z.1, on y.2 z.2)

  -- the start set has a number
  start_found : Found Ps ts bs (at_set (start_set W M))
  start_found = set_found (0, all_there.start_first)

  -- the opposite accepts by a way from the start set to an accepting point and one from there back to it
  accepted_by : {u v : Word} {s : Point} → Course k u v → (i j : ℕ) → 1 ≤ j → Accepting s
      → Way W M bs (at_set (start_set W M)) (u ++ power i v) s → Way W M bs s (power j v) s → Accepted O u v
  unfolding opposite written
  accepted_by {u = u} {v = v} {s = s} course i j h a there back =
      let reach = path_of (letters_join k u (power i v) course.u_letters (letters_power k i v course.v_letters)) start_found there in
      let round = (path_of (letters_power k j v course.v_letters) reach.0 back).1 in
      record {
        i = i;
        j = j;
        r = number Ps ts bs s;
        from = number Ps ts bs (at_set (start_set W M));
        from_start = eq-eqb _ 0 (start_number W M k Ps ts bs all_there);
        reach = reach.1;
        j_from_1 = h;
        round = round;
        round_homed = last_home O (accepting_home Ps ts bs (arrows W M k Ps ts bs) (found_stands Ps ts bs reach.0) a) round;
      }

  -- where the settling pair rejects with the empty set, the opposite stays at the empty set
  by_empty_set : {u v : Word} → Course k u v → (i : ℕ) → word_set W M (u ++ power i v) ≡ 0 → Accepted O u v
  unfolding word_set
  by_empty_set {u = u} {v = v} course i e =
      accepted_by course i 1 (omega arith) (empty_set refl)
      (subst (λ P. Way W M bs (at_set (start_set W M)) (u ++ power i v) (at_set P)) e (sets_on W M bs (u ++ power i v) (start_set W M)))
      (subst (λ P. Way W M bs (at_set 0) (power 1 v) (at_set P)) (set_nothing W M (power 1 v)) (sets_on W M bs (power 1 v) 0))

  -- where it rejects with a set that is not empty, the opposite goes round at the gate of its block
  by_gate : {u v : Word} → Course k u v → (s : Settled W M u v) → rejects_non_empty W (word_set W M (u ++ power s.m v)) s.e ≡ true
      → Accepted O u v
  unfolding word_set word_profile
  by_gate {u = u} {v = v} course s h =
      let m : ℕ = s.m in
      let w : Word = power m v in
      let P : ℕ = word_set W M (u ++ w) in
      let some_w : empty w ≡ false = some_power m v s.m_from_1 course.v_some in
      let letters : letters_are_below k w ≡ true = letters_power k m v course.v_letters in
      let to_set = sets_on W M bs (u ++ w) (start_set W M) in
      let in_sets : In P Ps = sets_found W M k sets profiles hs hp (u ++ w) (letters_join k u w course.u_letters letters) in
      let in_profiles : In s.e ts = profiles_found W M k sets profiles hs hp w s.e letters s.round_profile in
      let block : In s.e bs = has_block_is W Ps ts s.e P in_profiles in_sets h in
      let twice : profile_from W M (word_profile W M w) w ≡ some s.e =
      sym (profile_append W M none w w)
      ∙ profile_of_two W M w w s.e s.e s.round_profile s.round_profile
      ∙ ap some (fits_join W P s.e s.pair_fits)
      in
      let to_block = way_then W M bs to_set (enters W M bs w block h some_w) in
      let there = way_then W M bs to_block (to_gate W M bs w (word_profile W M w) some_w twice) in
      accepted_by course (m + m + m) m s.m_from_1 a_gate
      (simp (power_add, append_assoc) (simp append_assoc at there))
      (to_gate W M bs w none some_w s.round_profile)

  module _ (within : Within W M) where
    -- ONE OF THE TWO ACCEPTS: the settling pair rejects or does not
    one_accepts : (u v : Word) → Course k u v → Accepted M u v ⊎ Accepted O u v
    unfolding rejects_non_empty
    one_accepts u v course =
        let s = settled W M u v course.v_some in
        let P : ℕ = word_set W M (u ++ power s.m v) in
        ⊎_elim
        (λ r. inr (⊎_elim
        (λ z. by_empty_set course s.m (eqb-true P 0 z))
        (λ n. by_gate course s (both (ap not n) r))
        (either (eqb P 0))))
        (λ a. inl (accepts W M within u v s a))
        (either (is_rejecting_pair W P s.e))

    -- the model accepts nothing that the opposite reads to an accepting state and from there back to it
    not_at : {U R : Word} {g : ℕ} {s : Point} → Accepting s → Stands Ps ts bs g s → Way W M bs (at_set (start_set W M)) U s → Path O g R g
        → empty R ≡ false → Accepted M U R → ⊥
    unfolding word_set
    not_at {U = U} (empty_set z) x there back n run =
        let c = cut M U run.reach in
        no_path W M within U (set_reached W M bs there ∙ z) run.from c.middle run.from_start c.left
    not_at {U = U} {R = R} (a_gate {t = t}) x there back n run =
        let h : is_rejecting_pair W (word_set W M U) t ≡ true = gate_reached W M bs there in
        let b = way_of back x in
        let round = subst (λ r. Way W M bs (at_block t none) R r) (stands_once Ps ts bs b.1 x) b.2 in
        rejects W M within U R t h (gate_round W M bs (fits_join W (word_set W M U) t (rejecting_fits W (word_set W M U) t h)) n round) run

    -- NOT BOTH ACCEPT: the model's run is moved to where the opposite's is at an accepting state
    not_both_accept : (u v : Word) → empty v ≡ false → Accepted M u v → Accepted O u v → ⊥
    unfolding opposite written
    not_both_accept u v n run against =
        let c = at_home O against.round against.round_homed in
        let start : Stands Ps ts bs against.from (at_set (start_set W M)) =
        rw (eqb-true against.from 0 against.from_start) (start_stands W M k Ps ts bs all_there) in
        let reached = way_of (then O against.reach c.left) start in
        let moved : Accepted M (u ++ power against.i v) (c.x ++ c.y) =
        rw c.whole (later M run against.i against.j against.j_from_1) in
        not_at
        (home_accepting Ps ts bs (arrows W M k Ps ts bs) reached.1 c.is_home)
        reached.1
        reached.2
        (then O c.right c.left)
        (empty_turn c.y c.x ∙ ap empty c.whole ∙ some_power against.j v against.j_from_1 n)
        (turned M c.x c.y moved)

    -- OF EVERY COURSE EXACTLY ONE of the model and its opposite accepts
    pub opposed : Opposed M (opposite W M k (values sets) (values profiles)) k
    opposed = record { one = one_accepts; not_both = λ u v course. not_both_accept u v course.v_some }
