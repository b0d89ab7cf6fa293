-- One course by all repeats of its round in one profile: the growing union of joins is that profile, its numbers only grow, and the
-- course is accepted exactly if the profile marks a way back to a state of the set of the beginning, or of where it leads that set.
use Prim.Native.Nat.{ℕ, zero, suc, ◌+◌, ◌<◌, ◌≤◌}
use native.Mathlib.Omega.{arith}
use mathlib.Core.Path.{◌≡◌, refl, sym, ◌∙◌}
use mathlib.Core.Bool.{Bool, true, false, ◌&&◌, ◌||◌}
use mathlib.Core.Logic.{inl, inr, ⊎_elim, ◌↔◌}
use mathlib.Core.List.{◌++◌, append-nil}
use mathlib.Core.Option.{some}
use lib.Dec.{eqb}
use borrow.Author.Tests.{eqb-false}
use Rattle.laws.specs.Bits.{bit, times}
use Rattle.laws.specs.Words.{Word, power}
use Rattle.laws.specs.Model.{Machine, Accepted, Within}
use Rattle.laws.specs.Profiles.{Profile, same_profile, leads_to, marked, join, image, marks_a_round, word_set, word_profile}
use Rattle.laws.specs.Repeats.{union, MarksLed, Repeats, accepted_from}
use Rattle.laws.proofs.Booleans.{or_left, or_right, or_cases, both, never, some_is_below, below_both}
use Rattle.laws.proofs.Packing.{cell_grid, grid_below, more_cells}
use Rattle.laws.proofs.Powers.{times_add}
use Rattle.laws.proofs.Joins.{Small, Via, join_leads, leads_via, join_marks, marks_via, join_assoc, image_has, image_from}
use Rattle.laws.proofs.Meaning.{profile_means, set_of_two}
use Rattle.laws.proofs.Rounds.{power_profile, marked_accepted, accepted_marked}

module _ (W : ℕ) where
  -- t leads from p to q, or marks that: what is shown of both is shown once
  abbrev has : Bool → Profile → ℕ → ℕ → Bool
  has false t p q = leads_to W t p q
  has true t p q = marked W t p q

  -- every arrow and every mark of s is one of c
  abbrev Inside : Profile → Profile → Type 0
  Inside s c = (b : Bool) (p q : ℕ) → p < W → q < W → has b s p q ≡ true → has b c p q ≡ true

  -- t repeated
  abbrev repeat : ℕ → Profile → Profile
  repeat n t = times (join W) n t

  module _ (s t : Profile) where
    -- the union leads and marks where s or t does
    union_has : (b : Bool) (p q : ℕ) → p < W → q < W → has b (union W s t) p q ≡ (has b s p q || has b t p q)
    unfolding union leads_to marked
    union_has false p q hp hq = cell_grid W (λ p q. leads_to W s p q || leads_to W t p q) p q hp hq
    union_has true p q hp hq = cell_grid W (λ p q. marked W s p q || marked W t p q) p q hp hq

    union_left : Inside s (union W s t)
    union_left b p q hp hq h = union_has b p q hp hq ∙ or_left (has b t p q) h

    union_right : Inside t (union W s t)
    union_right b p q hp hq h = union_has b p q hp hq ∙ or_right (has b s p q) h

    -- and is small
    union_small : Small W (union W s t)
    unfolding union
    union_small =
        record {
          arrows_below = grid_below W (λ p q. leads_to W s p q || leads_to W t p q);
          marks_below = grid_below W (λ p q. marked W s p q || marked W t p q);
        }

    module _ (p q : ℕ) (hp : p < W) (hq : q < W) where
      -- a join leads and marks where there is a state between
      via_has : (b : Bool) → Via W s t p q b → has b (join W s t) p q ≡ true
      via_has false v = join_leads W s t p q hp hq v
      via_has true v = join_marks W s t p q hp hq v

      has_via : (b : Bool) → has b (join W s t) p q ≡ true → Via W s t p q b
      has_via false h = leads_via W s t p q hp hq h
      has_via true h = marks_via W s t p q hp hq h

  module _ (c x : Profile) (small : Small W c) where
    -- UNION NEVER LOWERS A NUMBER
    union_arrows : c.arrows ≤ (union W c x).arrows
    unfolding leads_to
    union_arrows =
        more_cells W c.arrows (union W c x).arrows small.arrows_below (union_small c x).arrows_below (union_left c x false)

    union_marks : c.marks ≤ (union W c x).marks
    unfolding marked
    union_marks = more_cells W c.marks (union W c x).marks small.marks_below (union_small c x).marks_below (union_left c x true)

    -- so where it is another profile, both numbers together grow
    pub union_grows : same_profile (union W c x) c ≡ false → c.arrows + c.marks < (union W c x).arrows + (union W c x).marks
    unfolding same_profile
    union_grows e = go (eqb (union W c x).arrows c.arrows) (eqb (union W c x).marks c.marks) refl refl e
      where
        go : (a m : Bool) → eqb (union W c x).arrows c.arrows ≡ a → eqb (union W c x).marks c.marks ≡ m → (a && m) ≡ false
            → c.arrows + c.marks < (union W c x).arrows + (union W c x).marks
        go false m f g h = omega (arith, eqb-false, union_arrows, union_marks)
        go true false f g h = omega (arith, eqb-false, union_arrows, union_marks)
        go true true f g h = never (sym h)

  -- WHAT THE GROWING LOOP KEEPS, from t to c: every arrow and every mark of c is one of t repeated, and those of t are there
  pub record Grown (t c : Profile) : Type 0 where
    pub only : (b : Bool) (p q : ℕ) → p < W → q < W → has b c p q ≡ true → (n : ℕ) × (has b (repeat n t) p q ≡ true)
    pub kept : Inside t c
    pub small : Small W c

  pub grown_start : (t : Profile) → Small W t → Grown t t
  unfolding times
  grown_start t small = record { only = λ b p q hp hq h. (0, h); kept = λ b p q hp hq h. h; small = small }

  module _ {t c : Profile} (g : Grown t c) where
    module _ (led : MarksLed W t) where
      -- t repeated marks only where it leads
      repeat_led : (n : ℕ) → MarksLed W (repeat n t)
      unfolding times
      repeat_led zero = led
      repeat_led (suc n) = λ p q hp hq h. join_leads W t (repeat n t) p q hp hq (marks_via W t (repeat n t) p q hp hq h)

      module _ (p q : ℕ) (hp : p < W) (hq : q < W) where
        -- two ways of t repeated, one behind the other, are one of t repeated
        both_ways : (b : Bool) (n m : ℕ) → Via W (repeat n t) (repeat m t) p q b → (k : ℕ) × (has b (repeat k t) p q ≡ true)
        both_ways b n m v =
            (suc (n + m), rw (← times_add (join W) (join_assoc W) n m t) (via_has (repeat n t) (repeat m t) p q hp hq b v))

        -- so are two ways in c
        through : (b : Bool) → Via W c c p q b → (k : ℕ) × (has b (repeat k t) p q ≡ true)
        through false v =
            let (n, first) = g.only false p v.r hp v.r_below v.first in
            let (m, second) = g.only false v.r q v.r_below hq v.second in
            both_ways false n m (record { r = v.r; r_below = v.r_below; first = first; second = second; mark = never })
        through true v =
            let r : ℕ = v.r in
            let hr = v.r_below in
            ⊎_elim
            (λ l.
            let (n, mark) = g.only true p r hp hr l in
            let (m, second) = g.only false r q hr hq v.second in
            let first = repeat_led n p r hp hr mark in
            both_ways true n m (record { r = r; r_below = hr; first = first; second = second; mark = λ _. inl mark }))
            (λ l.
            let (n, first) = g.only false p r hp hr v.first in
            let (m, mark) = g.only true r q hr hq l in
            let second = repeat_led m r q hr hq mark in
            both_ways true n m (record { r = r; r_below = hr; first = first; second = second; mark = λ _. inr mark }))
            (v.mark refl)

      pub grown_turn : Grown t (union W c (join W c c))
      grown_turn =
          record {
            only = λ b p q hp hq h.
                ⊎_elim
                (g.only b p q hp hq)
                (λ l. through p q hp hq b (has_via c c p q hp hq b l))
                (or_cases (has b c p q) (has b (join W c c) p q) (sym (union_has c (join W c c) b p q hp hq) ∙ h));
            kept = λ b p q hp hq h. union_left c (join W c c) b p q hp hq (g.kept b p q hp hq h);
            small = union_small c (join W c c);
          }

    module _ (same : union W c (join W c c) ≡ c) where
      -- where a turn changes nothing, two ways in c are one in c
      in_c : (s : Profile) → Inside s c → Inside (join W t s) c
      in_c s i b p q hp hq h =
          rw same at (union_right c (join W c c) b p q hp hq (via_has c c p q hp hq b (way (has_via t s p q hp hq b h))))
        where
          way : Via W t s p q b → Via W c c p q b
          way v =
              let hr = v.r_below in
              record {
                r = v.r;
                r_below = hr;
                first = g.kept false p v.r hp hr v.first;
                second = i false v.r q hr hq v.second;
                mark = λ e. ⊎_elim (λ l. inl (g.kept true p v.r hp hr l)) (λ l. inr (i true v.r q hr hq l)) (v.mark e);
              }

      -- so c has all of t repeated
      all_in_c : (n : ℕ) → Inside (repeat n t) c
      unfolding times
      all_in_c zero = g.kept
      all_in_c (suc n) = in_c (repeat n t) (all_in_c n)

      pub grown_end : Repeats W t c
      grown_end =
          record {
            leads = λ p q hp hq. (g.only false p q hp hq, λ (n, h). all_in_c n false p q hp hq h);
            marks = λ p q hp hq. (g.only true p q hp hq, λ (n, h). all_in_c n true p q hp hq h);
          }

module _ (W : ℕ) (M : Machine ℕ) (within : Within W M) where
  -- the profile of a word marks only where it leads
  pub word_led : (w : Word) (t : Profile) → word_profile W M w ≡ some t → MarksLed W t
  word_led w t h p q hp hq m =
      let means = profile_means W M within w t h in
      let (s, _) = means.only_marked_path p q hp hq m in
      means.path p q hp hq s

  module _ (u v : Word) (t c : Profile) (h : word_profile W M v ≡ some t) (all : Repeats W t c) where
    -- the profile of v read n + 1 times
    round : (n : ℕ) → word_profile W M (power (suc n) v) ≡ some (repeat W n t)
    round n = power_profile W M v t h n

    -- the set behind u and v read n + 1 times is where t repeated leads the set of u
    set_behind : (n : ℕ) → word_set W M (u ++ power (suc n) v) ≡ image W (word_set W M u) (repeat W n t)
    set_behind n = set_of_two W M u (power (suc n) v) (repeat W n t) (round n)

    -- a state behind u and v read i times, with a marked way back to itself in c
    accepted_at : (i r : ℕ) → r < W → bit (word_set W M (u ++ power i v)) r ≡ true → marked W c r r ≡ true → Accepted M u v
    accepted_at i r r_below r_in m =
        let (n, n_marks) = (all.marks r r r_below r_below).0 m in
        marked_accepted W M within u v (repeat W n t) i (suc n) r (omega arith) (round n) r_below r_in n_marks

    -- where c leads the set of u, repeats of v lead too
    there : accepted_from W (word_set W M u) c ≡ true → Accepted M u v
    unfolding accepted_from marks_a_round power
    there e =
        let P : ℕ = word_set W M u in
        ⊎_elim
        (λ l. let (r, r_below, r_in, m) = below_both (bit P) (λ r. marked W c r r) W l in accepted_at 0 r r_below (rw append-nil r_in) m)
        (λ l.
        let (r, r_below, r_in, m) = below_both (bit (image W P c)) (λ r. marked W c r r) W l in
        let (p, p_below, p_in, leads) = image_from W P c r r_below r_in in
        let (n, n_leads) = (all.leads p r p_below r_below).0 leads in
        accepted_at (suc n) r r_below (rw (set_behind n) (image_has W P (repeat W n t) p r p_below r_below p_in n_leads)) m)
        (or_cases (marks_a_round W P c) (marks_a_round W (image W P c) c) e)

    -- a way back to itself that v read j times marks is marked in c
    back_marked : (j r : ℕ) → r < W → 1 ≤ j → ((s : Profile) → word_profile W M (power j v) ≡ some s → marked W s r r ≡ true)
        → marked W c r r ≡ true
    back_marked zero r r_below l marks = absurd (omega arith)
    back_marked (suc n) r r_below l marks = (all.marks r r r_below r_below).1 (n, marks (repeat W n t) (round n))

    -- what is reached behind u and repeats of v is in the set of u, or where c leads that
    behind_in : (i r : ℕ) → r < W → bit (word_set W M (u ++ power i v)) r ≡ true → marked W c r r ≡ true
        → accepted_from W (word_set W M u) c ≡ true
    unfolding accepted_from marks_a_round power
    behind_in zero r r_below b m =
        let P : ℕ = word_set W M u in
        or_left (marks_a_round W (image W P c) c) (some_is_below (λ r. bit P r && marked W c r r) W r r_below (both (rw append-nil at b) m))
    behind_in (suc n) r r_below b m =
        let P : ℕ = word_set W M u in
        let (p, p_below, p_in, l) = image_from W P (repeat W n t) r r_below (rw (set_behind n) at b) in
        let r_in = image_has W P c p r p_below r_below p_in ((all.leads p r p_below r_below).1 (n, l)) in
        or_right (marks_a_round W P c) (some_is_below (λ r. bit (image W P c) r && marked W c r r) W r r_below (both r_in m))

    -- ALL REPEATS SETTLE THE COURSE: they have a marked way back at the set of u, or where they lead it, exactly if it is accepted
    pub accepted_from_is : (accepted_from W (word_set W M u) c ≡ true) ↔ Accepted M u v
    accepted_from_is = (there, back)
      where
        back : Accepted M u v → accepted_from W (word_set W M u) c ≡ true
        back run =
            let (r_below, r_in, marks) = accepted_marked W M within u v run in
            behind_in run.i run.r r_below r_in (back_marked run.j run.r r_below run.j_from_1 marks)
