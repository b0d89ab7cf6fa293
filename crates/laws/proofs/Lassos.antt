-- Lassos of any machine: a path from a start state, and a round with a home state behind it. Rounds are turned, repeated and moved along,
-- so what is accepted as (u, v) is accepted at every later start, with v repeated and with v turned.
use Prim.Native.Nat.{ℕ, zero, suc, ◌+◌, ◌*◌, ◌≤◌}
use native.Mathlib.Omega.{arith}
use native.Mathlib.Nat.{zero-add, suc-add, zero-mul, suc-mul, mul-suc, mul_comm}
use mathlib.Core.Path.{◌≡◌, refl, sym, ap, ◌∙◌, subst}
use mathlib.Core.Bool.{true}
use mathlib.Core.Logic.{◌⊎◌, inl, inr, ⊎_elim}
use mathlib.Core.List.{[], ◌++◌, append_assoc, append-nil}
use Rattle.laws.specs.Words.{Word, power}
use Rattle.laws.specs.Model.{Machine, Path, stop, homed, Accepted}
use Rattle.laws.proofs.Paths.{then, first_home, cut, HomePath, home_then, then_home}
use Rattle.laws.proofs.Meaning.{cut_marked, marked_homed, homed_marked}

-- v i times and then j times is v i + j times
pub power_add : (i j : ℕ) (v : Word) → power (i + j) v ≡ power i v ++ power j v
unfolding power
power_add zero j v = ap (λ n. power n v) (zero-add j)
power_add (suc i) j v =
    ap (λ n. power n v) (suc-add i j) ∙ ap (λ w. v ++ w) (power_add i j v) ∙ sym (append_assoc v (power i v) (power j v))

-- v j times, all of it i times, is v i·j times
power_times : (i j : ℕ) (v : Word) → power i (power j v) ≡ power (i * j) v
unfolding power
power_times zero j v = ap (λ n. power n v) (sym (zero-mul j))
power_times (suc i) j v =
    let n : j + i * j ≡ suc i * j = omega (arith, suc-mul i j) in
    ap (λ w. power j v ++ w) (power_times i j v) ∙ sym (power_add j (i * j) v) ∙ ap (λ n. power n v) n

-- i times j times is j times i times
power_swap : (i j : ℕ) (v : Word) → power i (power j v) ≡ power j (power i v)
power_swap i j v = power_times i j v ∙ ap (λ n. power n v) (mul_comm i j) ∙ sym (power_times j i v)

-- x·y repeated and then x is x and then y·x repeated
power_turn : (i : ℕ) (x y : Word) → power i (x ++ y) ++ x ≡ x ++ power i (y ++ x)
unfolding power
power_turn zero x y = sym (append-nil x)
power_turn (suc i) x y =
    append_assoc (x ++ y) (power i (x ++ y)) x
    ∙ ap (λ w. (x ++ y) ++ w) (power_turn i x y)
    ∙ append_assoc x y (x ++ power i (y ++ x))
    ∙ ap (λ w. x ++ w) (sym (append_assoc y x (power i (y ++ x))))

module _ {S : Type 0} (M : Machine S) where
  -- a path with a home state, cut in two, has one in one of the parts
  cut_homed : (x y : Word) {p q : S} (s : Path M p (x ++ y) q) → homed M s ≡ true
      → (homed M (cut M x s).left ≡ true) ⊎ (homed M (cut M x s).right ≡ true)
  cut_homed x y s h =
      let c = cut M x s in
      ⊎_elim
      (λ f. inl (first_home M f c.left))
      (λ m. ⊎_elim (λ l. inl (marked_homed M c.left l)) (λ r. inr (marked_homed M c.right r)) (cut_marked M x y s m))
      (homed_marked M s h)

  -- a path that reads u from a start state, and a round with a home state that reads w from there
  record Lasso (u w : Word) : Type 0 where
    from : S
    from_start : M.start from ≡ true
    r : S
    reach : Path M from u r
    round : HomePath M r w r

  -- the same lasso, its words written in another way
  lasso_words : {u u' w w' : Word} → u ≡ u' → w ≡ w' → Lasso u w → Lasso u' w'
  lasso_words {u' = u'} {w = w} e f l = subst (Lasso u') f (subst (λ u. Lasso u w) e l)

  -- the start of the round moved behind its first part
  lasso_turn : {u : Word} (x y : Word) → Lasso u (x ++ y) → Lasso (u ++ x) (y ++ x)
  lasso_turn x y l =
      let c = cut M x l.round.path in
      record {
        from = l.from;
        from_start = l.from_start;
        r = c.middle;
        reach = then M l.reach c.left;
        round =
            ⊎_elim
            (λ h. then_home M c.right (record { path = c.left; home = h }))
            (λ h. home_then M (record { path = c.right; home = h }) c.left)
            (cut_homed x y l.round.path l.round.home);
      }

  -- the start of the round moved by v d times
  lasso_on : (d n : ℕ) {u : Word} (v : Word) → Lasso u (power (suc n) v) → Lasso (u ++ power d v) (power (suc n) v)
  unfolding power
  lasso_on zero n v l = rw append-nil l
  lasso_on (suc d) n {u = u} v l =
      rw (← append_assoc) (lasso_on d n v (lasso_words refl (rw append-nil at (power_turn n v [])) (lasso_turn v (power n v) l)))

  -- the round repeated j + 1 times
  lasso_again : (j : ℕ) {u w : Word} → Lasso u w → Lasso u (power (suc j) w)
  unfolding power
  lasso_again j l =
      record {
        from = l.from;
        from_start = l.from_start;
        r = l.r;
        reach = l.reach;
        round = home_then M l.round (rest j l.round.path);
      }
    where
      rest : (j : ℕ) {r : S} {w : Word} → Path M r w r → Path M r (power j w) r
      rest zero s = stop
      rest (suc j) s = then M s (rest j s)

  -- a lasso that reads u and then v i times, and n + 1 times v in its round
  record Laps (u v : Word) : Type 0 where
    i : ℕ
    n : ℕ
    lasso : Lasso (u ++ power i v) (power (suc n) v)

  -- a course is accepted exactly if it has one
  laps_of : {u v : Word} → Accepted M u v → Laps u v
  laps_of {u = u} {v = v} a = go a.j a.j_from_1 (record { path = a.round; home = a.round_homed })
    where
      go : (j : ℕ) → 1 ≤ j → HomePath M a.r (power j v) a.r → Laps u v
      go zero h s = absurd (omega arith)
      go (suc n) h s =
          record { i = a.i; n = n; lasso = record { from = a.from; from_start = a.from_start; r = a.r; reach = a.reach; round = s } }

  laps_accept : {u v : Word} → Laps u v → Accepted M u v
  laps_accept l =
      record {
        i = l.i;
        j = suc l.n;
        r = l.lasso.r;
        from = l.lasso.from;
        from_start = l.lasso.from_start;
        reach = l.lasso.reach;
        j_from_1 = omega arith;
        round = l.lasso.round.path;
        round_homed = l.lasso.round.home;
      }

  -- what is accepted is accepted at every later start, and with v repeated
  pub later : {u v : Word} → Accepted M u v → (i j : ℕ) → 1 ≤ j → Accepted M (u ++ power i v) (power j v)
  later a i zero h = absurd (omega arith)
  later {u = u} {v = v} a i (suc j) h =
      let l = laps_of a in
      let d : ℕ = i + l.i * j in
      let e : l.i + d ≡ i + l.i * suc j = omega (arith, mul-suc l.i j) in
      let words : (u ++ power l.i v) ++ power d v ≡ (u ++ power i v) ++ power l.i (power (suc j) v) =
      simp append_assoc (rw (power_times, ← power_add l.i d v, ← power_add i (l.i * suc j) v, e))
      in
      laps_accept (record {
        i = l.i;
        n = l.n;
        lasso = lasso_words words (power_swap (suc j) (suc l.n) v) (lasso_again j (lasso_on d l.n v l.lasso));
      })

  -- what is accepted is accepted with the x that its round begins with read before it
  pub turned : {u : Word} (x y : Word) → Accepted M u (x ++ y) → Accepted M (u ++ x) (y ++ x)
  unfolding power
  turned {u = u} x y a =
      let l = laps_of a in
      let turn : (z : Word) (n : ℕ) → (z ++ power n (x ++ y)) ++ x ≡ (z ++ x) ++ power n (y ++ x) =
      λ z n. rw (append_assoc z (power n (x ++ y)), power_turn, append_assoc)
      in
      laps_accept (record {
        i = l.i;
        n = l.n;
        lasso =
            lasso_words
            (turn u l.i)
            (turn y l.n)
            (lasso_turn x (y ++ power l.n (x ++ y)) (lasso_words refl (append_assoc x y (power l.n (x ++ y))) l.lasso));
      })
