-- Paths of any machine: one behind the other, cut in two, and the home states on them.
use Prim.Native.Nat.{ℕ}
use mathlib.Core.Path.{◌≡◌, refl, ap}
use mathlib.Core.Bool.{true}
use mathlib.Core.Logic.{⊎_elim}
use mathlib.Core.List.{[], ◌∷◌, ◌++◌}
use Rattle.laws.specs.Words.{Word}
use Rattle.laws.specs.Model.{Machine, Path, stop, step, homed}
use Rattle.laws.proofs.Booleans.{or_left, or_right, or_cases}

module _ {S : Type 0} (M : Machine S) where
  -- one path behind the other
  unfoldable pub then : {p q r : S} {x y : Word} → Path M p x q → Path M q y r → Path M p (x ++ y) r
  then stop t = t
  then (step h s) t = step h (then s t)

  -- a path cut in two, and where it stands in between
  pub record Cut (p : S) (x y : Word) (q : S) : Type 0 where
    pub middle : S
    pub left : Path M p x middle
    pub right : Path M middle y q

  -- every path that reads x and then y
  unfoldable pub cut : (x : Word) {y : Word} {p q : S} → Path M p (x ++ y) q → Cut p x y q
  cut [] {p = p} s = record { middle = p; left = stop; right = s }
  cut (a ∷ x) (step h s) = let c = cut x s in record { middle = c.middle; left = step h c.left; right = c.right }

  -- a path with a home state among its states
  pub record HomePath (p : S) (w : Word) (q : S) : Type 0 where
    pub path : Path M p w q
    pub home : homed M path ≡ true

  -- a path whose first state is home has one
  pub first_home : {p q : S} {w : Word} → M.home p ≡ true → (s : Path M p w q) → homed M s ≡ true
  unfolding homed
  first_home h stop = h
  first_home h (step e s) = or_left (homed M s) h

  -- so has one whose last state is home
  pub last_home : {p q : S} {w : Word} → M.home q ≡ true → (s : Path M p w q) → homed M s ≡ true
  unfolding homed
  last_home h stop = h
  last_home {p = p} h (step e s) = or_right (M.home p) (last_home h s)

  -- a path with one, and any path behind it
  pub home_then : {p q r : S} {x y : Word} → HomePath p x q → Path M q y r → HomePath p (x ++ y) r
  unfolding homed then
  home_then {q = q} s t = record { path = then s.path t; home = go s.path s.home }
    where
      go : {p : S} {x : Word} (s : Path M p x q) → homed M s ≡ true → homed M (then s t) ≡ true
      go stop h = first_home h t
      go (step {p = p} e s) h =
          ⊎_elim (or_left (homed M (then s t))) (λ l. or_right (M.home p) (go s l)) (or_cases (M.home p) (homed M s) h)

  -- any path, and one with a home state behind it
  pub then_home : {p q r : S} {x y : Word} → Path M p x q → HomePath q y r → HomePath p (x ++ y) r
  unfolding homed then
  then_home {q = q} s t = record { path = then s t.path; home = go s }
    where
      go : {p : S} {x : Word} (s : Path M p x q) → homed M (then s t.path) ≡ true
      go stop = t.home
      go (step {p = p} e s) = or_right (M.home p) (go s)

  -- a path with a home state, cut there
  pub record AtHome (p : S) (w : Word) (q : S) : Type 0 where
    pub x : Word
    pub y : Word
    pub whole : x ++ y ≡ w
    pub middle : S
    pub is_home : M.home middle ≡ true
    pub left : Path M p x middle
    pub right : Path M middle y q

  -- cut behind an arrow more
  home_behind : {p r q : S} {a : ℕ} {w : Word} → M.arrow p a r ≡ true → AtHome r w q → AtHome p (a ∷ w) q
  home_behind {a = a} e c =
      record {
        x = a ∷ c.x;
        y = c.y;
        whole = ap (λ z. a ∷ z) c.whole;
        middle = c.middle;
        is_home = c.is_home;
        left = step e c.left;
        right = c.right;
      }

  -- every path with a home state can be cut so
  pub at_home : {p q : S} {w : Word} (s : Path M p w q) → homed M s ≡ true → AtHome p w q
  unfolding homed
  at_home (stop {p = p}) h = record { x = []; y = []; whole = refl; middle = p; is_home = h; left = stop; right = stop }
  at_home (step {p = p} {a = a} {w = w} e s) h =
      ⊎_elim
      (λ f. record { x = []; y = a ∷ w; whole = refl; middle = p; is_home = f; left = stop; right = step e s })
      (λ l. home_behind e (at_home s l))
      (or_cases (M.home p) (homed M s) h)
