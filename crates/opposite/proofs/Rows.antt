-- A loop through the profiles in two slices: what is left from number j on is profile number j and what is left from the next on.
use Prim.Native.Nat.{ℕ, zero, suc, ◌+◌, ◌-◌, ◌*◌, ◌≤◌, ◌<◌}
use native.Mathlib.Omega.{arith}
use native.Mathlib.Nat.{suc-mul}
use native.Mathlib.Numerals.{add-one}
use mathlib.Core.Path.{◌≡◌, refl, sym, ap, ◌∙◌}
use mathlib.Core.Bool.{Bool, true, false, cond, ◌&&◌}
use mathlib.Core.List.{List, [], ◌∷◌, ◌++◌}
use lib.ListN.{length, get_or, drop, length-append}
use denote.Ref.{Bor}
use Rattle.std.proofs.Math.Nat.{min-eq_left}
use Rattle.std.specs.declared.iter.Zip.{Zip}
use Rattle.std.specs.declared.slice.Iter.{Iter}
use Rattle.std.proofs.iter.Yields.{fronts}
use Rattle.std.specs.Iterator.{Yields}
use Rattle.std.specs.Iterator.Adapters.{zip_first, zip_second}
use Rattle.std.specs.Slice.Iter.{iter_rest}
use Rattle.std.proofs.lemmas.Iterator.{zips}
use Rattle.std.proofs.lemmas.Slice.Zip.{zip_turn, zip_end}
use lib.Seq.{drop-cons, drop-nil}
use borrow.Author.Tests.{ne_eqb}
use Rattle.std.specs.Option.{unwrap_or}
use Rattle.std.specs.Prelude.{Option, Some, None, MatchOption}
use Rattle.std.proofs.Common.{⊎_elim}
use Rattle.std.proofs.lemmas.Bool.{cases_lt}
use Rattle.laws.specs.Bits.{place_of, every_of}
use Rattle.laws.specs.Profiles.{Profile, same_profile}
use Rattle.laws.proofs.Booleans.{and_left, and_right, never}
use Rattle.laws.proofs.Sorted.{place_in}
use Rattle.profile.specs.declared.Profile as declared
use Rattle.profile.specs.Values.{profile}
use Rattle.opposite.specs.Tables.{profiles_at, keep_by, is_idempotent}
use Rattle.opposite.specs.Lent.{profiles_of, shown_from}
use Rattle.opposite.specs.Lines.{IsNext}
use Rattle.opposite.specs.declared.tables.Profiles.{Profiles}
use Rattle.opposite.specs.declared.arrows.Shown.{Shown}

-- element number i, and what is left behind it
pub next_left : {A : Type 0} (xs : List A) (i : ℕ) (d : A) → i < length xs → drop i xs ≡ get_or xs i d ∷ drop (i + 1) xs
next_left xs i d h = rw add-one (drop-cons xs i d h)

-- at the end nothing is left
pub none_left : {A : Type 0} (xs : List A) (i : ℕ) → length xs ≤ i → drop i xs ≡ []
none_left [] i h = drop-nil i
none_left (x ∷ xs) zero h = absurd (omega arith)
none_left (x ∷ xs) (suc i) h = none_left xs i (omega arith)

-- profile number i of the two slices
abbrev pub profile_at : List ℕ → List ℕ → ℕ → Profile
profile_at arrows marks i = record { arrows = get_or arrows i 0; marks = get_or marks i 0 }

-- as many profiles as there are arrows
pub profiles_length : (arrows marks : List ℕ) → length marks ≡ length arrows → length (profiles_at arrows marks) ≡ length arrows
unfolding profiles_at
profiles_length [] marks h = refl
profiles_length (a ∷ arrows) [] h = absurd (omega arith)
profiles_length (a ∷ arrows) (m ∷ marks) h = ap suc (profiles_length arrows marks (omega arith))

-- the place of a profile is at most the number of profiles
pub profile_within : (arrows marks : List ℕ) → length marks ≡ length arrows → (x : Profile) {e : ℕ}
    → e ≡ place_of (same_profile x) (profiles_at arrows marks) → e ≤ length arrows
profile_within arrows marks same x at =
    omega (arith, at, place_in (same_profile x) (profiles_at arrows marks), profiles_length arrows marks same)

-- the first number at which a test holds of the profile, or else how many there are, is its place
module _ (f : Profile → Bool) where
  abbrev pub First : List ℕ → List ℕ → ℕ → Option ℕ → Type 0
  First arrows marks n r =
      MatchOption r ((k : ℕ) → 0 ≤ k → k < n → f (profile_at arrows marks k) ≡ false)
      (λ i. (0 ≤ i) × (i < n) × (f (profile_at arrows marks i) ≡ true) × ((k : ℕ) → 0 ≤ k → k < i → f (profile_at arrows marks k) ≡ false))

  pub first_place : (arrows marks : List ℕ) → length marks ≡ length arrows → {n : ℕ} → n ≡ length arrows → (r : Option ℕ)
      → First arrows marks n r → unwrap_or r n ≡ place_of f (profiles_at arrows marks)
  unfolding place_of profiles_at
  first_place [] marks h long None found = long
  first_place [] marks h long (Some i) found = absurd (omega (arith, found.1))
  first_place (a ∷ arrows) [] h long r found = absurd (omega arith)
  first_place (a ∷ arrows) (m ∷ marks) h {n} long r found =
      go (f (record { arrows = a; marks = m })) refl r found (first_place arrows marks (omega arith) refl)
    where
      go : (b : Bool) → f (record { arrows = a; marks = m }) ≡ b → (r : Option ℕ) → First (a ∷ arrows) (m ∷ marks) n r
          → ((r : Option ℕ) → First arrows marks (length arrows) r → unwrap_or r (length arrows) ≡ place_of f (profiles_at arrows marks))
          → unwrap_or r n ≡ cond b 0 (suc (place_of f (profiles_at arrows marks)))
      go true is None none further = never (sym (none 0 (omega arith) (omega arith)) ∙ is)
      go true is (Some zero) found further = refl
      go true is (Some (suc i)) found further = never (sym (found.3 0 (omega arith) (omega arith)) ∙ is)
      go false is None none further = long ∙ ap suc (further None (λ k l u. none (suc k) (omega arith) (omega arith)))
      go false is (Some zero) found further = never (sym is ∙ found.2)
      go false is (Some (suc i)) found further =
          ap suc (further (Some i) (omega arith, omega (arith, found.1), found.2, λ k l u. found.3 (suc k) (omega arith) (omega arith)))

-- profile number j, and what is left behind it
pub next_profile_is : (arrows marks : List ℕ) (j : ℕ) → length marks ≡ length arrows → j < length arrows
    → drop j (profiles_at arrows marks) ≡ profile_at arrows marks j ∷ drop (j + 1) (profiles_at arrows marks)
unfolding profiles_at
next_profile_is arrows marks j h l = rw add-one (go arrows marks j h l)
  where
    go : (arrows marks : List ℕ) (j : ℕ) → length marks ≡ length arrows → j < length arrows
        → drop j (profiles_at arrows marks) ≡ profile_at arrows marks j ∷ drop (suc j) (profiles_at arrows marks)
    go [] marks j h l = absurd (omega arith)
    go (a ∷ arrows) [] j h l = absurd (omega arith)
    go (a ∷ arrows) (m ∷ marks) zero h l = refl
    go (a ∷ arrows) (m ∷ marks) (suc j) h l = go arrows marks j (omega arith) (omega arith)

pub no_profile : (arrows marks : List ℕ) (j : ℕ) → length marks ≡ length arrows → length arrows ≤ j → drop j (profiles_at arrows marks) ≡ []
no_profile arrows marks j h l = none_left (profiles_at arrows marks) j (omega (arith, profiles_length arrows marks h))

-- in the code's table: the profile that it has at number j, and what is left behind it
pub next_at : (ps : Profiles) (j : ℕ) {n : ℕ} → n ≡ length ps.arrows.now → j < n → {x : declared.Profile}
    → x ≡ record { arrows = get_or ps.arrows.now j 0; marks = get_or ps.marks.now j 0 }
    → drop j (profiles_of ps) ≡ profile x ∷ drop (j + 1) (profiles_of ps)
next_at ps j long here is = rw is (next_profile_is ps.arrows.now ps.marks.now j ps.alike (omega arith))

-- and at the end nothing
pub none_at : (ps : Profiles) (j : ℕ) {n : ℕ} → n ≡ length ps.arrows.now → n ≤ j → drop j (profiles_of ps) ≡ []
none_at ps j long end = no_profile ps.arrows.now ps.marks.now j ps.alike (omega arith)

-- A LOOP OVER BOTH SLICES AT ONCE, which has yielded xs
module _ (ps : Profiles) (xs : List (Bor ℕ × Bor ℕ)) (s t u : Zip (Iter ℕ) (Iter ℕ)) (r : Option (Bor ℕ × Bor ℕ))
    (first : iter_rest (zip_first s) ≡ ps.arrows.now) (second : iter_rest (zip_second s) ≡ ps.marks.now)
    (so : Yields (zips fronts fronts) s xs t) (step : zips fronts fronts t r u) where
  -- the next pair is the next profile, and what is left is behind it
  pub next_pair : (p : Bor ℕ × Bor ℕ) → r ≡ Some p
      → drop (length xs) (profiles_of ps)
      ≡ profile (record { arrows = p.0.now; marks = p.1.now }) ∷ drop (length (xs ++ (p ∷ []))) (profiles_of ps)
  next_pair p is =
      let turn = zip_turn ps.arrows.now ps.marks.now xs s t u r first second so p is step in
      let more : length (xs ++ (p ∷ [])) ≡ length xs + 1 = length-append xs (p ∷ []) in
      rw (more, turn.2 0, turn.3 0) (next_profile_is ps.arrows.now ps.marks.now (length xs) ps.alike turn.0)

  -- and at the end nothing is left
  pub no_pair : r ≡ None → drop (length xs) (profiles_of ps) ≡ []
  no_pair is =
      let end = zip_end ps.arrows.now ps.marks.now xs s t u r first second so is step in
      no_profile ps.arrows.now ps.marks.now (length xs) ps.alike (let same : length ps.arrows.now ≤ length ps.marks.now = omega (arith, ps.alike) in omega (arith, end, min-eq_left same))

-- of the profiles beside which there is a 1, those that are left from number j on
abbrev pub kept_from : List ℕ → List Profile → ℕ → List Profile
kept_from shown ts j = keep_by (drop j shown) (drop j ts)

module _ (shown arrows marks : List ℕ) (same : length marks ≡ length arrows) (within : length shown ≤ length arrows) where
  abbrev left : ℕ → List Profile
  left = kept_from shown (profiles_at arrows marks)

  -- with a 1 beside it, profile number j is the first of them
  next_kept : (j : ℕ) → j < length shown → get_or shown j 0 ≡ 1 → left j ≡ profile_at arrows marks j ∷ left (j + 1)
  unfolding keep_by
  next_kept j here e = rw (next_left shown j 0 here, next_profile_is arrows marks j same (omega arith), e)

  -- and without it is not among them
  next_passed : (j : ℕ) → j < length shown → (get_or shown j 0 ≡ 1 → ⊥) → left j ≡ left (j + 1)
  unfolding keep_by
  next_passed j here n =
      rw (next_left shown j 0 here, next_profile_is arrows marks j same (omega arith), ne_eqb (get_or shown j 0) 1 n)

  -- so n profiles without a 1 are passed
  passed_on : (i n : ℕ) → i + n ≤ length shown → ((k : ℕ) → i ≤ k → k < i + n → get_or shown k 0 ≡ 1 → ⊥) → left i ≡ left (i + n)
  passed_on i zero h none = ap left (omega arith)
  passed_on i (suc n) h none =
      passed_on i n (omega arith) (λ k low high. none k low (omega arith))
      ∙ next_passed (i + n) (omega arith) (none (i + n) (omega arith) (omega arith))
      ∙ ap left (omega arith)

  -- at the end none is left
  at_end : (j : ℕ) → length shown ≤ j → left j ≡ []
  unfolding keep_by
  at_end j h = rw (none_left shown j h)

  module _ {i : ℕ} where
    -- behind those without a 1 the first with one is the first of those left
    pub first_kept : (j : ℕ) → i ≤ j → j < length shown → get_or shown j 0 ≡ 1
        → ((k : ℕ) → i ≤ k → k < j → get_or shown k 0 ≡ 1 → ⊥) → left i ≡ profile_at arrows marks j ∷ left (j + 1)
    first_kept j low here e none =
        let at : i + (j - i) ≡ j = omega arith in
        passed_on i (j - i) (omega arith) (λ k l h. none k l (omega arith)) ∙ ap left at ∙ next_kept j here e

    -- and where there is none with a 1, none is left
    pub none_kept : ((k : ℕ) → i ≤ k → k < length shown → get_or shown k 0 ≡ 1 → ⊥) → left i ≡ []
    none_kept none =
        ⊎_elim
        (λ h.
        let at : i + (length shown - i) ≡ length shown = omega arith in
        passed_on i (length shown - i) (omega arith) (λ k l h. none k l (omega arith)) ∙ ap left at ∙ at_end (length shown) (omega arith))
        (at_end i) (cases_lt i (length shown))

-- where the blocks of profiles fit, that of the first does, and so do those behind it
pub next_fits : {xs rest : List Profile} {x : Profile} (size gate : ℕ) → xs ≡ x ∷ rest → gate + length xs * size ≤ 65535
    → gate + size + length rest * size ≤ 65535
next_fits {rest = rest} size gate e fits =
    omega (arith, fits, ap (λ (bs : List Profile). length bs * size) e, suc-mul (length rest) size)

-- and where each is its own square, the first is, and so are the others
pub next_squares : {xs rest : List Profile} {x : Profile} → xs ≡ x ∷ rest → every_of (is_idempotent 8) xs ≡ true
    → (is_idempotent 8 x ≡ true) × (every_of (is_idempotent 8) rest ≡ true)
unfolding every_of
next_squares {rest = rest} {x = x} e all =
    let both : is_idempotent 8 x && every_of (is_idempotent 8) rest ≡ true = ap (every_of (is_idempotent 8)) (sym e) ∙ all in (
      and_left (is_idempotent 8 x) (every_of (is_idempotent 8) rest) both,
      and_right (is_idempotent 8 x) (every_of (is_idempotent 8) rest) both,
    )

-- so the first number at which a 1 stands is that of the first profile that is left, and where none stands none is
pub next_is : (s : Shown) (i : ℕ) {n : ℕ} → n ≡ length s.bytes.now → (r : Option ℕ)
    → MatchOption r ((k : ℕ) → i ≤ k → k < n → get_or s.bytes.now k 0 ≡ 1 → ⊥)
    (λ j. (i ≤ j) × (j < n) × (get_or s.bytes.now j 0 ≡ 1) × ((k : ℕ) → i ≤ k → k < j → get_or s.bytes.now k 0 ≡ 1 → ⊥))
    → MatchOption r (shown_from s.tables.now s.bytes.now i ≡ []) (IsNext s i)
next_is s i long None f =
    let ps = s.tables.now.profiles in
    none_kept s.bytes.now ps.arrows.now ps.marks.now ps.alike s.few (λ k low high. f k low (omega arith))
next_is s i long (Some j) f =
    let ps = s.tables.now.profiles in
    let here : j < length s.bytes.now = omega (arith, f.1) in
    record { within = here; first = first_kept s.bytes.now ps.arrows.now ps.marks.now ps.alike s.few j f.0 here f.2 f.3 }
