-- Lists of checks, one behind the other: a list of which none applies leaves the decision to what follows, and the first list of which one
-- applies decides. Where they come to number 0 none applies, since no check has that number.
use Prim.Native.Nat.{ℕ, zero, suc, ◌+◌, ◌<◌}
use native.Mathlib.Omega.{arith}
use native.Mathlib.Nat.{add-zero, zero-add, suc-add, add-suc}
use mathlib.Core.Path.{◌≡◌, refl, sym, ap, ap₂, ◌∙◌, subst}
use mathlib.Core.Bool.{Bool, true, false, not}
use mathlib.Core.Logic.{⊎_elim}
use mathlib.Core.List.{List, [], ◌∷◌, ◌++◌, append_assoc, append-nil}
use lib.Dec.{ltb, eqb}
use borrow.Author.Tests.{not-false, ltb-true}
use Rattle.laws.specs.Bits.{some_of, every_of, counted, gather, each_below}
use Rattle.laws.specs.Refusals.{Check, first_of, Passed, Stopped, fault}
use Rattle.laws.proofs.Booleans.{less, either, both, and_left, and_right}

-- what is listed for each number below k + 1 is what is listed for each below k, and then for k
pub each_further : {A : Type 0} (k : ℕ) (f : ℕ → List A) → each_below (suc k) f ≡ each_below k f ++ f k
unfolding each_below gather counted
each_further k f = go 0 k ∙ rw zero-add
  where
    go : (i d : ℕ) → gather (λ _ a. f a) i (counted i (suc d)) ≡ gather (λ _ a. f a) i (counted i d) ++ f (i + d)
    go i zero = append-nil (f i) ∙ rw add-zero
    go i (suc d) =
        ap (λ rest. f i ++ rest) (go (suc i) d)
        ∙ sym (append_assoc (f i) (gather (λ _ a. f a) (suc i) (counted (suc i) d)) (f (suc i + d)))
        ∙ rw (suc-add, add-suc)

-- and lists that agree below k are listed alike
pub each_same : {A : Type 0} (k : ℕ) (f g : ℕ → List A) → ((a : ℕ) → a < k → f a ≡ g a) → each_below k f ≡ each_below k g
unfolding each_below gather counted
each_same zero f g h = refl
each_same (suc k) f g h =
    each_further k f ∙ ap₂ ◌++◌ (each_same k f g (λ a l. h a (omega arith))) (h k (omega arith)) ∙ sym (each_further k g)

passed_none : Passed []
passed_none rest = refl

-- a single check by its test
module _ (number offset : ℕ) {applies : Bool} where
  pub passed_check : applies ≡ false → Passed (fault number offset applies ∷ [])
  unfolding first_of fault
  passed_check e rest = rw e

  pub stopped_check : applies ≡ true → Stopped (fault number offset applies ∷ []) number offset
  unfolding first_of fault
  stopped_check e rest = rw e

module _ (xs ys : List Check) where
  -- two lists of which none applies
  passed_both : Passed xs → Passed ys → Passed (xs ++ ys)
  passed_both p q rest = ap first_of (append_assoc xs ys rest) ∙ p (ys ++ rest) ∙ q rest

  -- the first of them passed, the second decides
  stopped_behind : {number offset : ℕ} → Passed xs → Stopped ys number offset → Stopped (xs ++ ys) number offset
  stopped_behind p s rest = ap first_of (append_assoc xs ys rest) ∙ p (ys ++ rest) ∙ s rest

  -- and behind the one that decides none is asked
  stopped_before : {number offset : ℕ} → Stopped xs number offset → Stopped (xs ++ ys) number offset
  stopped_before s rest = ap first_of (append_assoc xs ys rest) ∙ s (ys ++ rest)

-- what a whole list comes to
pub all_passed : (checks : List Check) → Passed checks → first_of checks ≡ record { number = 0; offset = 0 }
unfolding first_of
all_passed checks p = ap first_of (sym (append-nil checks)) ∙ p []

pub first_stops : {number offset : ℕ} (checks : List Check) → Stopped checks number offset
    → first_of checks ≡ record { number = number; offset = offset }
first_stops checks s = ap first_of (sym (append-nil checks)) ∙ s []

-- of two lists of checks the first decides, if it comes to a number
pub first_decides : (xs ys : List Check) → ((first_of xs).number ≡ 0 → ⊥) → first_of (xs ++ ys) ≡ first_of xs
unfolding first_of fault
first_decides [] ys h = absurd (h refl)
first_decides (x ∷ xs) ys h =
    ⊎_elim
    (λ e. let stops = stopped_check x.number x.offset e in stops (xs ++ ys) ∙ sym (stops xs))
    (λ e.
    let passes = passed_check x.number x.offset e in
    passes (xs ++ ys) ∙ first_decides xs ys (λ z. h (ap (λ f. f.number) (passes xs) ∙ z)) ∙ sym (passes xs))
    (either x.applies)

-- and else the second, where the first has no check with number 0
pub second_decides : (xs ys : List Check) → every_of (λ c. ltb 0 c.number) xs ≡ true → (first_of xs).number ≡ 0
    → first_of (xs ++ ys) ≡ first_of ys
unfolding every_of fault
second_decides [] ys h z = refl
second_decides (x ∷ xs) ys h z =
    let number : ℕ = x.number in
    ⊎_elim
    (λ e.
    let none : number ≡ 0 = ap (λ f. f.number) (sym (stopped_check number x.offset e xs)) ∙ z in
    absurd (omega (arith, ltb-true 0 number (and_left (ltb 0 number) _ h))))
    (λ e.
    let passes = passed_check number x.offset e in
    passes (xs ++ ys) ∙ second_decides xs ys (and_right (ltb 0 number) _ h) (ap (λ f. f.number) (sym (passes xs)) ∙ z))
    (either x.applies)

-- what holds of 0 and of the number of every check of a list holds of the number that they come to
module _ (f : ℕ → Bool) where
  abbrev Has : List Check → Type 0
  Has checks = every_of (λ c. f c.number) checks ≡ true

  pub first_number : f 0 ≡ true → (checks : List Check) → Has checks → f (first_of checks).number ≡ true
  unfolding first_of every_of
  first_number z [] h = z
  first_number z (c ∷ cs) h =
      let own = and_left (f c.number) _ h in
      ⊎_elim (λ e. rw e own) (λ e. rw e (first_number z cs (and_right (f c.number) _ h))) (either c.applies)

  -- lists of such checks one behind the other are such a list
  pub has_both : (xs ys : List Check) → Has xs → Has ys → Has (xs ++ ys)
  unfolding every_of
  has_both [] ys h g = g
  has_both (x ∷ xs) ys h g = both (and_left (f x.number) _ h) (has_both xs ys (and_right (f x.number) _ h) g)

  pub has_each : (k : ℕ) (checks : ℕ → List Check) → ((a : ℕ) → Has (checks a)) → Has (each_below k checks)
  unfolding every_of each_below gather counted
  has_each zero checks h = refl
  has_each (suc k) checks h =
      subst Has (sym (each_further k checks)) (has_both (each_below k checks) (checks k) (has_each k checks h) (h k))

-- n is one of the listed numbers
abbrev pub OneOf : List ℕ → ℕ → Type 0
OneOf numbers n = some_of (eqb n) numbers ≡ true

-- where the list and what follows come to number 0, none of the list applies, as P says, and what follows comes to number 0
abbrev pub Shows : List Check → Type 0 → Type 0
Shows checks P = (rest : List Check) → (first_of (checks ++ rest)).number ≡ 0 → P × ((first_of rest).number ≡ 0)

pub shows_check : (number offset : ℕ) (applies : Bool) → Shows (fault (suc number) offset applies ∷ []) (applies ≡ false)
unfolding first_of fault
shows_check number offset true rest h = absurd (omega arith)
shows_check number offset false rest h = (refl, h)

shows_both : {P Q : Type 0} (xs ys : List Check) → Shows xs P → Shows ys Q → Shows (xs ++ ys) (P × Q)
shows_both xs ys s t rest h =
    let (p, h₁) = s (ys ++ rest) (rw append_assoc at h) in
    let (q, h₂) = t rest h₁ in
    ((p, q), h₂)

-- what is shown of a list is so where it comes to number 0
pub shown : {P : Type 0} (checks : List Check) → Shows checks P → (first_of checks).number ≡ 0 → P
shown checks s h = (s [] (rw append-nil h)).0

-- and where none of it applies
pub passed_shown : {P : Type 0} (checks : List Check) → Shows checks P → Passed checks → P
passed_shown checks s p = shown checks s (ap (λ f. f.number) (all_passed checks p))

module _ (f : ℕ → List Check) where
  -- the checks of each number below k: none applies, or the first that does is of a, or what they show
  pub passed_each : (k : ℕ) → ((a : ℕ) → a < k → Passed (f a)) → Passed (each_below k f)
  unfolding each_below gather counted
  passed_each zero h = passed_none
  passed_each (suc k) h =
      subst Passed (sym (each_further k f))
      (passed_both (each_below k f) (f k) (passed_each k (λ a l. h a (omega arith))) (h k (omega arith)))

  pub stopped_each : {number offset : ℕ} (k a : ℕ) → a < k → ((b : ℕ) → b < a → Passed (f b)) → Stopped (f a) number offset
      → Stopped (each_below k f) number offset
  stopped_each zero a l before s = absurd (omega arith)
  stopped_each {number} {offset} (suc k) a l before s =
      subst (λ checks. Stopped checks number offset) (sym (each_further k f))
      (⊎_elim
      (λ m. stopped_before (each_below k f) (f k) (stopped_each k a m before s))
      (λ e. stopped_behind (each_below k f) (f k) (passed_each k (rw e at before)) (rw e at s))
      (less a k l))

  pub shows_each : (k : ℕ) (P : ℕ → Type 0) → ((a : ℕ) → a < k → Shows (f a) (P a)) → Shows (each_below k f) ((a : ℕ) → a < k → P a)
  unfolding each_below gather counted
  shows_each zero P h rest e = ((λ a l. absurd (omega arith)), e)
  shows_each (suc k) P h rest e =
      let step : Shows (each_below k f ++ f k) (((a : ℕ) → a < k → P a) × P k) =
      shows_both (each_below k f) (f k) (shows_each k P (λ a l. h a (omega arith))) (h k (omega arith)) in
      let ((below, at_k), r) = step rest (rw each_further at e) in
      ((λ a l. ⊎_elim (below a) (λ s. subst P (sym s) at_k) (less a k l)), r)

-- the checks of a field: its form, with number 8, comes before its values
module _ (o number offset : ℕ) (form wrong : Bool) where
  abbrev field_checks : List Check
  field_checks = fault 8 o (not form) ∷ fault number offset wrong ∷ []

  pub passed_field : form ≡ true → wrong ≡ false → Passed field_checks
  passed_field e f =
      passed_both (fault 8 o (not form) ∷ []) (fault number offset wrong ∷ []) (passed_check 8 o (rw e)) (passed_check number offset f)

  pub stopped_form : form ≡ false → Stopped field_checks 8 o
  stopped_form e = stopped_before (fault 8 o (not form) ∷ []) (fault number offset wrong ∷ []) (stopped_check 8 o (rw e))

  pub stopped_value : form ≡ true → wrong ≡ true → Stopped field_checks number offset
  stopped_value e f =
      stopped_behind (fault 8 o (not form) ∷ []) (fault number offset wrong ∷ []) (passed_check 8 o (rw e)) (stopped_check number offset f)

pub shows_field : (o number offset : ℕ) (form wrong : Bool)
    → Shows (field_checks o (suc number) offset form wrong) ((form ≡ true) × (wrong ≡ false))
shows_field o number offset form wrong rest h =
    let ((e, f), r) = shows_both (fault 8 o (not form) ∷ []) (fault (suc number) offset wrong ∷ [])
    (shows_check 7 o (not form)) (shows_check number offset wrong) rest h in
    ((not-false form e, f), r)
