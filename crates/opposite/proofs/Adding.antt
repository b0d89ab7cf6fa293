-- Counts added up one element after the other: what was added and what is left to add are together the whole.
use Prim.Native.Nat.{ℕ, zero, suc, ◌+◌, ◌*◌, ◌≤◌, ◌<◌}
use native.Mathlib.Omega.{arith}
use native.Mathlib.Nat.{suc-mul}
use mathlib.Core.Path.{◌≡◌, refl, sym, ◌∙◌}
use mathlib.Core.Bool.{Bool, true, false, not, ◌&&◌, ◌||◌, cond}
use mathlib.Core.Logic.{◌⊎◌, inl, ⊎_elim}
use mathlib.Core.Option.{Option, none, some}
use mathlib.Core.List.{List, [], ◌∷◌}
use lib.ListN.{length, drop}
use lib.Dec.{eqb, ltb}
use borrow.Author.Tests.{lt-ltb}
use Rattle.std.specs.List.{count_by}
use Rattle.std.proofs.lemmas.List.Recursion.{is_count_by}
use Rattle.laws.specs.Bits.{counted, some_of, total, count}
use Rattle.laws.specs.Model.{Machine}
use Rattle.laws.specs.Profiles.{Profile, same_profile, leads_to, image, is_fitting, marks_a_round, is_rejecting_pair, next_profile}
use Rattle.laws.specs.Opposite.{has_block, rejects_non_empty, second_count}
use Rattle.laws.proofs.Booleans.{never}
use Rattle.laws.proofs.Members.{length_counted}
use Rattle.profile.specs.Values.{plain}
use Rattle.opposite.specs.Tables.{remains_unmarked, is_idempotent}

-- a test beside one that holds, and beside one that does not
beside_true : (a b c : Bool) → (a && ((b && true) && c)) ≡ (a && (b && c))
beside_true false b c = refl
beside_true true false c = refl
beside_true true true c = refl

beside_false : (a b c : Bool) → (a && ((b && false) && c)) ≡ false
beside_false false b c = refl
beside_false true false c = refl
beside_false true true c = refl

module _ (W P : ℕ) (t : Profile) where
  -- a profile that joined with itself is itself rejects with the sets other than the empty one that stay unmarked
  pub rejects_idempotent : is_idempotent W t ≡ true → rejects_non_empty W P t ≡ remains_unmarked W P t
  unfolding is_idempotent rejects_non_empty is_rejecting_pair is_fitting remains_unmarked
  rejects_idempotent e = rw e (beside_true (not (eqb P 0)) (eqb (image W P t) P) (not (marks_a_round W P t)))

  -- and any other rejects with none
  pub rejects_other : is_idempotent W t ≡ false → rejects_non_empty W P t ≡ false
  unfolding is_idempotent rejects_non_empty is_rejecting_pair is_fitting
  rejects_other e = rw e (beside_false (not (eqb P 0)) (eqb (image W P t) P) (not (marks_a_round W P t)))

-- the arrows of t alone lead the set where t does
pub unmarked_by_arrows : (P : ℕ) (t : Profile)
    → remains_unmarked 8 P t ≡ (not (eqb P 0) && (eqb (image 8 P (plain t.arrows)) P && not (marks_a_round 8 P t)))
unfolding remains_unmarked image leads_to
unmarked_by_arrows P t = refl

-- how a test counts
abbrev one : {A : Type 0} → (A → Bool) → A → ℕ
one f x = cond (f x) 1 0

module _ {A : Type 0} where
  -- what document 01 counts is what std counts, by a test that holds of the same
  pub count_same : (f g : A → Bool) → ((x : A) → f x ≡ g x) → (xs : List A) → count f xs ≡ count_by g xs
  unfolding count total
  count_same f g same xs =
      is_count_by (count f) g refl (λ x xs. rw same (go (g x) (count f xs))) xs
    where
      go : (b : Bool) (n : ℕ) → cond b 1 0 + n ≡ cond b (1 + n) n
      go true n = refl
      go false n = omega arith

  -- a test that holds of nothing is counted 0
  pub count_none : (f : A → Bool) (xs : List A) → ((x : A) → f x ≡ false) → 0 ≡ count f xs
  unfolding count total
  count_none f [] h = refl
  count_none f (x ∷ xs) h = rw (h x) (omega (arith, count_none f xs h))

  -- numbers at most n add up to at most n for each
  pub total_most : (n : ℕ) (g : A → ℕ) (xs : List A) → ((x : A) → g x ≤ n) → total g xs ≤ length xs * n
  unfolding total
  total_most n g [] h = omega arith
  total_most n g (x ∷ xs) h = omega (arith, h x, total_most n g xs h, suc-mul (length xs) n)

-- a test counts at most 1
one_most : (b : Bool) → cond b 1 0 ≤ 1
one_most true = omega arith
one_most false = omega arith

-- no more are counted than there are
pub count_most : {A : Type 0} (f : A → Bool) (xs : List A) → count f xs ≤ length xs
unfolding count
count_most f xs = omega (arith, total_most 1 (one f) xs (λ x. one_most (f x)))

-- SO FAR is added, g of each of xs from number i on is left to add, and together they are the whole
pub record Adding {A : Type 0} (g : A → ℕ) (xs : List A) (whole sofar i : ℕ) : Type 0 where
  pub left : sofar + total g (drop i xs) ≡ whole

module _ {A : Type 0} (g : A → ℕ) (xs : List A) where
  -- at first all are left
  pub add_begins : {whole base : ℕ} → whole ≡ base + total g xs → Adding g xs whole base 0
  add_begins e = record { left = sym e }

  module _ {whole sofar i : ℕ} (so : Adding g xs whole sofar i) where
    -- the next one, x, is added
    pub add_next : (x : A) {j : ℕ} → drop i xs ≡ x ∷ drop j xs → {n : ℕ} → n ≡ sofar + g x → Adding g xs whole n j
    unfolding total
    add_next x next e = record { left = omega (arith, e, rw next at so.left) }

    -- at the end all are added
    pub add_ends : drop i xs ≡ [] → sofar ≡ whole
    unfolding total
    add_ends end = omega (arith, rw end at so.left)

-- SO FAR are counted of xs, and those from number i on are left to count
pub record Counting {A : Type 0} (f : A → Bool) (xs : List A) (sofar i : ℕ) : Type 0 where
  pub adds : Adding (one f) xs (count f xs) sofar i

module _ {A : Type 0} (f : A → Bool) (xs : List A) where
  -- at first all are left
  pub count_begins : Counting f xs 0 0
  unfolding count
  count_begins = record { adds = add_begins (one f) xs (omega arith) }

  module _ {sofar i : ℕ} (so : Counting f xs sofar i) where
    -- the next one, x, is counted if f holds of it
    pub count_next : (x : A) {j : ℕ} → drop i xs ≡ x ∷ drop j xs → {b : Bool} → b ≡ f x → {n : ℕ}
        → ((b ≡ true) × (n ≡ sofar + 1)) ⊎ ((b ≡ false) × (n ≡ sofar)) → Counting f xs n j
    count_next x next e came =
        record {
          adds =
              add_next (one f) xs so.adds x next
              (⊎_elim (λ w. rw (← e, w.0) w.1) (λ w. rw (← e, w.0) (omega (arith, w.1))) came);
        }

    -- before it is counted, fewer are counted than there are
    pub count_room : (x : A) → drop i xs ≡ x ∷ drop (i + 1) xs → f x ≡ true → sofar < length xs
    count_room x next e = omega (arith, (count_next x next (sym e) (inl (refl, refl))).adds.left, count_most f xs)

    -- at the end all are counted
    pub count_ends : drop i xs ≡ [] → sofar ≡ count f xs
    count_ends end = add_ends (one f) xs so.adds end

module _ (W : ℕ) (M : Machine ℕ) (k : ℕ) (t : Profile) where
  -- on how many events what was read, of profile x, and then the event has the profile t
  abbrev returning : Option Profile → ℕ
  returning x = count (λ a. same_profile (next_profile W M x a) t) (counted 0 k)

  module _ (ts : List Profile) where
    -- the second arrows of the block of t: from its gate, where nothing was read, and from its states
    seconds_add : second_count W M k ts t ≡ returning none + total (λ x. returning (some x)) ts
    unfolding second_count next_profile
    seconds_add = refl

    -- there are at most 16 from each, and with at most 2048 states at most 32784
    pub few_seconds : k ≤ 16 → length ts ≤ 2048 → second_count W M k ts t ≤ 32784
    few_seconds l h =
        let few : (x : Option Profile) → returning x ≤ 16 = λ x.
        omega (arith, count_most (λ a. same_profile (next_profile W M x a) t) (counted 0 k), length_counted 0 k) in
        omega (arith, seconds_add, few none, total_most 16 (λ x. returning (some x)) ts (λ x. few (some x)))

    -- SO FAR are found, and those of the states from number i on are left
    abbrev pub Seconds : ℕ → ℕ → Type 0
    Seconds sofar i = Adding (λ x. returning (some x)) ts (second_count W M k ts t) sofar i

    -- those of the gate are found first
    pub seconds_begin : {found : ℕ} → found ≡ returning none → Seconds found 0
    seconds_begin e = add_begins (λ x. returning (some x)) ts (rw e seconds_add)

    -- and they are few
    pub seconds_fit : {found i : ℕ} → Seconds found i → k ≤ 16 → length ts ≤ 2048 → found ≤ 32784
    seconds_fit so l h = omega (arith, so.left, few_seconds l h)

-- WHICH PROFILES HAVE A BLOCK
module _ {A : Type 0} (f : A → Bool) where
  -- a test that is counted 0 holds of no element
  counted_none : (xs : List A) → count f xs ≡ 0 → some_of f xs ≡ false
  unfolding count total some_of
  counted_none [] e = refl
  counted_none (x ∷ xs) e = go (f x) (counted_none xs) e
    where
      go : (b : Bool) → (count f xs ≡ 0 → some_of f xs ≡ false) → cond b 1 0 + count f xs ≡ 0 → (b || some_of f xs) ≡ false
      go true r e = absurd (omega arith)
      go false r e = r (omega arith)

  -- and one that holds of none is counted 0
  pub none_counted : (xs : List A) → some_of f xs ≡ false → count f xs ≡ 0
  unfolding count total some_of
  none_counted [] e = refl
  none_counted (x ∷ xs) e = go (f x) (none_counted xs) e
    where
      go : (b : Bool) → (some_of f xs ≡ false → count f xs ≡ 0) → (b || some_of f xs) ≡ false → cond b 1 0 + count f xs ≡ 0
      go true r e = never (sym e)
      go false r e = omega (arith, r e)

module _ (W : ℕ) (Ps : List ℕ) (t : Profile) {pairs : ℕ} (counted : pairs ≡ count (λ P. rejects_non_empty W P t) Ps) where
  -- a profile has no block exactly if it rejects with 0 sets other than the empty one
  pub no_pair_no_block : pairs ≡ 0 → has_block W Ps t ≡ false
  no_pair_no_block e = counted_none (λ P. rejects_non_empty W P t) Ps (sym counted ∙ e)

  pub pair_has_block : (pairs ≡ 0 → ⊥) → has_block W Ps t ≡ true
  pair_has_block n = go (has_block W Ps t) refl
    where
      go : (b : Bool) → has_block W Ps t ≡ b → b ≡ true
      go true e = refl
      go false e = absurd (n (counted ∙ none_counted (λ P. rejects_non_empty W P t) Ps e))

  pub block_by_pairs : ltb 0 pairs ≡ has_block W Ps t
  block_by_pairs = go pairs refl
    where
      go : (n : ℕ) → pairs ≡ n → ltb 0 n ≡ has_block W Ps t
      go zero e = sym (no_pair_no_block e)
      go (suc n) e = lt-ltb 0 (suc n) (omega arith) ∙ sym (pair_has_block (λ z. omega arith))
