-- How many states, arrows and blocks the opposite has: what the profiles add one after the other is what document 01 counts.
use Prim.Native.Nat.{ℕ, ◌+◌, ◌*◌, ◌≤◌}
use native.Mathlib.Omega.{arith}
use native.Mathlib.Nat.{zero-mul, mul-zero, suc-mul, mul-add, mul_assoc, mul-le-mul_left, mul-le-mul_right, le_trans}
use mathlib.Core.Path.{◌≡◌, refl, sym, ap, ap₂, ◌∙◌}
use mathlib.Core.Bool.{Bool, true, false, cond, ◌&&◌}
use mathlib.Core.Logic.{inl, inr}
use mathlib.Core.List.{List, [], ◌∷◌}
use lib.ListN.{length, drop}
use lib.Dec.{leb}
use borrow.Author.Tests.{le-leb, leb-true}
use Rattle.std.specs.Prelude.{None}
use Rattle.std.specs.Bool.{then_some}
use Rattle.laws.specs.Bits.{some_of, keep, total, count}
use Rattle.laws.specs.Model.{Machine}
use Rattle.laws.specs.Profiles.{Profile}
use Rattle.laws.specs.Opposite.{has_block, rejects_non_empty, second_count, block_profiles, pair_count, state_count, arrow_count}
use Rattle.laws.proofs.Booleans.{both}
use Rattle.model.specs.Lent.{machine_of}
use Rattle.opposite.specs.Drawing.{Counted}
use Rattle.opposite.specs.Lent.{profiles_of}
use Rattle.opposite.specs.declared.counts.Counts.{Counts}
use Rattle.opposite.specs.declared.tables.Tables.{Tables}
use Rattle.opposite.proofs.Adding.{Adding, add_begins, add_next, add_ends, total_most, few_seconds}
use Rattle.opposite.proofs.Adding.{none_counted, no_pair_no_block, pair_has_block}
use Rattle.opposite.proofs.Adding.{Counting, count_begins, count_next, count_ends, count_most}

module _ (W : ℕ) (Ps : List ℕ) (ts : List Profile) where
  -- how many states the block of a profile adds, if it has one
  unfoldable pub block_states : Profile → ℕ
  block_states t = cond (has_block W Ps t) (length ts + 1) 0

  -- and how many arrows: k for each pair, k for the gate and for each state, and the second arrows
  unfoldable pub block_arrows : Machine ℕ → ℕ → Profile → ℕ
  block_arrows M k t =
      cond (has_block W Ps t) (k * count (λ P. rejects_non_empty W P t) Ps + (length ts + 1) * k + second_count W M k ts t) 0

module _ {A : Type 0} (f : A → Bool) where
  -- as many are kept as are counted
  kept_counted : (xs : List A) → length (keep f xs) ≡ count f xs
  unfolding keep count total
  kept_counted [] = refl
  kept_counted (x ∷ xs) = go (f x) (kept_counted xs)
    where
      go : (b : Bool) → length (keep f xs) ≡ count f xs → length (cond b (x ∷ keep f xs) (keep f xs)) ≡ cond b 1 0 + count f xs
      go true r = omega (arith, r)
      go false r = omega (arith, r)

  -- a number for each that is kept
  kept_each : (n : ℕ) (xs : List A) → total (λ x. cond (f x) n 0) xs ≡ length (keep f xs) * n
  unfolding keep total
  kept_each n [] = omega (arith, zero-mul n)
  kept_each n (x ∷ xs) = go (f x) (kept_each n xs)
    where
      go : (b : Bool) → total (λ x. cond (f x) n 0) xs ≡ length (keep f xs) * n
          → cond b n 0 + total (λ x. cond (f x) n 0) xs ≡ length (cond b (x ∷ keep f xs) (keep f xs)) * n
      go true r = omega (arith, r, suc-mul (length (keep f xs)) n)
      go false r = omega (arith, r)

  -- for each that is kept k times a number that is 0 for all others, a number, and one of its own
  kept_arrows : (k n : ℕ) (c s : A → ℕ) → ((x : A) → f x ≡ false → c x ≡ 0) → (xs : List A)
      → total (λ x. cond (f x) (k * c x + n + s x) 0) xs ≡ k * total c xs + length (keep f xs) * n + total s (keep f xs)
  unfolding keep total
  kept_arrows k n c s h [] = omega (arith, mul-zero k, zero-mul n)
  kept_arrows k n c s h (x ∷ xs) = go (f x) (h x) (kept_arrows k n c s h xs)
    where
      go : (b : Bool) → (b ≡ false → c x ≡ 0)
          → total (λ x. cond (f x) (k * c x + n + s x) 0) xs ≡ k * total c xs + length (keep f xs) * n + total s (keep f xs)
          → cond b (k * c x + n + s x) 0 + total (λ x. cond (f x) (k * c x + n + s x) 0) xs
          ≡ k * (c x + total c xs) + length (cond b (x ∷ keep f xs) (keep f xs)) * n + total s (cond b (x ∷ keep f xs) (keep f xs))
      go true z r = omega (arith, r, mul-add k (c x) (total c xs), suc-mul (length (keep f xs)) n)
      go false z r = omega (arith, r, mul-add k (c x) (total c xs), ap (λ m. k * m) (z refl), mul-zero k)

module _ {A : Type 0} where
  -- 0 for each adds up to 0, and two sums to the sum of both
  total_zero : (xs : List A) → total (λ x. 0) xs ≡ 0
  unfolding total
  total_zero [] = refl
  total_zero (x ∷ xs) = omega (arith, total_zero xs)

  total_both : (f g : A → ℕ) (xs : List A) → total (λ x. f x + g x) xs ≡ total f xs + total g xs
  unfolding total
  total_both f g [] = refl
  total_both f g (x ∷ xs) = omega (arith, total_both f g xs)

  -- row by row and column by column it is the same
  total_swap : {B : Type 0} (h : B → A → ℕ) (ys : List B) (xs : List A)
      → total (λ x. total (λ y. h y x) ys) xs ≡ total (λ y. total (h y) xs) ys
  unfolding total
  total_swap h [] xs = total_zero xs
  total_swap h (y ∷ ys) xs = total_both (h y) (λ x. total (λ y. h y x) ys) xs ∙ ap (λ n. total (h y) xs + n) (total_swap h ys xs)

module _ (W : ℕ) (Ps : List ℕ) (ts : List Profile) where
  -- THE BLOCKS are the profiles that have one
  blocks_counted : length (block_profiles W Ps ts) ≡ count (has_block W Ps) ts
  unfolding block_profiles
  blocks_counted = kept_counted (λ t. some_of (λ P. rejects_non_empty W P t) Ps) ts

  -- THE STATES are those of the sets and of the blocks
  states_add : state_count Ps ts (block_profiles W Ps ts) ≡ length Ps + total (block_states W Ps ts) ts
  unfolding state_count block_profiles block_states
  states_add = omega (arith, kept_each (λ t. some_of (λ P. rejects_non_empty W P t) Ps) (length ts + 1) ts)

  -- THE ARROWS are those of the sets to sets and those of the blocks
  arrows_add : (M : Machine ℕ) (k : ℕ)
      → arrow_count W M k Ps ts (block_profiles W Ps ts) ≡ length Ps * k + total (block_arrows W Ps ts M k) ts
  unfolding arrow_count pair_count block_profiles block_arrows count
  arrows_add M k =
      let has : Profile → Bool = λ t. some_of (λ P. rejects_non_empty W P t) Ps in
      let pairs : Profile → ℕ = λ t. count (λ P. rejects_non_empty W P t) Ps in
      let kept =
      kept_arrows has k ((length ts + 1) * k) pairs (second_count W M k ts) (λ t. none_counted (λ P. rejects_non_empty W P t) Ps) ts in
      let swapped = total_swap (λ P t. cond (rejects_non_empty W P t) 1 0) Ps ts in
      omega (arith, kept, ap (λ n. k * n) swapped, mul_assoc (length (keep has ts)) (length ts + 1) k)

module _ (W : ℕ) (M : Machine ℕ) (k : ℕ) (Ps : List ℕ) (ts : List Profile) where
  abbrev all_states : ℕ
  all_states = state_count Ps ts (block_profiles W Ps ts)

  abbrev all_lines : ℕ
  all_lines = arrow_count W M k Ps ts (block_profiles W Ps ts)

  -- HOW FAR THE SIZE IS COUNTED: so many blocks, states and arrows so far, and those of the profiles from number j on are left
  pub record Sized (c : Counts) (j : ℕ) : Type 0 where
    pub blocks_left : Counting (has_block W Ps) ts c.blocks j
    pub states_are_left : Adding (block_states W Ps ts) ts all_states c.states j
    pub lines_left : Adding (block_arrows W Ps ts M k) ts all_lines c.arrows j

  -- without an answer, it does not fit where a test of both fails
  no_fit : {state_room arrow_room : ℕ} → (leb all_states state_room && leb all_lines arrow_room) ≡ false
      → Counted W M k Ps ts state_room arrow_room None
  no_fit f = record { fits = sym f; sizes = tt }

  -- at first there are the sets, and from each an arrow on every event
  pub size_begins : Sized (record { blocks = 0; states = length Ps; arrows = length Ps * k }) 0
  size_begins =
      record {
        blocks_left = count_begins (has_block W Ps) ts;
        states_are_left = add_begins (block_states W Ps ts) ts (states_add W Ps ts);
        lines_left = add_begins (block_arrows W Ps ts M k) ts (arrows_add W Ps ts M k);
      }

  module _ {c : Counts} {j : ℕ} (so : Sized c j) where
    -- t is next, and rejects with so many sets other than the empty one
    module _ (t : Profile) {i : ℕ} (next : drop j ts ≡ t ∷ drop i ts) {pairs : ℕ} (are : pairs ≡ count (λ P. rejects_non_empty W P t) Ps) where
      -- with none: it adds nothing
      pub size_passes : pairs ≡ 0 → Sized c i
      unfolding block_states block_arrows
      size_passes e =
          let none : has_block W Ps t ≡ false = no_pair_no_block W Ps t are e in
          record {
            blocks_left = count_next (has_block W Ps) ts so.blocks_left t next (sym none) (inr (refl, refl));
            states_are_left = add_next (block_states W Ps ts) ts so.states_are_left t next (rw none (omega arith));
            lines_left = add_next (block_arrows W Ps ts M k) ts so.lines_left t next (rw none (omega arith));
          }

      -- with some: it adds a block
      pub size_grows : (pairs ≡ 0 → ⊥) → {size seconds : ℕ} → size ≡ length ts + 1 → seconds ≡ second_count W M k ts t
          → Sized (record { blocks = c.blocks + 1; states = c.states + size; arrows = c.arrows + (k * pairs + size * k) + seconds }) i
      unfolding block_states block_arrows
      size_grows n e f =
          let has : has_block W Ps t ≡ true = pair_has_block W Ps t are n in
          record {
            blocks_left = count_next (has_block W Ps) ts so.blocks_left t next (sym has) (inl (refl, refl));
            states_are_left = add_next (block_states W Ps ts) ts so.states_are_left t next (rw (has, e));
            lines_left = add_next (block_arrows W Ps ts M k) ts so.lines_left t next (rw (has, e, f, are) (omega arith));
          }

    -- with so few profiles, sets and events all stay small: a block has at most 2049 states, and at most 16·256 + 2049·16 + 32784 arrows
    pub size_room : k ≤ 16 → length ts ≤ 2048 → length Ps ≤ 256 → (c.blocks ≤ 2048) × (c.states ≤ 4196608) × (c.arrows ≤ 142675968)
    unfolding block_states block_arrows
    size_room few_events few_profiles few_sets = (
      omega (arith, so.blocks_left.adds.left, count_most (has_block W Ps) ts),
      omega (arith, so.states_are_left.left, states_add W Ps ts, total_most 2049 (block_states W Ps ts) ts block_states_most),
      omega (
        arith,
        so.lines_left.left,
        arrows_add W Ps ts M k,
        total_most 69664 (block_arrows W Ps ts M k) ts block_arrows_most,
        product few_sets few_events,
      ),
    )
      where
        product : {a b m n : ℕ} → a ≤ m → b ≤ n → a * b ≤ m * n
        product {b = b} {m = m} h l = le_trans (mul-le-mul_right b h) (mul-le-mul_left m l)

        at_most : (b : Bool) {n most : ℕ} → n ≤ most → cond b n 0 ≤ most
        at_most true l = l
        at_most false l = omega arith

        block_states_most : (t : Profile) → block_states W Ps ts t ≤ 2049
        block_states_most t = at_most (has_block W Ps t) (omega arith)

        block_arrows_most : (t : Profile) → block_arrows W Ps ts M k t ≤ 69664
        block_arrows_most t =
            let pairs : ℕ = count (λ P. rejects_non_empty W P t) Ps in
            let few_pairs : pairs ≤ 256 = omega (arith, count_most (λ P. rejects_non_empty W P t) Ps) in
            let few_states : length ts + 1 ≤ 2049 = omega arith in
            at_most (has_block W Ps t)
            (omega (arith, product few_events few_pairs, product few_states few_events, few_seconds W M k t ts few_events few_profiles))

    module _ {state_room arrow_room : ℕ} where
      -- where what is counted so far does not fit, the opposite does not
      pub too_much : {n : ℕ} → n ≤ c.arrows → (leb c.states state_room && leb n arrow_room) ≡ false
          → Counted W M k Ps ts state_room arrow_room None
      too_much {n} h e = no_fit (go (leb all_states state_room) (leb all_lines arrow_room) refl refl)
        where
          go : (a b : Bool) → leb all_states state_room ≡ a → leb all_lines arrow_room ≡ b → (a && b) ≡ false
          go false b p q = refl
          go true false p q = refl
          go true true p q =
              let states_fit : c.states ≤ state_room = omega (arith, so.states_are_left.left, leb-true all_states state_room p) in
              let lines_fit : n ≤ arrow_room = omega (arith, so.lines_left.left, leb-true all_lines arrow_room q) in
              sym (both (le-leb c.states state_room states_fit) (le-leb n arrow_room lines_fit)) ∙ e

      -- at the end all is counted, and fits or does not
      pub all_counted : drop j ts ≡ [] → {b : Bool} → b ≡ (leb c.states state_room && leb c.arrows arrow_room)
          → Counted W M k Ps ts state_room arrow_room (then_some b c)
      all_counted end {b} e = go b (e ∙ ap₂ (λ m n. leb m state_room && leb n arrow_room) states_are arrows_are)
        where
          states_are : c.states ≡ all_states
          states_are = add_ends (block_states W Ps ts) ts so.states_are_left end

          arrows_are : c.arrows ≡ all_lines
          arrows_are = add_ends (block_arrows W Ps ts M k) ts so.lines_left end

          go : (b : Bool) → b ≡ (leb all_states state_room && leb all_lines arrow_room)
              → Counted W M k Ps ts state_room arrow_room (then_some b c)
          go true f =
              record {
                fits = f;
                sizes =
                    record {
                      blocks = count_ends (has_block W Ps) ts so.blocks_left end ∙ sym (blocks_counted W Ps ts);
                      states_are = states_are;
                      arrows_are = arrows_are;
                    };
              }
          go false f = no_fit (sym f)

-- HOW FAR THE SIZE IS COUNTED of the code's tables
abbrev pub SizedOf : Tables → Counts → ℕ → Type 0
SizedOf t = Sized 8 (machine_of t.asked) t.asked.model.k t.masks.now (profiles_of t.profiles)
