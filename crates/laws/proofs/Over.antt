-- What stands in a slice after numbers were written to its beginning.
use Prim.Native.Nat.{ℕ, ◌+◌, ◌-◌, ◌≤◌, ◌<◌}
use native.Mathlib.Omega.{arith}
use native.Mathlib.Numerals.{add-one}
use mathlib.Core.Path.{◌≡◌, refl, sym, ap, ◌∙◌}
use mathlib.Core.List.{List, [], ◌∷◌, ◌++◌}
use lib.ListN.{length, get_or, take, drop, set, length-append, length-drop, take-append-drop, get_or-append}
use lib.Seq.{drop-cons, drop-drop, drop-append-add, set-append_seam, append_snoc, get_or-append-add, get_or-drop, get_or-take}
use lib.Seq.{take-suc, take_all, take_at, length-take-le, ext_get_or}
use Rattle.laws.specs.Answers.{over, Kept}
use Rattle.laws.proofs.Places.{length_one_more}

-- where nothing was written the slice is as it was
pub over_nothing : (old : List ℕ) → over [] old ≡ old
unfolding over
over_nothing old = refl

module _ (xs old : List ℕ) where
  -- the slice keeps its length
  pub over_length : length xs ≤ length old → length (over xs old) ≡ length old
  unfolding over
  over_length h = simp (length-append, length-drop) (omega arith)

  -- what was written stands first
  pub over_first : (n : ℕ) → length xs ≡ n → take n xs ≡ take n (over xs old)
  unfolding over
  over_first n e = take_all n xs (omega arith) ∙ sym (take_at xs (drop (length xs) old) n e)

  pub over_at : (i : ℕ) → i < length xs → get_or (over xs old) i 0 ≡ get_or xs i 0
  unfolding over
  over_at i h = get_or-append xs (drop (length xs) old) 0 i h

  -- and past it what stood there before
  pub over_past : (i : ℕ) → length xs ≤ i → get_or (over xs old) i 0 ≡ get_or old i 0
  unfolding over
  over_past i h =
      let e : i ≡ length xs + (i - length xs) = omega arith in
      rw (e, get_or-append-add, get_or-drop)

  -- writing what stands there changes nothing
  pub over_same : length xs ≤ length old → ((i : ℕ) → i < length xs → get_or xs i 0 ≡ get_or old i 0) → over xs old ≡ old
  unfolding over
  over_same h same =
      let n : ℕ = length xs in
      let e = ext_get_or 0 xs (take n old) (sym (length-take-le n old h)) (λ i l. same i l ∙ sym (get_or-take n old i 0 l)) in
      ap (λ (r : List ℕ). r ++ drop n old) e ∙ take-append-drop n old

  -- one number more, at the place behind those written
  pub over_set : (x : ℕ) → length xs < length old → set (over xs old) (length xs) x ≡ over (xs ++ (x ∷ [])) old
  unfolding over
  over_set x h = rw (length_one_more, drop-cons old (length xs) 0, set-append_seam, append_snoc)

-- writing within a slice leaves the rest of it
pub written : (xs old : List ℕ) (count : ℕ) → length xs ≡ count → count ≤ length old → Kept count old (over xs old)
written xs old count e l = record { as_long = over_length xs old (omega arith); past = λ i h. over_past xs old i (omega arith) }

-- writing again, and no less, is writing at once
pub over_again : (xs ys old : List ℕ) → length xs ≤ length ys → over ys (over xs old) ≡ over ys old
unfolding over
over_again xs ys old h =
    let d : ℕ = length ys - length xs in
    let e : length ys ≡ length xs + d = omega arith in
    ap (λ (r : List ℕ). ys ++ r) (rw (e, drop-append-add, drop-drop))

-- the first i numbers of a list were written, and now the next of them
pub over_next : (xs old : List ℕ) (i : ℕ) → i < length xs → i < length old
    → set (over (take i xs) old) i (get_or xs i 0) ≡ over (take (i + 1) xs) old
over_next xs old i h l =
    let long = length-take-le i xs (omega arith) in
    let x = get_or xs i 0 in
    rw (add-one, take-suc xs i 0) (ap (λ j. set (over (take i xs) old) j x) (sym long) ∙ over_set (take i xs) old x (omega arith))
