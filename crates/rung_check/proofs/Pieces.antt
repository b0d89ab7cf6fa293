-- What is put into a slice piece by piece is put as one.
use Prim.Native.Nat.{ℕ, zero, suc, ◌+◌, ◌≤◌, ◌<◌}
use native.Mathlib.Omega.{arith}
use native.Mathlib.Numerals.{add-one}
use mathlib.Core.Path.{◌≡◌, refl, sym, ap, subst, ◌∙◌}
use mathlib.Core.List.{List, [], ◌∷◌, ◌++◌, append_assoc, append-nil}
use lib.ListN.{length, get_or, take, set, length-append, length-take, take-append-drop}
use lib.Seq.{take_at, take_all, take-suc, take-length, length-take-le, take-append-le, set_split, append_snoc, drop-length}
use Rattle.laws.specs.Answers.{over}
use Rattle.laws.proofs.Over.{over_length, over_again}
use Rattle.rung_check.specs.declared.text.Text.{Text}
use Rattle.rung_check.specs.Putting.{text_put, Puts, Adds, Stands}

-- what was cut off once is cut off again
take_again : (n : ℕ) (xs ys : List ℕ) → take n (take n xs ++ ys) ≡ take n (xs ++ ys)
take_again zero xs ys = refl
take_again (suc n) [] ys = refl
take_again (suc n) (x ∷ xs) ys = ap (λ r. x ∷ r) (take_again n xs ys)

module _ (old : List ℕ) (at : ℕ) (within : at ≤ length old) where
  -- nothing put
  pub puts_nothing : Puts [] old at old at
  unfolding text_put over
  puts_nothing =
      let long = length-take-le at old within in
      let text : text_put [] old at ≡ take at old =
      ap (take (length old)) (append-nil (take at old)) ∙ take_all (length old) (take at old) (omega arith) in
      record {
        slice = rw (text, long) (sym (take-append-drop at old));
        length_is = rw text (sym long);
      }

  -- one byte, where there is room for it
  pub puts_byte : (b : ℕ) → at < length old → Puts (b ∷ []) old at (set old at b) (at + 1)
  unfolding text_put over
  puts_byte b room =
      let long = length-take-le at old within in
      let longer : length (take at old ++ (b ∷ [])) ≡ suc at = simp length-append (omega arith) in
      let text : text_put (b ∷ []) old at ≡ take at old ++ (b ∷ []) = take_all (length old) _ (omega arith) in
      record {
        slice = rw (text, longer, append_snoc) (set_split old at b room);
        length_is = rw (text, longer, add-one);
      }

-- one byte, where there is none
pub puts_none : (old : List ℕ) (at b : ℕ) → at ≡ length old → Puts (b ∷ []) old at old at
unfolding text_put over
puts_none old at b full =
    let first = take-append-le (length old) old (b ∷ []) (omega arith) in
    let text : text_put (b ∷ []) old at ≡ old = rw (full, take-length) (first ∙ take-length old) in
    record {
      slice = rw (text, drop-length, append-nil);
      length_is = rw text full;
    }

module _ {xs old : List ℕ} {at : ℕ} {mid : List ℕ} {e : ℕ} (first : Puts xs old at mid e) where
  cut : length (text_put xs old at) ≤ length old
  unfolding text_put
  cut = simp length-take (omega arith)

  -- the slice keeps its length
  put_length : length mid ≡ length old
  put_length = ap length first.slice ∙ over_length (text_put xs old at) old cut

  -- the text so far is what was put
  so_far : take e mid ≡ text_put xs old at
  unfolding over
  so_far = rw first.slice (take_at (text_put xs old at) _ e (sym first.length_is))

  -- TWO PIECES ARE ONE
  pub puts_both : {ys new : List ℕ} {r : ℕ} → Puts ys mid e new r → Puts (xs ++ ys) old at new r
  unfolding text_put
  puts_both {ys} {new} {r} second =
      let text : text_put ys mid e ≡ text_put (xs ++ ys) old at = rw (so_far, put_length, take_again, append_assoc) in
      let longer : length (text_put xs old at) ≤ length (text_put ys mid e) =
      rw (so_far, put_length) (simp (length-take, length-append) (omega (arith, cut))) in
      record {
        slice = cc (over_again (text_put xs old at) (text_put ys mid e) old longer);
        length_is = second.length_is ∙ ap length text;
      }

-- THE SAME OF A TEXT and the slice that is lent for it
pub adds_nothing : (t : Text) → Adds [] t t
adds_nothing t = record {
  puts = puts_nothing t.out.now t.end t.within;
  same_reference = refl;
}

pub adds_same : {xs ys : List ℕ} {a b : Text} → xs ≡ ys → Adds xs a b → Adds ys a b
adds_same {a = a} {b = b} = subst (λ t. Adds t a b)

pub adds_both : {xs ys : List ℕ} {a b c : Text} → Adds xs a b → Adds ys b c → Adds (xs ++ ys) a c
adds_both first second = record {
  puts = puts_both first.puts second.puts;
  same_reference = second.same_reference ∙ first.same_reference;
}

-- with room for all of it the whole text stands in a slice that had none
pub adds_whole : {text old new : List ℕ} {a b : Text} → a.out.now ≡ old → a.end ≡ 0 → length text ≤ length old → Adds text a b
    → new ≡ b.out.now → Stands text old new b.end
unfolding text_put
adds_whole {text} {old} {b = b} slice empty room added last =
    let puts = rw (slice, empty) at added.puts in
    let all : text_put text old 0 ≡ text = take_all (length old) text room in
    record {
      slice = last ∙ puts.slice ∙ ap (λ t. over t old) all;
      length_is = puts.length_is ∙ ap length all;
      within = rw last b.within;
    }

-- the first i bytes of a text, then the next
pub adds_next : (text : List ℕ) (i : ℕ) {a b c : Text} → i < length text → Adds (take i text) a b → Adds (get_or text i 0 ∷ []) b c
    → Adds (take (i + 1) text) a c
adds_next text i l first second = rw (add-one, take-suc text i 0) (adds_both first second)
