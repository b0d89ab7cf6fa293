-- The fields of a file as the code reads them: bytes at an offset by the file's length and as many of its bytes, a field by its head and its
-- end, and the four fields before the events, of which the first that has a fault decides.
use Prim.Native.Nat.{ℕ, suc, ◌+◌, ◌/◌, ◌%◌, ◌<◌, ◌≤◌}
use native.Mathlib.Omega.{arith}
use mathlib.Core.Path.{◌≡◌, refl, sym, ◌∙◌}
use mathlib.Core.Bool.{Bool, true, false, and_assoc, and-false}
use mathlib.Core.List.{List, [], ◌∷◌, ◌++◌}
use lib.ListN.{length, take, drop}
use lib.Seq.{drop-cons}
use lib.Pointwise.{pointwise}
use lib.Dec.{eqb, leb}
use borrow.Author.Tests.{lt-ltb, le-ltb}
use Rattle.std.specs.Prelude.{Result, Ok, Err, IsErrAnd}
use Rattle.std.proofs.lemmas.Result.{err_from_is_err_and}
use Rattle.laws.specs.Refusals.{Stopped, fault, outside}
use Rattle.laws.specs.File.{head, byte, stand_from, formed, value, number_checks, mask_checks, front_checks}
use Rattle.laws.proofs.Checks.{passed_check, stopped_check, passed_shown, shows_field}
use Rattle.laws.proofs.Unrefused.{in_range}
use Rattle.model.specs.Fields.{IsField, form_checks}
use Rattle.model.specs.Reader.{FrontRead, FrontRefused}
use Rattle.model.specs.Numbers.{number_of}
use Rattle.model.specs.declared.refusals.Fault.{Fault}
use Rattle.model.specs.declared.refusals.Refusal.{Refusal}
use Rattle.model.specs.declared.refusals.Refusal.TheVariants.{FewArrows}

-- a length of two bytes is its low and its high byte
head_bytes : (tag size : ℕ) → size ≤ 65535 → tag ∷ size % 256 ∷ size / 256 % 256 ∷ [] ≡ head tag size
unfolding head
head_bytes tag size l = let high : size / 256 % 256 ≡ size / 256 = omega arith in rw high

module _ (bytes : List ℕ) where
  -- bytes do not stand where the file ends before the last of them
  pub cut_short : (o : ℕ) (xs : List ℕ) → 0 < length xs → length bytes < o + length xs → stand_from bytes o xs ≡ false
  unfolding stand_from
  cut_short o [] p l = absurd (omega arith)
  cut_short o (x ∷ []) p l = rw (le-ltb o (length bytes) (omega arith))
  cut_short o (x ∷ y ∷ ys) p l = rw (cut_short (suc o) (y ∷ ys) (omega arith) (omega arith)) (simp and-false)

  -- where it does not, they stand there if they are equal to as many bytes of the file
  pub stand_equal : (o : ℕ) (xs : List ℕ) → o + length xs ≤ length bytes
      → pointwise eqb (take (length xs) (drop o bytes)) xs ≡ stand_from bytes o xs
  unfolding stand_from byte
  stand_equal o [] l = refl
  stand_equal o (x ∷ xs) l =
      let here : o < length bytes = omega arith in
      rw (drop-cons bytes o 0 here, lt-ltb o (length bytes) here, stand_equal (suc o) xs (omega arith)) (simp and_assoc)

  -- a field by the three bytes of its head, and then by its end
  module _ (o tag size : ℕ) (l : size ≤ 65535) {b : Bool} (e : b ≡ stand_from bytes o (tag ∷ size % 256 ∷ size / 256 % 256 ∷ [])) where
    pub not_formed : b ≡ false → false ≡ formed bytes o tag size
    unfolding formed
    not_formed f = rw (← head_bytes tag size l, ← e, f)

    pub formed_whole : b ≡ true → leb (o + 3 + size) (length bytes) ≡ formed bytes o tag size
    unfolding formed
    formed_whole t = rw (← head_bytes tag size l, ← e, t)

-- A FIELD OF ONE BYTE whose form is read first, and of whose value it is then asked whether that is refused
module _ (file : List ℕ) (o tag : ℕ) (refusal : Refusal) (wrong : ℕ → Bool) where
  abbrev IsByte : Result ℕ Fault → Type 0
  IsByte = IsField 8 (form_checks file o tag) (value file o)

  abbrev IsAsked : Result ℕ Fault → Type 0
  IsAsked = IsField 8 (form_checks file o tag ++ fault (number_of refusal) o (wrong (value file o)) ∷ []) (value file o)

  pub byte_misformed : (f : Fault) → IsByte (Err f) → (r : Result ℕ Fault) → IsErrAnd r (λ e. e ≡ f) → IsAsked r
  byte_misformed f s r h = let (e, is, same) = err_from_is_err_and r h in rw (is, same) (λ rest. s _)

  module _ {x : ℕ} (byte : IsByte (Ok x)) where
    pub byte_wrong : true ≡ wrong x → IsAsked (Err (record { refusal = refusal; offset = o }))
    byte_wrong t rest =
        let (passed, (same, _)) = byte in
        passed _ ∙ stopped_check (number_of refusal) o (rw (← same) (sym t)) rest

    pub byte_right : false ≡ wrong x → IsAsked (Ok x)
    byte_right f =
        let (passed, (same, small)) = byte in
        (λ rest. passed _ ∙ passed_check (number_of refusal) o (rw (← same) (sym f)) rest, (same, small))

-- a number that was read is at most its limit
pub number_most : (file : List ℕ) (o tag limit x : ℕ) → IsField 8 (number_checks file o tag limit) (value file o) (Ok x) → x ≤ limit
unfolding number_checks
number_most file o tag limit x h =
    let shows = shows_field o 0 o (formed file o tag 1) (outside limit (value file o)) in
    let inside = (passed_shown (number_checks file o tag limit) shows h.0).1 in
    omega (arith, h.1.0, ((in_range limit (value file o)).0 inside).1)

-- THE FIELDS BEFORE THE EVENTS, by their answers
module _ (file : List ℕ) where
  abbrev pub First : Result ℕ Fault → Type 0
  First = IsField 8 (number_checks file 0 0x01 8) (value file 0)

  abbrev pub Second : Result ℕ Fault → Type 0
  Second = IsField 8 (number_checks file 4 0x02 16) (value file 4)

  abbrev pub Third : ℕ → Result ℕ Fault → Type 0
  Third n = IsField 8 (mask_checks file 8 0x03 n) (value file 8)

  abbrev pub Fourth : ℕ → Result ℕ Fault → Type 0
  Fourth n = IsField 8 (mask_checks file 12 0x04 n) (value file 12)

module _ (file : List ℕ) (room : ℕ) where
  -- a fault that is found with the numbers that the file says
  refused_by : {n k : ℕ} {f : Fault} → n ≡ value file 0 → k ≡ value file 4
      → Stopped (front_checks file n k room) (number_of f.refusal) f.offset → FrontRefused file room f
  refused_by d e s = record { stopped = λ rest. rw (← d, ← e) (s rest) }

  -- WHICH FIELD HAS THE FIRST FAULT: each where those before it were read, and behind k the room
  pub refused_first : {f : Fault} → First file (Err f) → FrontRefused file room f
  unfolding front_checks number_checks mask_checks
  refused_first s = record { stopped = λ rest. s _ }

  module _ {n : ℕ} (first : First file (Ok n)) where
    pub refused_second : {f : Fault} → Second file (Err f) → FrontRefused file room f
    unfolding front_checks number_checks mask_checks
    refused_second s = record { stopped = λ rest. first.0 _ ∙ s _ }

    module _ {k : ℕ} (second : Second file (Ok k)) where
      pub no_room : room < k → FrontRefused file room (record { refusal = FewArrows; offset = 4 })
      unfolding front_checks number_checks mask_checks
      no_room l = refused_by first.1.0 second.1.0
          (λ rest. first.0 _ ∙ second.0 _ ∙ stopped_check 2 4 (lt-ltb room k l) _)

      module _ (fits : k ≤ room) where
        pub refused_third : {f : Fault} → Third file n (Err f) → FrontRefused file room f
        unfolding front_checks number_checks mask_checks
        refused_third s = refused_by first.1.0 second.1.0
            (λ rest. first.0 _ ∙ second.0 _ ∙ passed_check 2 4 (le-ltb room k fits) _ ∙ s _)

        module _ {start : ℕ} (third : Third file n (Ok start)) where
          pub refused_fourth : {f : Fault} → Fourth file n (Err f) → FrontRefused file room f
          unfolding front_checks number_checks mask_checks
          refused_fourth s = refused_by first.1.0 second.1.0
              (λ rest. first.0 _ ∙ second.0 _ ∙ passed_check 2 4 (le-ltb room k fits) _ ∙ third.0 _ ∙ s _)

          -- or none has one
          pub front_read : {home : ℕ} → Fourth file n (Ok home)
              → FrontRead file room record { n = n; k = k; start = start; home = home }
          unfolding front_checks number_checks mask_checks
          front_read fourth =
              record {
                n_is = first.1.0;
                k_is = second.1.0;
                start_is = third.1.0;
                home_is = fourth.1.0;
                n_most = number_most file 0 0x01 8 n first;
                k_most = number_most file 4 0x02 16 k second;
                k_fits = fits;
                passed = λ rest. first.0 _ ∙ second.0 _ ∙ passed_check 2 4 (le-ltb room k fits) _ ∙ third.0 _ ∙ fourth.0 rest;
              }
