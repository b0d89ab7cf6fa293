-- Numbers written one behind the other to one slice: what was written and what is left to write are together all that is to be written.
use Prim.Native.Nat.{ℕ, suc, ◌+◌, ◌*◌, ◌-◌, ◌≤◌, ◌<◌}
use native.Mathlib.Omega.{arith}
use mathlib.Core.Path.{◌≡◌, refl, sym, ap, ap₂, ◌∙◌}
use mathlib.Core.Bool.{cond}
use mathlib.Core.List.{List, [], ◌∷◌, ◌++◌, map, append-nil}
use lib.ListN.{length, get_or, take, drop, set, replicate, length-append, length-map, length-replicate}
use lib.Seq.{length-take-le}
use lib.Dec.{eqb}
use Rattle.laws.specs.Profiles.{Profile}
use Rattle.laws.specs.Answers.{over}
use Rattle.laws.specs.Opposite.{has_block}
use Rattle.profile.specs.declared.Profile as declared
use Rattle.profile.specs.Values.{profile}
use Rattle.opposite.specs.Memory.{put_at}
use Rattle.opposite.specs.Lent.{profiles_of}
use Rattle.opposite.specs.declared.tables.Profiles.{Profiles}
use Rattle.opposite.specs.Drawing.{flags_of_block, flags_of}
use Rattle.opposite.proofs.Rows.{next_left, none_left, next_at, profiles_length}
use Rattle.opposite.proofs.Paper.{block_flags_long}
use Rattle.opposite.proofs.Writing.{put_nothing, put_length, put_both, put_one}
use Rattle.opposite.proofs.Writing.{Writer, Underway, start, done_room, room_next, put_next, all_put}

-- ALL is to be written from place n on to the slice, which was base; now it is new, place is the next place, and rest is left to write
abbrev Numbers : ℕ → List ℕ → List ℕ → List ℕ → ℕ → List ℕ → Type 0
Numbers = Underway put_at (λ n xs l. n + length xs ≤ length l)

numbers_writer : Writer put_at (λ n xs l. n + length xs ≤ length l)
numbers_writer =
    record {
      nothing = put_nothing;
      both = put_both;
      first = λ n l xs ys r. omega (arith, r, length-append xs ys);
      second = λ n l xs ys r. omega (arith, r, length-append xs ys, put_length n l xs (omega (arith, r, length-append xs ys)));
    }

module _ {n : ℕ} {all base new : List ℕ} {place : ℕ} {rest : List ℕ} (w : Numbers n all base new place rest) where
  -- the slice keeps its length
  pub keeps_length : length new ≡ length base
  keeps_length = ap length w.slices ∙ put_length n base w.done (done_room w)

  -- one number was set
  set_next : (x : ℕ) (ys : List ℕ) → rest ≡ x ∷ ys → {behind : ℕ} → behind ≡ place + 1 → Numbers n all base (set new place x) behind ys
  set_next x ys e b = put_next w (x ∷ []) ys e (put_one place new x (omega (arith, room_next w (x ∷ []) ys e))) b

-- THE FLAGS OF THE SETS
abbrev pub set_flag : ℕ → ℕ
set_flag P = cond (eqb P 0) 1 0

-- those of the sets from number i on are left to write
abbrev pub SetsLeft : List ℕ → List ℕ → List ℕ → ℕ → Type 0
SetsLeft Ps base new i = Numbers 0 (map set_flag Ps) base new i (map set_flag (drop i Ps))

-- at first all are
pub sets_begin : (Ps base : List ℕ) → length Ps ≤ length base → SetsLeft Ps base base 0
sets_begin Ps base h = start numbers_writer (rw length-map (omega arith))

module _ (Ps : List ℕ) {base new : List ℕ} {i : ℕ} (w : SetsLeft Ps base new i) where
  -- the next is written
  pub sets_next : i < length Ps → {flag : ℕ} → flag ≡ set_flag (get_or Ps i 0) → SetsLeft Ps base (set new i flag) (i + 1)
  sets_next h {flag} e = set_next w flag (map set_flag (drop (i + 1) Ps)) (rw (next_left Ps i 0 h, e)) refl

  -- at the end all flags of the sets are written
  pub sets_done : length Ps ≤ i → new ≡ over (flags_of Ps 0 0) base
  unfolding flags_of flags_of_block put_at
  sets_done h = (all_put w (rw (none_left Ps i h))).0 ∙ ap (λ xs. over xs base) (sym (append-nil (map set_flag Ps)))

-- THE FLAGS OF THE BLOCKS: h blocks of m profiles stand behind s sets; those from number b on are left to write
abbrev pub BlocksLeft : ℕ → ℕ → ℕ → List ℕ → List ℕ → ℕ → Type 0
BlocksLeft m h s base new b = Numbers s (flags_of_block m h) base new (s + b * (m + 1)) (flags_of_block m (h - b))

-- at first all are
pub blocks_begin : (m h s : ℕ) (lent : List ℕ) {base : List ℕ} → s + h * (m + 1) ≤ length lent → length base ≡ length lent
    → BlocksLeft m h s base base 0
blocks_begin m h s lent {base} l e =
    let all_left : h - 0 ≡ h = omega arith in
    let first : s + 0 * (m + 1) ≡ s = omega arith in
    rw (all_left, first) (start numbers_writer (omega (arith, block_flags_long m h)))

module _ (m h s : ℕ) {base new : List ℕ} {b : ℕ} (w : BlocksLeft m h s base new b) (l : b < h) where
  -- what is left is a block, and what is left behind it
  next_block : flags_of_block m (h - b) ≡ (1 ∷ replicate m 0) ++ flags_of_block m (h - (b + 1))
  unfolding flags_of_block
  next_block = ap (λ d. flags_of_block m d) more
    where
      more : h - b ≡ suc (h - (b + 1))
      more = omega arith

  -- it is written
  pub blocks_next : {newer : List ℕ} → newer ≡ put_at (s + b * (m + 1)) (1 ∷ replicate m 0) new → BlocksLeft m h s base newer (b + 1)
  blocks_next e =
      put_next w (1 ∷ replicate m 0) (flags_of_block m (h - (b + 1))) next_block e (omega (arith, length-replicate {A = ℕ} m 0))

-- at the end all flags are written, those of the sets before
pub blocks_done : (Ps : List ℕ) (m h : ℕ) (lent : List ℕ) {base new : List ℕ} {b : ℕ} → BlocksLeft m h (length Ps) base new b → h ≤ b
    → base ≡ over (flags_of Ps 0 0) lent → length Ps ≤ length lent → new ≡ over (flags_of Ps m h) lent
unfolding flags_of flags_of_block put_at
blocks_done Ps m h lent {base} {new} {b} w l e r =
    let none : h - b ≡ 0 = omega arith in
    let sets : List ℕ = map set_flag Ps in
    let before : base ≡ put_at 0 sets lent = e ∙ ap (λ xs. over xs lent) (append-nil sets) in
    let long : length Ps ≡ 0 + length sets = rw length-map (omega arith) in
    (all_put w (ap (λ d. flags_of_block m d) none)).0
    ∙ ap₂ (λ p xs. put_at p (flags_of_block m h) xs) long before
    ∙ put_both 0 lent sets (flags_of_block m h) (omega arith)

-- WHICH PROFILES HAVE A BLOCK
-- 1 for a profile that has a block, 0 for another
abbrev pub shown_as : ℕ → List ℕ → Profile → ℕ
shown_as W Ps t = cond (has_block W Ps t) 1 0

-- of the first profiles, as many as the slice has bytes, those from number j on are left to write
abbrev pub ShownLeft : ℕ → List ℕ → Profiles → List ℕ → List ℕ → ℕ → Type 0
ShownLeft W Ps profiles base new j =
    let ts : List Profile = profiles_of profiles in
    let n : ℕ = length base in
    Numbers 0 (map (shown_as W Ps) (take n ts)) base new j (map (shown_as W Ps) (take (n - j) (drop j ts)))

module _ (W : ℕ) (Ps : List ℕ) (profiles : Profiles) (base : List ℕ) (few : length base ≤ length profiles.arrows.now) where
  abbrev all : List ℕ
  all = map (shown_as W Ps) (take (length base) (profiles_of profiles))

  -- they fill the slice
  all_long : length all ≡ length base
  all_long =
      let long = profiles_length profiles.arrows.now profiles.marks.now profiles.alike in
      length-map (take (length base) (profiles_of profiles)) (shown_as W Ps)
      ∙ length-take-le (length base) (profiles_of profiles) (omega arith)

  -- at first all are
  pub shown_begin : ShownLeft W Ps profiles base base 0
  shown_begin =
      let whole : length base - 0 ≡ length base = omega arith in
      rw whole (start numbers_writer (omega (arith, all_long)))

  module _ {new : List ℕ} {j : ℕ} (w : ShownLeft W Ps profiles base new j) where
    -- the next is written
    pub shown_next : j < length base → {x : declared.Profile}
        → x ≡ record { arrows = get_or profiles.arrows.now j 0; marks = get_or profiles.marks.now j 0 }
        → {b : ℕ} → b ≡ shown_as W Ps (profile x) → ShownLeft W Ps profiles base (set new j b) (j + 1)
    shown_next h {x} at {b} e =
        let left : length base - j ≡ suc (length base - (j + 1)) = omega arith in
        set_next w b (map (shown_as W Ps) (take (length base - (j + 1)) (drop (j + 1) (profiles_of profiles))))
        (rw (left, next_at profiles j refl (omega arith) at, e)) refl

    -- at the end all are
    pub shown_done : length base ≤ j → new ≡ all
    unfolding put_at over
    shown_done h =
        let none : length base - j ≡ 0 = omega arith in
        let behind : drop (length all) base ≡ [] = none_left base (length all) (omega (arith, all_long)) in
        (all_put w (rw none)).0 ∙ ap (λ (r : List ℕ). all ++ r) behind ∙ append-nil all
