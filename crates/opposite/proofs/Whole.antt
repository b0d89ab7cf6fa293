-- The opposite drawn as a whole: which profiles have a block is noted in the slice of flags, then the sets' arrows are written, the blocks'
-- behind them, and at last the flags over what was noted.
use Prim.Native.Nat.{ℕ, suc, ◌+◌, ◌*◌, ◌≤◌}
use native.Mathlib.Omega.{arith}
use native.Mathlib.Nat.{mul-le-mul_right}
use mathlib.Core.Path.{◌≡◌, refl, sym, ap, ap₂, ◌∙◌}
use mathlib.Core.Bool.{Bool, true, false, cond}
use mathlib.Core.List.{List, [], ◌∷◌, ◌++◌, map, append-nil}
use lib.ListN.{length, take, drop, length-map}
use lib.Seq.{take_all, take_at, length-take-le}
use lib.Dec.{eqb}
use borrow.Author.Tests.{eqb-true, eqb-false}
use Rattle.laws.specs.Bits.{every_of}
use Rattle.laws.specs.Model.{Machine}
use Rattle.laws.specs.Profiles.{Profile}
use Rattle.laws.specs.Opposite.{has_block, Arrow, block_profiles, state_count, flags, arrows}
use Rattle.laws.specs.Answers.{opposite_slices, room_for_states, room_for_arrows, over}
use Rattle.laws.proofs.Over.{over_again, over_length}
use Rattle.laws.proofs.Counts.{arrows_counted}
use Rattle.opposite.specs.Tables.{profiles_at, keep_by, is_idempotent}
use Rattle.opposite.specs.Memory.{put_at, ArrowSlices, arrow_memory, opposite_memory, put, Room, Puts}
use Rattle.opposite.specs.Drawing.{sets_from, blocks_from, flags_of, Fitting, Drawn}
use Rattle.opposite.proofs.Rows.{profiles_length}
use Rattle.opposite.proofs.Writing.{Writing, begin, left_as, room_next, write_next, all_written}
use Rattle.opposite.proofs.Paper.{arrows_are_paper, flags_are_paper, flags_long, shown_are_blocks, blocks_idempotent}

-- a list of no elements
none : {A : Type 0} (xs : List A) → length xs ≡ 0 → xs ≡ []
none [] e = refl
none (x ∷ xs) e = absurd (omega arith)

-- the profiles that have a block
abbrev blocks_of : ℕ → List ℕ → List ℕ → List ℕ → List Profile
blocks_of W Ps leads marks = block_profiles W Ps (profiles_at leads marks)

-- what is noted of the first n profiles
abbrev noted : ℕ → List ℕ → List ℕ → List ℕ → ℕ → List ℕ
noted W Ps leads marks n = map (λ t. cond (has_block W Ps t) 1 0) (take n (profiles_at leads marks))

-- AN OPPOSITE THAT FITS is to be written to the slices from, event, to and fs. Of its first n profiles it is noted which have a block: the
-- flags are now `new`, and their first n say which blocks there are
pub record Noted (W : ℕ) (M : Machine ℕ) (k : ℕ) (Ps leads marks from event to fs : List ℕ) (h n : ℕ) (new : List ℕ) : Type 0 where
  pub same : length marks ≡ length leads
  pub fits : Fitting W M k Ps (profiles_at leads marks) (opposite_memory from event to fs) h
  pub few : n ≤ length Ps + h * (length leads + 1)
  pub within : n ≤ length leads
  pub long : length (noted W Ps leads marks n) ≡ n
  pub stands : new ≡ over (noted W Ps leads marks n) fs
  pub keeps : keep_by (take n new) (profiles_at leads marks) ≡ blocks_of W Ps leads marks

-- all profiles are noted or, without a block, none
module _ (W : ℕ) (M : Machine ℕ) (k : ℕ) (Ps leads marks : List ℕ) (same : length marks ≡ length leads)
    {from event to fs : List ℕ} {h n : ℕ} (fits : Fitting W M k Ps (profiles_at leads marks) (opposite_memory from event to fs) h)
    (e : n ≡ cond (eqb h 0) 0 (length leads)) where
  pub note : {shown : List ℕ} → shown ≡ noted W Ps leads marks n → Noted W M k Ps leads marks from event to fs h n (shown ++ drop n fs)
  unfolding keep_by profiles_at over
  note {shown} w = go (eqb h 0) refl
    where
      said : List ℕ
      said = noted W Ps leads marks n

      stand : n ≤ length Ps + h * (length leads + 1) → n ≤ length leads → length said ≡ n
          → keep_by said (profiles_at leads marks) ≡ blocks_of W Ps leads marks
          → Noted W M k Ps leads marks from event to fs h n (shown ++ drop n fs)
      stand few within long keeps =
          rw w
          (record {
            same = same;
            fits = fits;
            few = few;
            within = within;
            long = long;
            stands = rw long;
            keeps = rw (take_at said (drop n fs) n long) keeps;
          })

      go : (b : Bool) → eqb h 0 ≡ b → Noted W M k Ps leads marks from event to fs h n (shown ++ drop n fs)
      go true t =
          let zero_is : n ≡ 0 = e ∙ ap (λ b. cond b 0 (length leads)) t in
          let none_is : blocks_of W Ps leads marks ≡ [] = none (blocks_of W Ps leads marks) (sym fits.blocks ∙ eqb-true h 0 t) in
          let nothing : said ≡ [] = ap (noted W Ps leads marks) zero_is in
          stand (omega arith) (omega arith) (ap length nothing ∙ sym zero_is)
          (ap (λ l. keep_by l (profiles_at leads marks)) nothing ∙ sym none_is)
      go false t =
          let all_of : n ≡ length leads = e ∙ ap (λ b. cond b 0 (length leads)) t in
          let some_is : h ≡ 0 → ⊥ = eqb-false h 0 t in
          let one : suc 0 * (length leads + 1) ≤ h * (length leads + 1) = mul-le-mul_right (length leads + 1) (omega arith) in
          let says : Profile → ℕ = λ t. cond (has_block W Ps t) 1 0 in
          let ts : List Profile = profiles_at leads marks in
          let as_many = profiles_length leads marks same in
          let all : said ≡ map says ts = ap (map says) (take_all n ts (omega arith)) in
          stand (omega arith) (omega arith) (ap length all ∙ length-map ts says ∙ as_many ∙ sym all_of)
          (ap (λ l. keep_by l ts) all ∙ shown_are_blocks W Ps ts)

module _ {W : ℕ} {M : Machine ℕ} {k : ℕ} {Ps leads marks from event to fs : List ℕ} {h n : ℕ} {new : List ℕ}
    (s : Noted W M k Ps leads marks from event to fs h n new) where
  abbrev ts : List Profile
  ts = profiles_at leads marks

  abbrev bs : List Profile
  bs = blocks_of W Ps leads marks

  abbrev shown : List ℕ
  shown = take n new

  -- the states are not more than the flags or the limit
  states_within : (length Ps + h * (length leads + 1) ≤ length fs) × (length Ps + h * (length leads + 1) ≤ 65535)
  unfolding state_count room_for_states
  states_within =
      let size = ap₂ (λ b t. length Ps + b * (t + 1)) s.fits.blocks (sym (profiles_length leads marks s.same)) in
      (omega (arith, size, s.fits.states_fit), omega (arith, size, s.fits.states_fit))

  -- there is room for what is noted
  pub noted_room : n ≤ length fs
  noted_room = omega (arith, s.few, states_within.0)

  -- the slice keeps its length
  noted_length : length new ≡ length fs
  noted_length = ap length s.stands ∙ over_length (noted W Ps leads marks n) fs (omega (arith, s.long, noted_room))

  -- what is read there is not more than the flags
  pub read_room : n ≤ length new
  read_room = omega (arith, noted_room, noted_length)

  -- nor more than the profiles
  pub shown_few : length shown ≤ length leads
  shown_few = omega (arith, length-take-le n new read_room, s.within)

  -- there is room for the flags
  pub flags_room : length Ps + h * (length leads + 1) ≤ length new
  flags_room = omega (arith, states_within.0, noted_length)

  abbrev base : ArrowSlices
  base = arrow_memory from event to

  -- there is room for the arrows
  arrows_room : Room 0 (arrows W M k Ps ts bs) base
  unfolding room_for_arrows
  arrows_room =
      let count = arrows_counted W M k Ps ts in
      record {
        from_room = omega (arith, s.fits.arrows_fit);
        event_room = omega (arith, s.fits.arrows_fit);
        to_room = omega (arith, s.fits.arrows_fit);
      }

  abbrev sets_arrows : List Arrow
  sets_arrows = sets_from W M k Ps ts (keep_by shown ts) 0 Ps

  abbrev blocks_arrows : List Arrow
  blocks_arrows = blocks_from W M k ts (length Ps) (keep_by shown ts)

  -- the blocks' last state is within the limit
  pub last_state : length Ps + length (keep_by shown ts) * (length leads + 1) ≤ 65535
  last_state =
      let size = ap (λ b. length Ps + b * (length leads + 1)) (s.fits.blocks ∙ ap length (sym s.keeps)) in
      omega (arith, states_within.1, size)

  -- a profile with a block is its own square
  pub all_idempotent : every_of (is_idempotent W) (keep_by shown ts) ≡ true
  all_idempotent = ap (every_of (is_idempotent W)) s.keeps ∙ blocks_idempotent W Ps ts

  -- the sets' arrows and then the blocks' are to be written
  drawing : Writing 0 (arrows W M k Ps ts bs) base base 0 (sets_arrows ++ blocks_arrows)
  drawing =
      left_as (begin arrows_room)
      (sym (arrows_are_paper W M k Ps ts bs)
      ∙ ap (λ bs. sets_from W M k Ps ts bs 0 Ps ++ blocks_from W M k ts (length Ps) bs) (sym s.keeps))

  -- there is room for the sets'
  pub sets_room : Room 0 sets_arrows base
  sets_room = room_next drawing sets_arrows blocks_arrows refl

  -- the flags were written over what was noted
  flags_put : {later : List ℕ} → later ≡ over (flags_of Ps (length leads) h) new → later ≡ over (flags Ps ts bs) fs
  flags_put e =
      let all : List ℕ = flags_of Ps (length leads) h in
      let paper : all ≡ flags Ps ts bs =
      ap₂ (flags_of Ps) (sym (profiles_length leads marks s.same)) s.fits.blocks ∙ flags_are_paper Ps ts bs in
      e ∙ ap (over all) s.stands
      ∙ over_again (noted W Ps leads marks n) all fs (omega (arith, s.long, s.few, flags_long Ps (length leads) h))
      ∙ ap (λ (f : List ℕ). over f fs) paper

  module _ {middle : ArrowSlices} {behind : ℕ} (sets_put : Puts 0 sets_arrows base middle behind) where
    -- behind the sets' arrows the blocks' are to be written
    drawing_blocks : Writing 0 (arrows W M k Ps ts bs) base middle behind blocks_arrows
    drawing_blocks = write_next drawing sets_arrows blocks_arrows refl sets_put

    -- there is room for them
    pub blocks_room : Room behind blocks_arrows middle
    blocks_room = room_next drawing_blocks blocks_arrows [] (sym (append-nil blocks_arrows))

    -- DRAWN: with both written all arrows stand there, and with its flags the opposite
    pub drawn : {from' event' to' flags' : List ℕ} {end : ℕ} → Puts behind blocks_arrows middle (arrow_memory from' event' to') end
        → flags' ≡ over (flags_of Ps (length leads) h) new
        → Drawn W M k Ps ts (opposite_memory from event to fs) (opposite_memory from' event' to' flags')
    unfolding put put_at opposite_slices
    drawn p e =
        let all = all_written (write_next drawing_blocks blocks_arrows [] (sym (append-nil blocks_arrows)) p) refl in
        ap₂ (λ (l : ArrowSlices) g. opposite_memory l.from l.event l.to g) all.slices (flags_put e)
