-- The arrows inside a block, as they are written: onto a profile, on each event, from each state, and block after block.
use Prim.Native.Nat.{ℕ, suc, ◌+◌, ◌≤◌, ◌<◌}
use native.Mathlib.Omega.{arith}
use mathlib.Core.Path.{◌≡◌, refl, sym, ap}
use mathlib.Core.Option.{Option}
use mathlib.Core.List.{List, [], ◌∷◌, ◌++◌, append-nil}
use lib.ListN.{length}
use Rattle.std.specs.Prelude.{Some, None}
use Rattle.laws.specs.Bits.{place_of}
use Rattle.laws.specs.Model.{Machine}
use Rattle.laws.specs.Profiles.{Profile, same_profile, next_profile}
use Rattle.laws.specs.Opposite.{Arrow, arrow}
use Rattle.model.specs.Lent.{machine_of}
use Rattle.model.specs.declared.Checked.{Checked}
use Rattle.profile.specs.declared.Profile.{Profile as Profiled}
use Rattle.profile.specs.Values.{profile}
use Rattle.opposite.specs.Lent.{profiles_of, shown_of}
use Rattle.opposite.specs.Lines.{gate_lines, onto_lines, leads_lines, block_lines, left_of, First, NextBlock}
use Rattle.opposite.specs.declared.arrows.Block.{Block}
use Rattle.opposite.specs.declared.arrows.Blocks.{Blocks}
use Rattle.opposite.specs.declared.arrows.Shown.{Shown}
use Rattle.opposite.specs.Memory.{HasRoom, Adds}
use Rattle.opposite.specs.declared.arrows.Lines.{Lines}
use Rattle.opposite.specs.Drawing.{onto_at, leads_onward, states_from, block_at, blocks_from}
use Rattle.opposite.proofs.Events.{each_from, from_first, from_next, from_last}
use Rattle.opposite.proofs.Rows.{profiles_length}
use Rattle.opposite.proofs.Lines.{Left, begin, room_next, write_next, all_written}

-- TWO LISTS are all that is to be written
module _ {all : List Arrow} {base : Lines} (room : HasRoom all base) (xs ys : List Arrow) (both : all ≡ xs ++ ys) where
  -- there is room for the first
  pub first_room : HasRoom xs base
  first_room = room_next (begin room) xs ys both

  module _ {new : Lines} (first : Adds xs base new) where
    -- then for the second
    pub second_room : HasRoom ys new
    second_room = room_next (write_next (begin room) xs ys both first) ys [] (sym (append-nil ys))

    -- and then all is written
    pub both_written : {newer : Lines} → Adds ys new newer → Adds all base newer
    both_written second = all_written (write_next (write_next (begin room) xs ys both first) ys [] (sym (append-nil ys)) second) refl

-- ONTO A PROFILE: to the gate, if it is that of the block, and then to its state
pub onto_both : (b : Block) (p a : ℕ) (y : Profiled) {r : ℕ} → r ≡ place_of (same_profile (profile y)) (profiles_of b.profiles)
    → onto_lines b p a y ≡ gate_lines b p a y ++ (arrow p a (b.gate + 1 + r) ∷ [])
unfolding onto_at
onto_both b p a y at = rw at

-- ON EACH EVENT
module _ (W : ℕ) (M : Machine ℕ) (k : ℕ) (ts : List Profile) (gate : ℕ) (t : Profile) (p : ℕ) (x : Option Profile) where
  -- what is left to write from event a on
  abbrev pub leads_from : ℕ → List Arrow
  leads_from a = each_from k (λ b. onto_at ts gate t p b (next_profile W M x b)) a

  -- from event 0 on it is all
  pub leads_first : leads_onward W M k ts gate t p x ≡ leads_from 0
  unfolding leads_onward
  leads_first = sym (from_first k (λ b. onto_at ts gate t p b (next_profile W M x b)))

  -- the arrows of the next event, and what is left behind them
  pub leads_next : (a : ℕ) → a < k → (y : Profile) → y ≡ next_profile W M x a → leads_from a ≡ onto_at ts gate t p a y ++ leads_from (a + 1)
  leads_next a h y e = rw e (from_next k (λ b. onto_at ts gate t p b (next_profile W M x b)) a h)

  -- at the end nothing is left
  pub leads_last : (a : ℕ) → k ≤ a → leads_from a ≡ []
  leads_last a h = from_last k (λ b. onto_at ts gate t p b (next_profile W M x b)) a h

-- FROM EACH STATE of a block
module _ (m : Checked) (b : Block) where
  -- what is left to write of the states of the profiles xs, the first of which is number i
  abbrev states_left : ℕ → List Profile → List Arrow
  states_left i xs = states_from 8 (machine_of m) m.model.k (profiles_of b.profiles) b.gate (profile b.profile) (b.gate + 1 + i) xs

  abbrev of_gate : List Arrow
  of_gate = leads_lines m b b.gate None

  abbrev of_states : List Arrow
  of_states = states_left 0 (profiles_of b.profiles)

  -- WHAT A TURN KEEPS: these profiles are the last of the block's, and their states are left to write
  pub record StatesLeading (base new : Lines) (i : ℕ) (xs : List Profile) : Type 0 where
    pub long : i + length xs ≡ length b.profiles.arrows.now
    pub writing : Left of_states base new (states_left i xs)

  -- the gate comes first
  gate_first : block_lines m b ≡ of_gate ++ of_states
  unfolding block_at
  gate_first =
      let same : b.gate + 1 + 0 ≡ b.gate + 1 = omega arith in
      rw same

  module _ {lent : Lines} (room : HasRoom (block_lines m b) lent) where
    pub gate_room : HasRoom of_gate lent
    gate_room = first_room room of_gate of_states gate_first

    module _ {base : Lines} (first : Adds of_gate lent base) where
      -- then all states are left
      pub states_begin : StatesLeading base base 0 (profiles_of b.profiles)
      states_begin =
          record {
            long = omega (arith, profiles_length b.profiles.arrows.now b.profiles.marks.now b.profiles.alike);
            writing = begin (second_room room of_gate of_states gate_first first);
          }

      -- and at the end the block is written
      pub states_done : {new : Lines} {i : ℕ} {xs : List Profile} → StatesLeading base new i xs → xs ≡ [] → Adds (block_lines m b) lent new
      unfolding states_from
      states_done w nothing = both_written room of_gate of_states gate_first first (all_written w.writing (rw nothing))

  -- the next state, whose profile is x
  module _ {base new : Lines} {i : ℕ} {x : Profiled} {xs rest : List Profile} (w : StatesLeading base new i xs)
      (next : xs ≡ profile x ∷ rest) where
    abbrev of_state : List Arrow
    of_state = leads_lines m b (b.gate + 1 + i) (Some x)

    -- its arrows, and what is left behind them
    state_first : states_left i xs ≡ of_state ++ states_left (i + 1) rest
    unfolding states_from
    state_first =
        let behind : suc (b.gate + 1 + i) ≡ b.gate + 1 + (i + 1) = omega arith in
        rw (next, behind)

    -- its number is one of the block's
    pub state_fits : b.gate + 1 + i < 65535
    state_fits = omega (arith, w.long, ap length next, b.fits)

    -- there is room for its arrows
    pub room_of_state : HasRoom of_state new
    room_of_state = room_next w.writing of_state (states_left (i + 1) rest) state_first

    -- and they are written
    pub state_written : {newer : Lines} → Adds of_state new newer → StatesLeading base newer (i + 1) rest
    state_written p =
        record {
          long = omega (arith, w.long, ap length next);
          writing = write_next w.writing of_state (states_left (i + 1) rest) state_first p;
        }

-- BLOCK AFTER BLOCK: what is left to write of a walk over the blocks
module _ (m : Checked) where
  abbrev pub left_blocks : Blocks → List Arrow
  left_blocks s = blocks_from 8 (machine_of m) m.model.k (profiles_of s.shown.tables.now.profiles) s.gate (left_of s)

  -- at first it is all of them
  pub blocks_first : {shown : Shown} {s : Blocks} → First shown s
      → blocks_from 8 (machine_of m) m.model.k (profiles_of shown.tables.now.profiles) (length shown.tables.now.masks.now) (shown_of shown.tables.now shown.bytes.now)
      ≡ left_blocks s
  blocks_first f = rw (f.shown_is, f.passed, f.gate)

  -- the next block, and what is left behind it
  pub blocks_next : {s t : Blocks} {b : Block} → NextBlock s b t → left_blocks s ≡ block_lines m b ++ left_blocks t
  unfolding blocks_from
  blocks_next {s = s} n =
      let ps = s.shown.tables.now.profiles in
      rw (n.first, n.behind, n.shown, n.gate, n.profiles, profiles_length ps.arrows.now ps.marks.now ps.alike)

  -- at the end it is nothing
  pub blocks_last : (s : Blocks) → left_of s ≡ [] → left_blocks s ≡ []
  unfolding blocks_from
  blocks_last s e = rw e
