-- The table of document 01's hand-worked models, and the listed values beside it, hold of the definitions: each is computed.
-- Assumes nothing.
use Prim.Native.Nat.{ℕ}
use mathlib.Core.Path.{◌≡◌, refl, ap, ◌∙◌}
use mathlib.Core.Bool.{Bool, true, false, ◌||◌, cond}
use mathlib.Core.List.{List, [], ◌∷◌, ◌++◌, map}
use mathlib.Core.Option.{Option, none, some}
use lib.ListN.{length}
use lib.Dec.{ltb}
use Rattle.laws.specs.Bits.{counted, keep, gather, each_below}
use Rattle.laws.specs.Words.{Word}
use Rattle.laws.specs.Model.{Model, eight, machine}
use Rattle.laws.specs.Tables.{Entry, no_entry, no_event, word_of}
use Rattle.laws.specs.Profiles.{Profile, values, is_rejecting_pair, set_value, word_profile, set_table, profile_table}
use Rattle.laws.specs.Opposite.{Arrow, arrow, sorted, written, opposite}
use Rattle.laws.specs.Refusals.{first_of, model_checks}
use Rattle.laws.specs.File.{file_of, reading}
use Rattle.laws.specs.Answers.{ClosingAnswer, closing_answer, VerdictAnswer, verdict_from, verdict_answer}
use Rattle.laws.specs.Answers.{OppositeAnswer, opposite_from, opposite_answer}
use Rattle.laws.specs.HandWorked.{mask, C, D, E, H, Shuttle, Row, row_of, rows, own_rows}
use Rattle.laws.proofs.Computed.{computed}

-- both hold
infixr 60 ◌▸◌
pub data And (X Y : Type 0) : Type 0 where
  ◌▸◌ : X → Y → And X Y

-- each row of a list is what the definitions give for its model
abbrev pub Right : List Row → Type 0
Right [] = Unit {0}
Right (r ∷ rs) = And (row_of r.model ≡ r) (Right rs)

-- entries of the two tables
unfoldable pub set : ℕ → ℕ → ℕ → Entry ℕ
set P from event = record { value = P; from = from; event = event }

unfoldable pub profile : ℕ → ℕ → ℕ → ℕ → Entry Profile
profile arrows marks from event = record { value = record { arrows = arrows; marks = marks }; from = from; event = event }

-- the answer of closing, from the two tables of a model that is not refused
closed : (m : Model) (sets : List (Entry ℕ)) (profiles : List (Entry Profile)) → (first_of (model_checks eight m)).number ≡ 0
    → set_table 8 (machine 8 m) m.k 256 ≡ record { entries = sets; cut = false }
    → profile_table 8 (machine 8 m) m.k 2048 ≡ record { entries = profiles; cut = false }
    → closing_answer eight m 256 2048 ≡ record { number = 0; sets = sets; profiles = profiles }
unfolding closing_answer
closed m sets profiles passes S T = rw (passes, S, T, closing_answer, S, T)

-- The tables of C, E and H, entry by entry. They are computed here, once, and what follows goes by them
unfoldable pub c_set_entries : List (Entry ℕ)
c_set_entries = set 1 no_entry no_event ∷ set 2 0 0 ∷ []

unfoldable pub c_profile_entries : List (Entry Profile)
c_profile_entries = profile 514 514 no_entry 0 ∷ profile 257 0 no_entry 1 ∷ profile 257 257 0 1 ∷ []

unfoldable pub c_closed : ClosingAnswer
c_closed = record { number = 0; sets = c_set_entries; profiles = c_profile_entries }

pub c_profile_table : profile_table 8 (machine 8 C) 2 2048 ≡ record { entries = c_profile_entries; cut = false }
unfolding computed profile c_profile_entries
c_profile_table = refl

pub c_tables : closing_answer eight C 256 2048 ≡ c_closed
unfolding computed set c_set_entries c_closed
c_tables = closed C c_set_entries c_profile_entries refl refl c_profile_table

h_closed : ClosingAnswer
h_closed =
    record {
      number = 0;
      sets = set 1 no_entry no_event ∷ set 3 0 1 ∷ [];
      profiles = profile 1 0 no_entry 0 ∷ profile 515 514 no_entry 1 ∷ profile 3 2 0 1 ∷ [];
    }

h_tables : closing_answer eight H 256 2048 ≡ h_closed
unfolding computed set profile h_closed
h_tables = refl

unfoldable pub e_closed : ClosingAnswer
e_closed =
    record {
      number = 0;
      sets = set 1 no_entry no_event ∷ set 2 0 0 ∷ [];
      profiles = profile 258 2 no_entry 0 ∷ profile 513 513 0 0 ∷ profile 258 258 1 0 ∷ [];
    }

pub e_tables : closing_answer eight E 256 2048 ≡ e_closed
unfolding computed set profile e_closed
e_tables = refl

-- a row, from the answer of closing
row_from : Model → ClosingAnswer → Row
row_from m c =
    let answer : VerdictAnswer = verdict_from 8 c 2304 in
    record { model = m; sets = length answer.sets; profiles = length answer.profiles; verdict = answer.verdict }

closed_row : (m : Model) (c : ClosingAnswer) {r : Row} → closing_answer eight m 256 2048 ≡ c → row_from m c ≡ r → row_of m ≡ r
unfolding row_of verdict_answer row_from
closed_row m c e f = ap (row_from m) e ∙ f

-- THE TABLE: of each of A to H, sets, profiles and verdict are as document 01 says
pub table : Right rows
unfolding computed set profile c_set_entries c_profile_entries c_closed e_closed h_closed row_from
table =
    refl ▸ refl ▸ closed_row C c_closed c_tables refl ▸ refl ▸ closed_row E e_closed e_tables refl ▸ refl ▸ refl
    ▸ closed_row H h_closed h_tables refl ▸ tt

-- our own models
pub own_table : Right own_rows
unfolding computed
own_table = refl ▸ refl ▸ refl ▸ refl ▸ tt

-- sets and profiles of words: there and back in Shuttle, and E's marks
profile_is : ℕ → ℕ → Option Profile
profile_is arrows marks = some (record { arrows = arrows; marks = marks })

shuttle_sets : map (set_value 8 (machine 8 Shuttle)).of ([] ∷ (0 ∷ []) ∷ (1 ∷ []) ∷ (0 ∷ 1 ∷ []) ∷ (0 ∷ 1 ∷ 0 ∷ []) ∷ (0 ∷ 0 ∷ []) ∷ [])
    ≡ some 1 ∷ some 2 ∷ some 0 ∷ some 1 ∷ some 2 ∷ some 0 ∷ []
unfolding computed
shuttle_sets = refl

shuttle_profiles : map (word_profile 8 (machine 8 Shuttle)) ([] ∷ (0 ∷ []) ∷ (1 ∷ []) ∷ (0 ∷ 1 ∷ []) ∷ (1 ∷ 0 ∷ []) ∷ (0 ∷ 0 ∷ []) ∷ [])
    ≡ none ∷ profile_is 2 0 ∷ profile_is 256 0 ∷ profile_is 1 0 ∷ profile_is 512 0 ∷ profile_is 0 0 ∷ []
unfolding computed profile_is
shuttle_profiles = refl

e_profiles : map (word_profile 8 (machine 8 E)) ((0 ∷ []) ∷ (0 ∷ 0 ∷ []) ∷ (0 ∷ 0 ∷ 0 ∷ []) ∷ [])
    ≡ profile_is 258 2 ∷ profile_is 513 513 ∷ profile_is 258 258 ∷ []
unfolding computed profile_is
e_profiles = refl

-- the rejecting pairs of a model: the set, and the profile's least word
rejecting_in : ClosingAnswer → List (ℕ × Word)
rejecting_in c =
    let sets = c.sets in
    let profiles = c.profiles in
    gather (λ i P. gather (λ j t. cond (is_rejecting_pair 8 P t) ((P, word_of profiles j) ∷ []) []) 0 (values profiles)) 0 (values sets)

rejecting : Model → List (ℕ × Word)
rejecting m = rejecting_in (closing_answer eight m 256 2048)

-- H has two: set {0} with the profile of 0, and set {0,1} with that of 0 1
h_pairs : rejecting_in h_closed ≡ (mask (0 ∷ []), 0 ∷ []) ∷ (mask (0 ∷ 1 ∷ []), 0 ∷ 1 ∷ []) ∷ []
unfolding computed set profile h_closed rejecting_in
h_pairs = refl

h_rejecting : rejecting H ≡ (mask (0 ∷ []), 0 ∷ []) ∷ (mask (0 ∷ 1 ∷ []), 0 ∷ 1 ∷ []) ∷ []
unfolding rejecting
h_rejecting = ap rejecting_in h_tables ∙ h_pairs

-- the opposites of C, D and H, with the tables they are made from
opposing : Model → OppositeAnswer
opposing m = opposite_answer eight m 256 2048 65535 65535

-- C's opposite has 6 states, of which only 2 accepts, and 16 arrows
unfoldable pub c_flags : List ℕ
c_flags = 0 ∷ 0 ∷ 1 ∷ 0 ∷ 0 ∷ 0 ∷ []

unfoldable pub c_arrows : List Arrow
c_arrows =
    arrow 0 0 1 ∷ arrow 0 0 3 ∷ arrow 0 1 0 ∷ arrow 0 1 4
    ∷ arrow 1 0 1 ∷ arrow 1 1 0
    ∷ arrow 2 0 3 ∷ arrow 2 1 2 ∷ arrow 2 1 4
    ∷ arrow 3 0 3 ∷ arrow 3 1 5
    ∷ arrow 4 0 3 ∷ arrow 4 1 2 ∷ arrow 4 1 4
    ∷ arrow 5 0 3 ∷ arrow 5 1 5 ∷ []

-- the opposite's answer for C with any room for states and arrows
unfoldable pub c_answers : ℕ → ℕ → OppositeAnswer
c_answers states arrows =
    elim (ltb states 6 || ltb arrows 16) [
      | true ↦ record { number = 7; sets = c_set_entries; profiles = c_profile_entries; flags = []; arrows = [] }
      | false ↦ record { number = 0; sets = c_set_entries; profiles = c_profile_entries; flags = c_flags; arrows = c_arrows }
    ]

c_answers_from : (states arrows : ℕ) → opposite_from 8 (machine 8 C) 2 c_closed states arrows ≡ c_answers states arrows
unfolding computed set profile c_set_entries c_profile_entries c_closed c_flags c_arrows c_answers
c_answers_from states arrows = refl

pub c_answered : (states arrows : ℕ) → opposite_answer eight C 256 2048 states arrows ≡ c_answers states arrows
unfolding opposite_answer C
c_answered states arrows = ap (λ c. opposite_from 8 (machine 8 C) 2 c states arrows) c_tables ∙ c_answers_from states arrows

c_opposite : opposing C ≡ record {
  number = 0;
  sets = c_set_entries;
  profiles = c_profile_entries;
  flags = c_flags;
  arrows = c_arrows;
}
unfolding opposing c_answers
c_opposite = c_answered 65535 65535

-- the opposite machine of C's tables is what these flags and arrows are, once written
c_machine : opposite 8 (machine 8 C) 2 (values c_set_entries) (values c_profile_entries) ≡ written c_flags c_arrows
unfolding computed set profile c_set_entries c_profile_entries c_flags c_arrows
c_machine = refl

-- read back, the machine has these arrows among all from, event and to, and no others, starts in 0 and accepts in 2
c_read_back : keep (λ e. (written c_flags c_arrows).arrow e.from e.event e.to)
    (each_below 6 (λ p. each_below 2 (λ a. each_below 6 (λ q. arrow p a q ∷ []))))
    ≡ c_arrows
unfolding computed c_arrows c_flags
c_read_back = refl

c_ends : keep (written c_flags c_arrows).start (counted 0 6) ++ keep (written c_flags c_arrows).home (counted 0 6) ≡ 0 ∷ 2 ∷ []
unfolding computed c_arrows c_flags
c_ends = refl

-- its arrows are sorted; with two exchanged, by from, event or to, or with one twice they are not
sortings : map sorted
    (c_arrows
    ∷ (arrow 1 0 0 ∷ arrow 0 1 1 ∷ [])
    ∷ (arrow 0 1 0 ∷ arrow 0 0 1 ∷ [])
    ∷ (arrow 0 0 1 ∷ arrow 0 0 0 ∷ [])
    ∷ (arrow 0 0 0 ∷ arrow 0 0 0 ∷ [])
    ∷ (arrow 0 0 0 ∷ arrow 2 0 0 ∷ arrow 1 0 0 ∷ [])
    ∷ [])
    ≡ true ∷ false ∷ false ∷ false ∷ false ∷ false ∷ []
unfolding computed c_arrows
sortings = refl

-- D's has 2 states, of which 1 accepts, and 2 arrows
d_opposite : opposing D ≡ record {
  number = 0;
  sets = set 1 no_entry no_event ∷ set 0 0 0 ∷ [];
  profiles = profile 0 0 no_entry 0 ∷ [];
  flags = 0 ∷ 1 ∷ [];
  arrows = arrow 0 0 1 ∷ arrow 1 0 1 ∷ [];
}
unfolding computed set profile opposing
d_opposite = refl

-- H's has 10 states and 30 arrows, sorted
size : OppositeAnswer → ℕ × ℕ × Bool
size o = (length o.flags, length o.arrows, sorted o.arrows)

h_size : size (opposite_from 8 (machine 8 H) 2 h_closed 65535 65535) ≡ (10, 30, true)
unfolding computed set profile h_closed size
h_size = refl

h_opposite : size (opposing H) ≡ (10, 30, true)
unfolding opposing opposite_answer H
h_opposite = ap (λ c. size (opposite_from 8 (machine 8 H) 2 c 65535 65535)) h_tables ∙ h_size

-- C's file, byte for byte, written and read
c_file : List ℕ
c_file =
    0x01 ∷ 0x01 ∷ 0x00 ∷ 0x02
    ∷ 0x02 ∷ 0x01 ∷ 0x00 ∷ 0x02
    ∷ 0x03 ∷ 0x01 ∷ 0x00 ∷ 0x01
    ∷ 0x04 ∷ 0x01 ∷ 0x00 ∷ 0x02
    ∷ 0x05 ∷ 0x03 ∷ 0x00 ∷ 0x00 ∷ 0x02 ∷ 0x02
    ∷ 0x05 ∷ 0x03 ∷ 0x00 ∷ 0x01 ∷ 0x01 ∷ 0x01
    ∷ 0x7F ∷ 0x00 ∷ 0x00 ∷ []

c_written : file_of C ≡ c_file
unfolding computed c_file
c_written = refl

c_read : reading c_file 2 ≡ record { fault = record { number = 0; offset = 0 }; model = C }
unfolding computed c_file
c_read = refl
