-- The word of an entry by two slices of its table, and what placing two words leaves in the word memory.
use Rattle.std.specs.Prelude.{ℕ, ◌<◌, ◌≤◌, ◌≡◌, ◌≢◌, Option, Some, None, List, ◌++◌, length, get_or}
use Rattle.laws.specs.Tables.{no_entry, word_of}
use Rattle.laws.specs.Words.{Word}
use Rattle.laws.specs.Answers.{over}
use Rattle.closing.specs.Memory.{entries_in}
use Rattle.cover.specs.declared.words.Placed.{Placed}

-- the two slices from which words are rebuilt, a place for each entry: a predecessor's number is smaller than the entry's, if there is one
pub record Linked (from event : List ℕ) : Type 0 where
  pub events_there : length from ≤ length event
  pub falls : (i : ℕ) → i < length from → get_or from i 0 ≢ no_entry → get_or from i 0 < i

-- the word of entry number i, by these two slices; the values of the entries play no part in it
unfoldable pub word_in : List ℕ → List ℕ → ℕ → Word
word_in from event i = word_of (entries_in (λ j. j) from event (length from)) i

module _ (u v : Word) (old new : List ℕ) where
  -- there is no room for both, and nothing was written
  pub record NoRoom : Type 0 where
    pub lacks : length old < length (u ++ v)
    pub memory : new ≡ old

  -- u and then v were written to the beginning of a memory with room for both; p says both lengths
  pub record Written (p : Placed) : Type 0 where
    pub fits : length (u ++ v) ≤ length old
    pub u_letters : p.u ≡ length u
    pub v_letters : p.v ≡ length v
    pub memory : new ≡ over (u ++ v) old

  -- what placing them answers and leaves
  abbrev pub Places : Option Placed → Type 0
  Places None = NoRoom
  Places (Some p) = Written p
