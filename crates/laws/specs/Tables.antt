-- Document 01, "Sets and profiles", what both tables have in common: what a table holds, how it is made up to a room, and how an
-- entry's word is rebuilt. The values are sets in one table and profiles in the other; nothing here knows which.
use Rattle.std.specs.Prelude.{ℕ, zero, suc, ◌<◌, ◌≤◌, ◌≡◌, Bool, true, false, ◌||◌, cond, List, [], ◌∷◌, ◌++◌, length, take, eqb, ltb}
use Rattle.std.proofs.Math.Option.{Option, none, some}
use Rattle.std.proofs.Math.ListN.{get_elem?}
use Rattle.laws.specs.Bits.{some_of}
use Rattle.laws.specs.Words.{Word, letters_are_below, before}

-- the value of a word, where it has one; the value of a word with one event more, from that of the word; the test for equal values
pub record WordValue (Value : Type 0) : Type 0 where
  pub of : Word → Option Value
  pub next : Option Value → ℕ → Value
  pub same : Value → Value → Bool

-- an entry: a value, the number of the entry it came from, and its last event
pub record Entry (Value : Type 0) : Type 0 where
  pub value : Value
  pub from : ℕ
  pub event : ℕ

-- what stands for the predecessor's number where there is none, and for the event of the first set
abbrev pub no_entry : ℕ
no_entry = 65535

abbrev pub no_event : ℕ
no_event = 255

-- where the entry with number i comes from, when word gives each entry's least word
pub data Came {Value : Type 0} (Val : WordValue Value) (word : ℕ → Word) (i : ℕ) : Entry Value → Type 0 where
  -- the empty word: no predecessor and no event
  empty_word : {e : Entry Value} → word i ≡ [] → e.from ≡ no_entry → e.event ≡ no_event → Came Val word i e
  -- one event, where the empty word has no value: no predecessor, and the event itself
  one_event : {e : Entry Value} → Val.of [] ≡ none → word i ≡ e.event ∷ [] → e.from ≡ no_entry → Came Val word i e
  -- the word of an entry with a smaller number, and then the event
  one_more : {e : Entry Value} → e.from < i → word i ≡ word e.from ++ (e.event ∷ []) → Came Val word i e

-- WHAT A TABLE HOLDS, over k events: all values that words have, each once, at the place of its least word
pub record Holds {Value : Type 0} (Val : WordValue Value) (k : ℕ) (entries : List (Entry Value)) : Type 0 where
  -- the least word of each entry, by the entry's number
  pub word : ℕ → Word
  -- an entry's word is a word over the k events, and has the entry's value
  pub word_letters : (i : ℕ) (e : Entry Value) → get_elem? entries i ≡ some e → letters_are_below k (word i) ≡ true
  pub word_value : (i : ℕ) (e : Entry Value) → get_elem? entries i ≡ some e → Val.of (word i) ≡ some e.value
  -- no word before it has that value
  pub word_least : (i : ℕ) (e : Entry Value) → get_elem? entries i ≡ some e → (w : Word) → letters_are_below k w ≡ true
      → Val.of w ≡ some e.value → before w (word i) ≡ false
  -- every value that some word has is there
  pub all : (w : Word) (x : Value) → letters_are_below k w ≡ true → Val.of w ≡ some x
      → (i : ℕ) × (e : Entry Value) × (get_elem? entries i ≡ some e) × (e.value ≡ x)
  -- once
  pub once : (i j : ℕ) (e f : Entry Value) → get_elem? entries i ≡ some e → get_elem? entries j ≡ some f → e.value ≡ f.value → i ≡ j
  -- in the order of their least words
  pub ordered : (i j : ℕ) → i < j → j < length entries → before (word i) (word j) ≡ true
  -- each with its predecessor and event
  pub came : (i : ℕ) (e : Entry Value) → get_elem? entries i ≡ some e → Came Val word i e

-- a table in the making: the entries so far, and whether a new value came for which there was no room
pub record Table (Value : Type 0) : Type 0 where
  pub entries : List (Entry Value)
  pub cut : Bool

-- WHAT A TABLE WITH A ROOM IS, when complete holds all values: its first entries, and cut exactly if there are more than room
pub record UpTo {Value : Type 0} (room : ℕ) (complete : List (Entry Value)) (t : Table Value) : Type 0 where
  pub first : t.entries ≡ take room complete
  pub cut : t.cut ≡ ltb room (length complete)

-- the value is among the entries
unfoldable pub stored : {Value : Type 0} → WordValue Value → Value → List (Entry Value) → Bool
stored Val x entries = some_of (λ e. Val.same e.value x) entries

module _ {Value : Type 0} (Val : WordValue Value) (room : ℕ) where
  -- enter an entry: a value that is there already changes nothing; a new one goes to the end, or, with no room left, cuts the
  -- table, and nothing is entered any more
  unfoldable pub enter : Entry Value → Table Value → Table Value
  enter e t =
      cond (t.cut || stored Val e.value t.entries) t
      (cond (ltb (length t.entries) room)
      (record { entries = t.entries ++ (e ∷ []); cut = false })
      (record { entries = t.entries; cut = true }))

  -- from entry number i, whose value is x, by d events one after the other, the first of them a. Where the empty word has no value,
  -- what it leads to comes from no entry: i is then 65,535 and x none
  unfoldable pub through_events : ℕ → Option Value → ℕ → ℕ → Table Value → Table Value
  through_events i x zero a t = t
  through_events i x (suc d) a t = through_events i x d (suc a) (enter (record { value = Val.next x a; from = i; event = a }) t)

module _ {Value : Type 0} (Val : WordValue Value) (k room : ℕ) where
  -- from entry number i on, each entry by all k events, until there is none left; d bounds how many
  unfoldable pub through_entries : ℕ → ℕ → Table Value → Table Value
  through_entries zero i t = t
  through_entries (suc d) i t =
      elim (get_elem? t.entries i) [
        | none ↦ t
        | some e ↦ through_entries d (suc i) (through_events Val room i (some e.value) k 0 t)
      ]

  -- where a table begins: with the value of the empty word, or, where that has none, with the values of one event
  unfoldable pub begun : Option Value → Table Value
  begun none = through_events Val room no_entry none k 0 (record { entries = []; cut = false })
  begun (some x) = enter Val room (record { value = x; from = no_entry; event = no_event }) (record { entries = []; cut = false })

  -- HOW A TABLE IS MADE, with a room: entries in order, each by the events in order. There are never more entries than room
  unfoldable pub made : Table Value
  made = through_entries room 0 (begun (Val.of []))

module _ {Value : Type 0} where
  -- the word of entry number i, through ever smaller numbers; d bounds how many. With at most 255 events none is 255, so 255 is the
  -- empty word's
  unfoldable pub rebuilt : List (Entry Value) → ℕ → ℕ → Word
  rebuilt entries zero i = []
  rebuilt entries (suc d) i =
      elim (get_elem? entries i) [
        | none ↦ []
        | some e ↦
            elim (eqb e.from no_entry) [
              | true ↦ cond (eqb e.event no_event) [] (e.event ∷ [])
              | false ↦ rebuilt entries d e.from ++ (e.event ∷ [])
            ]
      ]

  -- the least word of entry number i, rebuilt from predecessors and events
  unfoldable pub word_of : List (Entry Value) → ℕ → Word
  word_of entries i = rebuilt entries (suc i) i

-- WHAT CAN BE CLOSED: the value of a word with one event more is the next value, and the test tells exactly equal values
pub record Steps {Value : Type 0} (Val : WordValue Value) : Type 0 where
  pub more : (w : Word) (a : ℕ) → Val.of (w ++ (a ∷ [])) ≡ some (Val.next (Val.of w) a)
  pub same_equal : (x y : Value) → Val.same x y ≡ true → x ≡ y
  pub equal_same : (x : Value) → Val.same x x ≡ true

-- codes below a bound that tell the values of words over k events apart
pub record Codes {Value : Type 0} (Val : WordValue Value) (k bound : ℕ) : Type 0 where
  pub code : Value → ℕ
  pub below : (w : Word) (x : Value) → letters_are_below k w ≡ true → Val.of w ≡ some x → code x < bound
  pub apart : (v w : Word) (x y : Value) → letters_are_below k v ≡ true → letters_are_below k w ≡ true → Val.of v ≡ some x → Val.of w ≡ some y
      → code x ≡ code y → x ≡ y

-- WHAT CLOSING GIVES: some table holds all values, with no more entries than bound; the table made with a room is that one up to the
-- room; and a table that is not cut holds all values
pub record Closes {Value : Type 0} (Val : WordValue Value) (k bound : ℕ) : Type 0 where
  pub complete : List (Entry Value)
  pub holds : Holds Val k complete
  pub at_most : length complete ≤ bound
  pub up_to_room : (room : ℕ) → UpTo room complete (made Val k room)
  pub uncut : (room : ℕ) → (made Val k room).cut ≡ false → Holds Val k (made Val k room).entries
