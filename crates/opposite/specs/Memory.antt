-- What stands in the slices of the opposite: what writing from a place on leaves, and what is read from them.
use Rattle.std.specs.Prelude.{ℕ, ◌+◌, ◌≤◌, ◌≡◌, List, map, ◌++◌, length, take, drop, get_or}
use Rattle.laws.specs.Bits.{counted}
use Rattle.laws.specs.Opposite.{Arrow, arrow}
use Rattle.laws.specs.Answers.{OppositeSlices, over}
use Rattle.opposite.specs.declared.arrows.Lines.{Lines}

-- a slice after xs was written from place n on: what stood before, then xs, then what stood behind
unfoldable pub put_at : ℕ → List ℕ → List ℕ → List ℕ
put_at n xs old = take n old ++ over xs (drop n old)

-- the three slices of arrows as one value
pub record ArrowSlices : Type 0 where
  pub from : List ℕ
  pub event : List ℕ
  pub to : List ℕ

abbrev pub arrow_memory : List ℕ → List ℕ → List ℕ → ArrowSlices
arrow_memory from event to = record { from = from; event = event; to = to }

-- the four slices of the opposite as one value
abbrev pub opposite_memory : List ℕ → List ℕ → List ℕ → List ℕ → OppositeSlices
opposite_memory from event to flags = record { from = from; event = event; to = to; flags = flags }

-- the slices after arrows were written from place n on
unfoldable pub put : ℕ → List Arrow → ArrowSlices → ArrowSlices
put n es l =
    record {
      from = put_at n (map (λ e. e.from) es) l.from;
      event = put_at n (map (λ e. e.event) es) l.event;
      to = put_at n (map (λ e. e.to) es) l.to;
    }

-- there is room for the arrows from place n on
pub record Room (n : ℕ) (es : List Arrow) (l : ArrowSlices) : Type 0 where
  pub from_room : n + length es ≤ length l.from
  pub event_room : n + length es ≤ length l.event
  pub to_room : n + length es ≤ length l.to

-- they were written there, and answer is the place behind them
pub record Puts (n : ℕ) (es : List Arrow) (old new : ArrowSlices) (answer : ℕ) : Type 0 where
  pub slices : new ≡ put n es old
  pub behind : answer ≡ n + length es

-- THE WRITER: its slices
abbrev pub slices_of : Lines → ArrowSlices
slices_of l = arrow_memory l.from.now l.event.now l.to.now

-- there is room for the arrows behind those that stand there
pub record HasRoom (es : List Arrow) (l : Lines) : Type 0 where
  pub room : Room l.count es (slices_of l)

-- it has the slices that it had, and no others
pub record SameLines (new old : Lines) : Type 0 where
  pub from : new.from.ghost_name ≡ old.from.ghost_name
  pub event : new.event.ghost_name ≡ old.event.ghost_name
  pub to : new.to.ghost_name ≡ old.to.ghost_name

-- the arrows were written behind those that stood there
pub record Adds (es : List Arrow) (old new : Lines) : Type 0 where
  pub puts : Puts old.count es (slices_of old) (slices_of new) new.count
  pub same : SameLines new old

-- THE MACHINE IN THE SLICES: the first so many arrows and flags
unfoldable pub arrows_in : OppositeSlices → ℕ → List Arrow
arrows_in l count = map (λ i. arrow (get_or l.from i 0) (get_or l.event i 0) (get_or l.to i 0)) (counted 0 count)

unfoldable pub flags_in : OppositeSlices → ℕ → List ℕ
flags_in l count = take count l.flags
