-- What putting bytes behind the text that already stands in a slice leaves: as much of both as there is room for, then what stood there.
use Rattle.std.specs.Prelude.{ℕ, ◌≤◌, ◌≡◌, List, ◌++◌, length, take}
use Rattle.laws.specs.Answers.{over}
use Rattle.rung_check.specs.declared.text.Text.{Text}

module _ (bytes old : List ℕ) (at : ℕ) where
  -- the first places of the slice are the text so far
  unfoldable pub text_put : List ℕ
  text_put = take (length old) (take at old ++ bytes)

  -- the slice was old and is now new; the answer is how long the text now is
  pub record Puts (new : List ℕ) (answer : ℕ) : Type 0 where
    pub slice : new ≡ over text_put old
    pub length_is : answer ≡ length text_put

-- bytes are put behind a text, in the slice that was lent for it
pub record Adds (bytes : List ℕ) (old new : Text) : Type 0 where
  pub puts : Puts bytes old.out.now old.end new.out.now new.end
  pub same_reference : new.out.ghost_name ≡ old.out.ghost_name

-- the whole text stands in the first places of the slice, and behind it what stood there
pub record Stands (text old new : List ℕ) (answer : ℕ) : Type 0 where
  pub slice : new ≡ over text old
  pub length_is : answer ≡ length text
  pub within : answer ≤ length new
