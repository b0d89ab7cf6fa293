-- What a test that is handed over answers.
use Rattle.std.specs.Prelude.{ℕ, ◌<◌, ◌≡◌, Bool}

-- of each number below n the test answers f, where `gives i b` says that it may answer b of i
abbrev pub Answers : (ℕ → Bool → Type 0) → ℕ → (ℕ → Bool) → Type 0
Answers gives n f = (i : ℕ) (b : Bool) → i < n → gives i b → b ≡ f i
