-- Document 01, "The model": machines, their paths and the courses they accept; the model, and the machine that it is.
-- A machine is over any type of states, so that one definition of "accepted" serves the model and its opposite.
use Rattle.std.specs.Prelude.{ℕ, ◌≤◌, ◌<◌, ◌≡◌, Bool, true, false, ◌&&◌, ◌||◌, List, [], ◌∷◌, ◌++◌, get_or, ltb}
use Rattle.laws.specs.Bits.{bit, cell}
use Rattle.laws.specs.Words.{Word, power, letters_are_below, empty}

-- which states are start states; which are home or, in the opposite, accepting; and whether an event leads from one state to another
pub record Machine (S : Type 0) : Type 0 where
  pub start : S → Bool
  pub home : S → Bool
  pub arrow : S → ℕ → S → Bool

module _ {S : Type 0} (M : Machine S) where
  -- a path from one state to another that reads a word: it stops where it is, or takes an arrow and goes on
  pub data Path : S → Word → S → Type 0 where
    stop : {p : S} → Path p [] p
    step : {p r q : S} {a : ℕ} {w : Word} → M.arrow p a r ≡ true → Path r w q → Path p (a ∷ w) q

  -- the path has a home state among its states, the first and the last included
  unfoldable pub homed : {p q : S} {w : Word} → Path p w q → Bool
  homed (stop {p = p}) = M.home p
  homed (step {p = p} h rest) = M.home p || homed rest

  -- the course (u, v) is accepted: some path reads u and then v i times, from a start state to r, and some path reads v j times, j at
  -- least 1, from r back to r, and has a home state among its states. It is said of any two words; a course is `Course`
  pub record Accepted (u v : Word) : Type 0 where
    pub i : ℕ
    pub j : ℕ
    pub r : S
    pub from : S
    pub from_start : M.start from ≡ true
    pub reach : Path from (u ++ power i v) r
    pub j_from_1 : 1 ≤ j
    pub round : Path r (power j v) r
    pub round_homed : homed round ≡ true

-- u and v are a course over k events: letters below k, v not empty
pub record Course (k : ℕ) (u v : Word) : Type 0 where
  pub u_letters : letters_are_below k u ≡ true
  pub v_letters : letters_are_below k v ≡ true
  pub v_some : empty v ≡ false

-- the limits that belong to one kind of model: at most how many states, events, sets and profiles. The arrows of an event are one
-- number, in rows of as many bits as the kind has states
pub record Kind : Type 0 where
  pub states : ℕ
  pub events : ℕ
  pub sets : ℕ
  pub profiles : ℕ

-- the first kind
abbrev pub eight : Kind
eight = record { states = 8; events = 16; sets = 256; profiles = 2048 }

-- a model as it is handed over: two numbers, two masks, and a slice of arrows of which only the first k numbers are read
pub record Model : Type 0 where
  pub n : ℕ
  pub k : ℕ
  pub start : ℕ
  pub home : ℕ
  pub arrows : List ℕ

-- a state of the model: its states are 0 to n-1
unfoldable pub is_state : Model → ℕ → Bool
is_state m p = ltb p m.n

-- event a leads from p to q: both are states, a is an event, and bit W·p+q of its number is set
unfoldable pub leads : ℕ → Model → ℕ → ℕ → ℕ → Bool
leads W m p a q = is_state m p && is_state m q && ltb a m.k && cell W (get_or m.arrows a 0) p q

-- the machine that a model of the kind with W states is
unfoldable pub machine : ℕ → Model → Machine ℕ
machine W m =
    record {
      start = λ p. is_state m p && bit m.start p;
      home = λ p. is_state m p && bit m.home p;
      arrow = λ p a q. leads W m p a q;
    }

-- THE STATES ARE BELOW W: start states, and both ends of every arrow
pub record Within (W : ℕ) (M : Machine ℕ) : Type 0 where
  pub start_below : (p : ℕ) → M.start p ≡ true → p < W
  pub from_below : (p a q : ℕ) → M.arrow p a q ≡ true → p < W
  pub to_below : (p a q : ℕ) → M.arrow p a q ≡ true → q < W
