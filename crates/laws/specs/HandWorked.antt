-- Document 01, "Hand-worked models": the models A to H and what it says of each, as one table; models of our own beside it,
-- which see errors that A to H do not. That the definitions give just this is proved in proofs/HandWorked.
use Rattle.std.specs.Prelude.{ℕ, ◌+◌, ◌*◌, ◌^◌, List, [], ◌∷◌, length}
use Rattle.std.proofs.Math.Option.{Option, some}
use Rattle.laws.specs.Bits.{total}
use Rattle.laws.specs.Model.{Model, eight}
use Rattle.laws.specs.Profiles.{Verdict, covered, uncovered}
use Rattle.laws.specs.Answers.{VerdictAnswer, verdict_answer}

-- one arrow of an event, p to q, and an event's arrow number from its arrows
infix 68 ◌⇒◌
unfoldable pub ◌⇒◌ : ℕ → ℕ → ℕ
p ⇒ q = 2 ^ (8 * p + q)

unfoldable pub event : List ℕ → ℕ
event bits = total (λ x. x) bits

-- a mask from its states
unfoldable pub mask : List ℕ → ℕ
mask states = total (λ q. 2 ^ q) states

unfoldable pub A : Model
A = record { n = 1; k = 1; start = mask (0 ∷ []); home = mask (0 ∷ []); arrows = event (0 ⇒ 0 ∷ []) ∷ [] }

unfoldable pub B : Model
B = record { n = 1; k = 1; start = mask (0 ∷ []); home = mask []; arrows = event (0 ⇒ 0 ∷ []) ∷ [] }

unfoldable pub C : Model
C =
    record {
      n = 2;
      k = 2;
      start = mask (0 ∷ []);
      home = mask (1 ∷ []);
      arrows = event (0 ⇒ 1 ∷ 1 ⇒ 1 ∷ []) ∷ event (0 ⇒ 0 ∷ 1 ⇒ 0 ∷ []) ∷ [];
    }

unfoldable pub D : Model
D = record { n = 1; k = 1; start = mask (0 ∷ []); home = mask (0 ∷ []); arrows = event [] ∷ [] }

unfoldable pub E : Model
E = record { n = 2; k = 1; start = mask (0 ∷ []); home = mask (1 ∷ []); arrows = event (0 ⇒ 1 ∷ 1 ⇒ 0 ∷ []) ∷ [] }

unfoldable pub F : Model
F = record { n = 2; k = 1; start = mask (0 ∷ []); home = mask (1 ∷ []); arrows = event (0 ⇒ 1 ∷ 1 ⇒ 1 ∷ []) ∷ [] }

unfoldable pub G : Model
G = record { n = 1; k = 1; start = mask []; home = mask (0 ∷ []); arrows = event (0 ⇒ 0 ∷ []) ∷ [] }

unfoldable pub H : Model
H =
    record {
      n = 2;
      k = 2;
      start = mask (0 ∷ []);
      home = mask (1 ∷ []);
      arrows = event (0 ⇒ 0 ∷ []) ∷ event (0 ⇒ 0 ∷ 0 ⇒ 1 ∷ 1 ⇒ 1 ∷ []) ∷ [];
    }

-- two states that swap on the one event, both start, one home: "t then t is t" matters
unfoldable pub Swap : Model
Swap = record { n = 2; k = 1; start = mask (0 ∷ 1 ∷ []); home = mask (1 ∷ []); arrows = event (0 ⇒ 1 ∷ 1 ⇒ 0 ∷ []) ∷ [] }

-- one event leads from each of two states to both, both start, one home: one marked r is enough
unfoldable pub Both : Model
Both = record { n = 2; k = 1; start = mask (0 ∷ 1 ∷ []); home = mask (1 ∷ []); arrows = event (0 ⇒ 0 ∷ 0 ⇒ 1 ∷ 1 ⇒ 0 ∷ 1 ⇒ 1 ∷ []) ∷ [] }

-- C without home, which has two rejecting pairs: set 0 with profile 1, and set 1 with profile 0. The lower set comes first
unfoldable pub Homeless : Model
Homeless =
    record {
      n = 2;
      k = 2;
      start = mask (0 ∷ []);
      home = mask [];
      arrows = event (0 ⇒ 1 ∷ 1 ⇒ 1 ∷ []) ∷ event (0 ⇒ 0 ∷ 1 ⇒ 0 ∷ []) ∷ [];
    }

-- a line that goes there on one event and back on the other, no home: no profile of one event rejects with {0}, that of 0 1 does
unfoldable pub Shuttle : Model
Shuttle = record { n = 2; k = 2; start = mask (0 ∷ []); home = mask []; arrows = event (0 ⇒ 1 ∷ []) ∷ event (1 ⇒ 0 ∷ []) ∷ [] }

-- a row: a model, its number of sets and of profiles, and the verdict
pub record Row : Type 0 where
  pub model : Model
  pub sets : ℕ
  pub profiles : ℕ
  pub verdict : Option Verdict

-- the row of a model by the definitions, with the program's room
unfoldable pub row_of : Model → Row
row_of m =
    let answer : VerdictAnswer = verdict_answer eight m 256 2048 2304 in
    record { model = m; sets = length answer.sets; profiles = length answer.profiles; verdict = answer.verdict }

unfoldable pub row : Model → ℕ → ℕ → Verdict → Row
row m s t v = record { model = m; sets = s; profiles = t; verdict = some v }

-- THE TABLE of document 01
unfoldable pub rows : List Row
rows =
    row A 1 1 covered
    ∷ row B 1 1 (uncovered [] (0 ∷ []))
    ∷ row C 2 3 (uncovered [] (1 ∷ []))
    ∷ row D 2 1 (uncovered (0 ∷ []) (0 ∷ []))
    ∷ row E 2 3 covered
    ∷ row F 2 1 covered
    ∷ row G 1 1 (uncovered [] (0 ∷ []))
    ∷ row H 2 3 (uncovered [] (0 ∷ []))
    ∷ []

-- our own models
unfoldable pub own_rows : List Row
own_rows =
    row Swap 1 3 covered
    ∷ row Both 1 2 covered
    ∷ row Homeless 2 2 (uncovered [] (1 ∷ []))
    ∷ row Shuttle 3 5 (uncovered [] (0 ∷ 1 ∷ []))
    ∷ []
