-- Document 01, "Sets and profiles": the set and the profile of a word and what they mean, the join, fitting and rejecting pairs, the
-- two tables, and the verdict. W is the number of states of the kind of model.
use Rattle.std.specs.Prelude.{ℕ, suc, ◌*◌, ◌^◌, ◌<◌, ◌≡◌, Bool, true, false, not, ◌&&◌, ◌||◌, List, [], ◌∷◌, map, eqb}
use Rattle.std.proofs.Math.Option.{Option, none, some}
use Rattle.std.proofs.Math.ListN.{get_elem?}
use Rattle.laws.specs.Bits.{bit, number_of_bits, cell, grid, some_below}
use Rattle.laws.specs.Words.{Word}
use Rattle.laws.specs.Model.{Machine, Path, stop, step, Accepted, Course}
use Rattle.laws.specs.Tables.{WordValue, Entry, Table, Holds, made, word_of}

-- a profile: two numbers, whose bits for p, q say whether p leads to q and whether that is marked
pub record Profile : Type 0 where
  pub arrows : ℕ
  pub marks : ℕ

-- both numbers are equal
unfoldable pub same_profile : Profile → Profile → Bool
same_profile s t = eqb s.arrows t.arrows && eqb s.marks t.marks

-- the values of a list of entries
unfoldable pub values : {Value : Type 0} → List (Entry Value) → List Value
values entries = map (λ e. e.value) entries

-- what the search ends with: covered, or u and v
pub data Verdict : Type 0 where
  covered : Verdict
  uncovered : Word → Word → Verdict

-- WHAT A RIGHT VERDICT IS, over k events: "covered" exactly if every course is accepted; otherwise u and v are a course that is not
-- accepted
pub record RightVerdict {S : Type 0} (M : Machine S) (k : ℕ) (answer : Verdict) : Type 0 where
  pub covered_accepts : answer ≡ covered → (u v : Word) → Course k u v → Accepted M u v
  pub accepts_covered : ((u v : Word) → Course k u v → Accepted M u v) → answer ≡ covered
  pub uncovered_course : (u v : Word) → answer ≡ uncovered u v → Course k u v
  pub uncovered_rejects : (u v : Word) → answer ≡ uncovered u v → Accepted M u v → ⊥

module _ (W : ℕ) where
  -- t leads from p to q
  unfoldable pub leads_to : Profile → ℕ → ℕ → Bool
  leads_to t p q = cell W t.arrows p q

  -- p to q is marked in t
  unfoldable pub marked : Profile → ℕ → ℕ → Bool
  marked t p q = cell W t.marks p q

  -- one profile joined with the next: from p to q through any r that s leads to and t leads on from; marked where s or t marks its part of
  -- the way through one such r
  unfoldable pub join : Profile → Profile → Profile
  join s t =
      record {
        arrows = grid W (λ p q. some_below W (λ r. leads_to s p r && leads_to t r q));
        marks = grid W (λ p q. some_below W (λ r. leads_to s p r && leads_to t r q && (marked s p r || marked t r q)));
      }

  -- all states to which t leads from a state of P
  unfoldable pub image : ℕ → Profile → ℕ
  image P t = number_of_bits W (λ q. some_below W (λ p. bit P p && leads_to t p q))

  -- the image of P under t is P itself, and t joined with itself is t
  unfoldable pub is_fitting : ℕ → Profile → Bool
  is_fitting P t = eqb (image P t) P && same_profile (join t t) t

  -- t leads some state of P back to itself with a mark
  unfoldable pub marks_a_round : ℕ → Profile → Bool
  marks_a_round P t = some_below W (λ r. bit P r && marked t r r)

  -- a fitting pair with no such state
  unfoldable pub is_rejecting_pair : ℕ → Profile → Bool
  is_rejecting_pair P t = is_fitting P t && not (marks_a_round P t)

  -- WHAT THE FIRST REJECTING PAIR IS, by set number i and then profile number j
  pub record FirstPair (Ps : List ℕ) (ts : List Profile) (i j : ℕ) : Type 0 where
    pub P : ℕ
    pub t : Profile
    pub set_at : get_elem? Ps i ≡ some P
    pub profile_is_at : get_elem? ts j ≡ some t
    pub rejecting : is_rejecting_pair P t ≡ true
    -- no profile before it rejects with P, and none at all with a set before P
    pub first_profile : (m : ℕ) (s : Profile) → m < j → get_elem? ts m ≡ some s → is_rejecting_pair P s ≡ false
    pub first_set : (l Q : ℕ) → l < i → get_elem? Ps l ≡ some Q → (m : ℕ) (s : Profile) → get_elem? ts m ≡ some s → is_rejecting_pair Q s ≡ false

  -- the number of the first profile that rejects with P; the first of the list has number j
  unfoldable pub rejecting_with : ℕ → List Profile → ℕ → Option ℕ
  rejecting_with P [] j = none
  rejecting_with P (t ∷ ts) j = elim (is_rejecting_pair P t) [ true ↦ some j | false ↦ rejecting_with P ts (suc j) ]

  -- the first pair that rejects: the sets in their order, and for each set the profiles in theirs; the first set of the list has number i
  unfoldable pub first_rejecting : List ℕ → List Profile → ℕ → Option (ℕ × ℕ)
  first_rejecting [] ts i = none
  first_rejecting (P ∷ Ps) ts i = elim (rejecting_with P ts 0) [ some j ↦ some (i, j) | none ↦ first_rejecting Ps ts (suc i) ]

  -- THE VERDICT of two complete tables: covered, or u and v, the least words of the first rejecting pair
  unfoldable pub verdict : List (Entry ℕ) → List (Entry Profile) → Verdict
  verdict sets profiles =
      elim (first_rejecting (values sets) (values profiles) 0) [
        | none ↦ covered
        | some pair ↦ uncovered (word_of sets pair.0) (word_of profiles pair.1)
      ]

-- a path is marked if one of its arrows arrives at a home state
unfoldable pub marked_path : {S : Type 0} (M : Machine S) {p q : S} {w : Word} → Path M p w q → Bool
marked_path M stop = false
marked_path M (step {r = r} h rest) = M.home r || marked_path M rest

module _ (W : ℕ) (M : Machine ℕ) where
  -- the set of the empty word: the start states
  unfoldable pub start_set : ℕ
  start_set = number_of_bits W M.start

  -- all states that event a reaches from a state of P
  unfoldable pub after : ℕ → ℕ → ℕ
  after P a = number_of_bits W (λ q. some_below W (λ p. bit P p && M.arrow p a q))

  -- the set of a word, from the set P of what was read before it
  unfoldable pub set_from : ℕ → Word → ℕ
  set_from P [] = P
  set_from P (a ∷ w) = set_from (after P a) w

  -- the set of a word
  unfoldable pub word_set : Word → ℕ
  word_set w = set_from start_set w

  -- WHAT A SET MEANS: all states that a path reading the word reaches from a start state
  pub record SetMeans (w : Word) (P : ℕ) : Type 0 where
    pub reached : (p q : ℕ) → M.start p ≡ true → Path M p w q → bit P q ≡ true
    pub only_reached : (q : ℕ) → bit P q ≡ true → (p : ℕ) × (M.start p ≡ true) × Path M p w q

  -- the profile of one event: an arrow is marked when it arrives at a home state
  unfoldable pub event_profile : ℕ → Profile
  event_profile a =
      record {
        arrows = grid W (λ p q. M.arrow p a q);
        marks = grid W (λ p q. M.arrow p a q && M.home q);
      }

  -- the profile of a word with one event more, from that of the word; the empty word has none
  unfoldable pub next_profile : Option Profile → ℕ → Profile
  next_profile none a = event_profile a
  next_profile (some t) a = join W t (event_profile a)

  -- the profile of a word, from the profile x of what was read before it
  unfoldable pub profile_from : Option Profile → Word → Option Profile
  profile_from x [] = x
  profile_from x (a ∷ w) = profile_from (some (next_profile x a)) w

  -- the profile of a word
  unfoldable pub word_profile : Word → Option Profile
  word_profile w = profile_from none w

  -- WHAT A PROFILE MEANS: its bits are set exactly where a path reads the word, and where a marked one does
  pub record ProfileMeans (w : Word) (t : Profile) : Type 0 where
    pub path : (p q : ℕ) → p < W → q < W → Path M p w q → leads_to W t p q ≡ true
    pub only_path : (p q : ℕ) → p < W → q < W → leads_to W t p q ≡ true → Path M p w q
    pub path_is_marked : (p q : ℕ) → p < W → q < W → (s : Path M p w q) → marked_path M s ≡ true → marked W t p q ≡ true
    pub only_marked_path : (p q : ℕ) → p < W → q < W → marked W t p q ≡ true → (s : Path M p w q) × (marked_path M s ≡ true)
    -- and neither number has any other bit
    pub arrows_below : t.arrows < 2 ^ (W * W)
    pub marks_below : t.marks < 2 ^ (W * W)

  -- the values of the two tables. Every word has a set, so the first case of the next set never arises
  unfoldable pub next_set : Option ℕ → ℕ → ℕ
  next_set none a = 0
  next_set (some P) a = after P a

  unfoldable pub set_value : WordValue ℕ
  set_value = record { of = λ w. some (word_set w); next = next_set; same = eqb }

  unfoldable pub profile_value : WordValue Profile
  profile_value = record { of = word_profile; next = next_profile; same = same_profile }

  -- WHAT THE TWO TABLES HOLD, over k events
  abbrev pub HoldsSets : ℕ → List (Entry ℕ) → Type 0
  HoldsSets k entries = Holds set_value k entries

  abbrev pub HoldsProfiles : ℕ → List (Entry Profile) → Type 0
  HoldsProfiles k entries = Holds profile_value k entries

  -- HOW THEY ARE MADE, with a room
  unfoldable pub set_table : ℕ → ℕ → Table ℕ
  set_table k room = made set_value k room

  unfoldable pub profile_table : ℕ → ℕ → Table Profile
  profile_table k room = made profile_value k room
