-- What the verdict ensures, for every model, every slice and every word memory: the answer, all memory, and demand 2.
use Rattle.std.specs.Prelude.{ℕ, ◌≡◌, Bool, true, false, Result, Ok, Err, List, length, take, drop}
use Rattle.std.proofs.Math.Option.{Option, none, some}
use Rattle.laws.specs.Model.{eight, machine}
use Rattle.laws.specs.Profiles as paper
use Rattle.laws.specs.Answers.{SetSlices, ProfileSlices, ClosingAnswer, VerdictAnswer, u_and_v, verdict_from, verdict_in, word_memory}
use Rattle.model.specs.Asked.{asked}
use Rattle.model.specs.Numbers.{number_of}
use Rattle.closing.specs.Memory.{sets_in, profiles_in}
use Rattle.closing.specs.Closing.{Closed, Closing}
use Rattle.model.specs.declared.Model.{Model}
use Rattle.closing.specs.declared.Refused.{Refused}
use Rattle.cover.specs.declared.answer.Answer.{Answer}
use Rattle.cover.specs.declared.answer.Answer.TheVariants.{Covered, Uncovered}

-- what an answer tells: document 01's number, both counts, whether it is "covered", where a verdict is given, and the lengths of u and v
pub record Told : Type 0 where
  pub number : ℕ
  pub sets : ℕ
  pub profiles : ℕ
  pub covered : Option Bool
  pub u : ℕ
  pub v : ℕ

-- THE NUMBER AND THE VALUES of each case of the answer
unfoldable pub told : Result Answer Refused → Told
told (Ok (Covered s p)) = record { number = 0; sets = s; profiles = p; covered = some true; u = 0; v = 0 }
told (Ok (Uncovered s p u v)) = record { number = 0; sets = s; profiles = p; covered = some false; u = u; v = v }
told (Err x) = record { number = number_of x.refusal; sets = x.sets; profiles = x.profiles; covered = none; u = 0; v = 0 }

-- whether a verdict is "covered"
unfoldable pub is_covered : Option paper.Verdict → Option Bool
is_covered none = none
is_covered (some paper.covered) = some true
is_covered (some (paper.uncovered u v)) = some false

-- what document 01's answer tells
unfoldable pub tells : VerdictAnswer → Told
tells d =
    record {
      number = d.number;
      sets = length d.sets;
      profiles = length d.profiles;
      covered = is_covered d.verdict;
      u = length (u_and_v d.verdict).0;
      v = length (u_and_v d.verdict).1;
    }

-- THE VERDICT THAT IS GIVEN by an answer and the word memory beside it: u is in its first places, and v behind u
unfoldable pub given : Result Answer Refused → List ℕ → Option paper.Verdict
given (Ok (Covered s p)) memory = some paper.covered
given (Ok (Uncovered s p u v)) memory = some (paper.uncovered (take u memory) (take v (drop u memory)))
given (Err x) memory = none

module _ (m : Model) (arrows : List ℕ) where
  -- the answer of document 01 for these slices and this word memory
  abbrev pub due : SetSlices → ProfileSlices → List ℕ → VerdictAnswer
  due S T memory = verdict_in eight (asked m arrows) S T memory

  -- THE CONTRACT OF THE VERDICT: S, T and memory are as they were lent, S', T' and memory' as they are left
  pub record GivesVerdict (S S' : SetSlices) (T T' : ProfileSlices) (memory memory' : List ℕ) (answer : Result Answer Refused)
      : Type 0 where
    -- what closing answers here, and by its contract what stands in the slices of sets and profiles
    pub closed : Closed
    pub closing : Closing m arrows S S' T T' closed
    -- the number, the counts, the verdict and the lengths
    pub answered : told answer ≡ tells (due S T memory)
    -- the word memory: u and v, then what stood there before
    pub word_memory_is : memory' ≡ word_memory (due S T memory) memory
    -- DEMAND 2: with number 0 a verdict is given, and it is right: "covered" exactly if every course is accepted, and otherwise the u and v
    -- that now stand in the word memory are a course that is not
    pub right : (told answer).number ≡ 0
        → (x : paper.Verdict) × (given answer memory' ≡ some x) × paper.RightVerdict (machine 8 (asked m arrows)) m.k x

-- all entries of slices that hold nothing else, as closing answers them without refusal
unfoldable pub wholly : SetSlices → ProfileSlices → ClosingAnswer
wholly S T = record { number = 0; sets = sets_in S (length S.masks); profiles = profiles_in T (length T.arrows) }

-- the answer and the word memory are what follows from them
pub record Concludes (S : SetSlices) (T : ProfileSlices) (memory memory' : List ℕ) (answer : Result Answer Refused) : Type 0 where
  pub answered : told answer ≡ tells (verdict_from 8 (wholly S T) (length memory))
  pub word_memory_is : memory' ≡ word_memory (verdict_from 8 (wholly S T) (length memory)) memory
