-- Document 01, "The program and the host": the bytes that the program prints for the bytes of a file. Texts are in ASCII.
use Rattle.std.specs.Prelude.{ℕ, zero, suc, ◌+◌, ◌/◌, ◌%◌, cond, List, [], ◌∷◌, ◌++◌, length, ltb}
use Rattle.std.proofs.Math.Option.{Option, none, some}
use Rattle.laws.specs.Words.{Word}
use Rattle.laws.specs.Model.{eight}
use Rattle.laws.specs.Profiles.{Verdict, covered, uncovered}
use Rattle.laws.specs.Refusals.{Fault}
use Rattle.laws.specs.File.{Reading, reading}
use Rattle.laws.specs.Answers.{VerdictAnswer, verdict_answer}

-- a number in decimal digits, the highest first, none of them a leading zero: at most so many, which is all that a smaller number has
unfoldable pub digits_within : ℕ → ℕ → List ℕ
digits_within zero n = []
digits_within (suc most) n = cond (ltb n 10) [] (digits_within most (n / 10)) ++ ((48 + n % 10) ∷ [])

-- a number of 64 bits has at most twenty
unfoldable pub decimal : ℕ → List ℕ
decimal n = digits_within 20 n

-- a space, and the end of a line
abbrev pub space : ℕ
space = 32

abbrev pub line_end : List ℕ
line_end = 10 ∷ []

-- "sets ", "profiles ", "covered", "uncovered", "refused " and " at "
abbrev pub sets_text : List ℕ
sets_text = 115 ∷ 101 ∷ 116 ∷ 115 ∷ 32 ∷ []

abbrev pub profiles_text : List ℕ
profiles_text = 112 ∷ 114 ∷ 111 ∷ 102 ∷ 105 ∷ 108 ∷ 101 ∷ 115 ∷ 32 ∷ []

abbrev pub covered_text : List ℕ
covered_text = 99 ∷ 111 ∷ 118 ∷ 101 ∷ 114 ∷ 101 ∷ 100 ∷ []

abbrev pub uncovered_text : List ℕ
uncovered_text = 117 ∷ 110 ∷ 99 ∷ 111 ∷ 118 ∷ 101 ∷ 114 ∷ 101 ∷ 100 ∷ []

abbrev pub refused_text : List ℕ
refused_text = 114 ∷ 101 ∷ 102 ∷ 117 ∷ 115 ∷ 101 ∷ 100 ∷ 32 ∷ []

abbrev pub at_text : List ℕ
at_text = 32 ∷ 97 ∷ 116 ∷ 32 ∷ []

-- each event after a space
unfoldable pub letters : Word → List ℕ
letters [] = []
letters (a ∷ w) = (space ∷ decimal a) ++ letters w

-- the line of a word, behind its name u or v
unfoldable pub word_line : ℕ → Word → List ℕ
word_line name w = (name ∷ letters w) ++ line_end

-- the line of a count, behind its text
unfoldable pub count_line : List ℕ → ℕ → List ℕ
count_line text n = text ++ decimal n ++ line_end

-- "covered" ends the report; behind "uncovered" stand u and v
unfoldable pub verdict_lines : Verdict → List ℕ
verdict_lines covered = covered_text ++ line_end
verdict_lines (uncovered u v) = (uncovered_text ++ line_end) ++ word_line 117 u ++ word_line 118 v

-- THE LINES OF AN ANSWER: the number of sets, the number of profiles and the verdict; or one line for a refusal
unfoldable pub answer_lines : ℕ → ℕ → ℕ → Option Verdict → List ℕ
answer_lines number sets profiles none = count_line refused_text number
answer_lines number sets profiles (some x) = count_line sets_text sets ++ count_line profiles_text profiles ++ verdict_lines x

-- the line of a fault in the file: the number, and where
unfoldable pub fault_line : Fault → List ℕ
fault_line f = refused_text ++ decimal f.number ++ count_line at_text f.offset

-- the same of an answer of the verdict
unfoldable pub told : VerdictAnswer → List ℕ
told d = answer_lines d.number (length d.sets) (length d.profiles) d.verdict

-- WHAT IS PRINTED FOR A FILE: the reader's refusal, or what the verdict says with tables of 256 sets, 2,048 profiles and 2,304 bytes
unfoldable pub printed : List ℕ → List ℕ
printed file =
    let r : Reading = reading file 16 in
    elim r.fault.number [
      | suc n ↦ fault_line r.fault
      | zero ↦ told (verdict_answer eight r.model 256 2048 2304)
    ]
