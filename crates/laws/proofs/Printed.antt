-- What is printed for files, computed of the definitions: document 01's five lines for C, a covered model, and refusals of the reader.
-- Assumes nothing.
use mathlib.Core.Path.{◌≡◌, refl}
use mathlib.Core.List.{[], ◌∷◌, ◌++◌}
use lib.ListN.{take}
use Rattle.laws.specs.File.{file_of}
use Rattle.laws.specs.Program.{digits_within, decimal, letters, word_line, count_line, verdict_lines}
use Rattle.laws.specs.Program.{answer_lines, fault_line, told, printed}
use Rattle.laws.specs.HandWorked.{A, C}
use Rattle.laws.proofs.Computed.{computed}

-- sets 2 | profiles 3 | uncovered | u | v 1
c_printed : printed (file_of C)
    ≡ 115 ∷ 101 ∷ 116 ∷ 115 ∷ 32 ∷ 50 ∷ 10
    ∷ 112 ∷ 114 ∷ 111 ∷ 102 ∷ 105 ∷ 108 ∷ 101 ∷ 115 ∷ 32 ∷ 51 ∷ 10
    ∷ 117 ∷ 110 ∷ 99 ∷ 111 ∷ 118 ∷ 101 ∷ 114 ∷ 101 ∷ 100 ∷ 10
    ∷ 117 ∷ 10
    ∷ 118 ∷ 32 ∷ 49 ∷ 10
    ∷ []
unfolding computed digits_within decimal letters word_line count_line verdict_lines answer_lines fault_line told printed
c_printed = refl

-- sets 1 | profiles 1 | covered
a_printed : printed (file_of A)
    ≡ 115 ∷ 101 ∷ 116 ∷ 115 ∷ 32 ∷ 49 ∷ 10
    ∷ 112 ∷ 114 ∷ 111 ∷ 102 ∷ 105 ∷ 108 ∷ 101 ∷ 115 ∷ 32 ∷ 49 ∷ 10
    ∷ 99 ∷ 111 ∷ 118 ∷ 101 ∷ 114 ∷ 101 ∷ 100 ∷ 10
    ∷ []
unfolding computed digits_within decimal letters word_line count_line verdict_lines answer_lines fault_line told printed
a_printed = refl

-- C's file cut in its end field: refused 8 at 28
c_cut_printed : printed (take 30 (file_of C))
    ≡ 114 ∷ 101 ∷ 102 ∷ 117 ∷ 115 ∷ 101 ∷ 100 ∷ 32 ∷ 56 ∷ 32 ∷ 97 ∷ 116 ∷ 32 ∷ 50 ∷ 56 ∷ 10 ∷ []
unfolding computed digits_within decimal letters word_line count_line verdict_lines answer_lines fault_line told printed
c_cut_printed = refl

-- numbers with one digit and more, with a zero inside and at the end
numbers_printed : decimal 0 ++ (32 ∷ decimal 7) ++ (32 ∷ decimal 10) ++ (32 ∷ decimal 255) ++ (32 ∷ decimal 2048)
    ≡ 48 ∷ 32 ∷ 55 ∷ 32 ∷ 49 ∷ 48 ∷ 32 ∷ 50 ∷ 53 ∷ 53 ∷ 32 ∷ 50 ∷ 48 ∷ 52 ∷ 56 ∷ []
unfolding computed digits_within decimal
numbers_printed = refl
