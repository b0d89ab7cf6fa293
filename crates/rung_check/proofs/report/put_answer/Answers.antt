-- Each case of the answer has its lines: the counts and the verdict, behind it u and v, or a refusal.
use mathlib.Core.Path.{◌≡◌}
use borrow.Author.Rules.{rules}
use Rattle.std.proofs.Common.{Ok}
use Rattle.laws.specs.Program.{verdict_lines, answer_lines}
use Rattle.cover.specs.Verdicts.{told, given}
use Rattle.cover.specs.declared.answer.Answer.TheVariants.{Covered, Uncovered}
use Rattle.rung_check.proofs.Pieces.{adds_both}
use Rattle.rung_check.proofs.report.put_answer.Goals as goal

pub returns-in-Ok-Covered : goal.returns-in-Ok-Covered
unfolding told given answer_lines verdict_lines
returns-in-Ok-Covered c =
    let is : c.args.answer ≡ Ok (Covered c.in-Ok-Covered.sets c.in-Ok-Covered.profiles) = search rules in
    rw is (adds_both c.put_counts.ensures c.put_text.ensures)

pub returns-in-Ok-Uncovered : goal.returns-in-Ok-Uncovered
unfolding told given answer_lines verdict_lines
returns-in-Ok-Uncovered c =
    let is : c.args.answer ≡ Ok (Uncovered c.in-Ok-Uncovered.sets c.in-Ok-Uncovered.profiles c.in-Ok-Uncovered.u c.in-Ok-Uncovered.v) =
    search rules in
    rw (is, ← c.split_at.ensures.front, ← c.split_at.ensures.back)
    (adds_both c.put_counts-in-Ok-Uncovered.ensures
    (adds_both (adds_both c.put_text-in-Ok-Uncovered.ensures c.put_word.ensures) c.put_word-in-Ok-Uncovered.ensures))

pub returns-in-Err : goal.returns-in-Err
unfolding told given answer_lines
returns-in-Err c = rw (c.in-Err.is, ← c.from.ensures, ← c.from-in-Err.ensures) c.put_count.ensures
