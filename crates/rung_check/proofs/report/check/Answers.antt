-- The tables and the word memory have the room that document 01 asks, so the lines of the answer are those of the model.
use native.Mathlib.Omega.{arith}
use mathlib.Core.Path.{refl}
use Rattle.laws.specs.Answers.{room_for_sets, room_for_profiles}
use Rattle.cover.proofs.Promises.{words_within}
use Rattle.rung_check.proofs.Pieces.{adds_same}
use Rattle.rung_check.proofs.Reporting.{lines_of_answer}
use Rattle.rung_check.proofs.report.check.Goals as goal

pub put_answer-requires : goal.put_answer-requires
put_answer-requires c = omega (arith, words_within c.verdict-answer.ensures.verdict)

pub returns : goal.returns
unfolding room_for_sets room_for_profiles
returns c = adds_same (lines_of_answer c.verdict-answer.ensures.verdict refl refl refl) c.put_answer.ensures
