-- Where the set itself is marked nowhere, the test of where all repeats lead it decides.
use mathlib.Core.Path.{sym, ◌∙◌}
use Rattle.course.proofs.Judging.{then_led}
use Rattle.course.proofs.words.Course.is_accepted.Goals as goal

pub returns-else-marks_round : goal.returns-else-marks_round
returns-else-marks_round c =
    then_led c.args.self.now c.profile_of_round.ensures c.set_of_beginning-set.ensures _ c.repeated-all.ensures
    c.marks_round-else-marks_round.ensures c.image.ensures (sym c.marks_round.ensures ∙ c.if-marks_round.false)
