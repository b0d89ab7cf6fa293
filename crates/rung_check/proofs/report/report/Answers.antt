-- There is room for all of it.
use native.Mathlib.Omega.{arith}
use borrow.Author.Rules.{rules}
use Rattle.laws.proofs.Theorems.{report_is_short}
use Rattle.rung_check.proofs.Pieces.{adds_whole}
use Rattle.rung_check.proofs.report.report.Goals as goal

pub returns : goal.returns
returns c =
    adds_whole c.new-text.ensures.slice c.new-text.ensures.empty (omega (arith, report_is_short c.args.file.now)) c.put_report.ensures (search rules)
