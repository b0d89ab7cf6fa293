-- Behind the name, the letters before an index are put, and each turn puts the next behind them.
use Prim.Native.Nat.{◌≤◌}
use lib.ListN.{length}
use lib.Seq.{take_all}
use Rattle.laws.specs.Program.{letters, word_line}
use Rattle.rung_check.proofs.Pieces.{adds_nothing, adds_both}
use Rattle.rung_check.proofs.Digits.{letters_next}
use Rattle.rung_check.proofs.text.Text.put_word.Goals as goal

pub loop-letter-init : goal.loop-letter-init
unfolding letters
loop-letter-init c = adds_nothing _

pub loop-letter-preserved : goal.loop-letter-preserved
loop-letter-preserved c =
    rw (letters_next _ _ c.loop-letter-test.true, ← c.from.ensures)
    (adds_both c.loop-letter.invariant (adds_both c.put-in-loop-letter.ensures c.put_number.ensures))

pub returns : goal.returns
unfolding word_line
returns c =
    let all : length c.args.word.now ≤ c.loop-letter.letter-index = c.loop-letter-test.false in
    adds_both (adds_both c.put.ensures (rw take_all at c.loop-letter.invariant)) c.put-2.ensures
