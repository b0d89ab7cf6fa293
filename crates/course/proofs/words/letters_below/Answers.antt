-- The chain's test holds exactly if each letter passes it.
use Rattle.std.proofs.Common.{rules}
use Rattle.std.specs.Prelude.{IsTrue, EachIndex, ◌↔◌, ◌<◌, slice_index}
use Rattle.course.proofs.Judging.{all_below}
use Rattle.course.proofs.words.letters_below.Goals as goal

pub returns : goal.returns
returns c =
    let each : IsTrue c.all.result ↔ EachIndex c.args.w.now (λ i. slice_index c.args.w.now i < c.args.k) = search rules in
    all_below _ _ each
