-- Each turn takes some bytes from the input and puts them behind those that stand first; a read that fails takes none.
use Rattle.std.proofs.Common.{◌≡◌, ℕ, ◌+◌, ◌≤◌, List, ◌++◌, Option, Result, Ok, Err, length, take, arith, rules, le_refl, [], ap, ap₂, ◌∙◌, drop_at, length-take-le}
use Rattle.std.proofs.lemmas.Slice.{take-put_mid_below}
use Rattle.std.proofs.KnownBytes.{Consumes-nil, Consumes-kept, Consumes-trans}
use Rattle.std.specs.Io.{ReadsAtMost}
use Rattle.std.specs.Io.KnownBytes.{Consumes, ReadConsumes}
use Rattle.std.specs.Result.{result_unwrap_or}
use borrow.Rule.Slice.PartMut.{put_mid, post_of}
use lib.Seq.{take-add, take-append-le}
use Rattle.rung_check.proofs.read_start.Goals as goal

-- what a read took, none where it failed, and that there was room for it
taken : {E : Type 0} (old new : Option (List ℕ)) (r : Result ℕ E) (part : List ℕ) → ReadConsumes old new r part
    → Consumes old new (take (result_unwrap_or r 0) part)
taken old new (Ok n) part bytes = bytes.0
taken old new (Err e) part kept = Consumes-kept old old new [] (Consumes-nil old) kept

fits : {E : Type 0} (r : Result ℕ E) (part : List ℕ) → ReadsAtMost r part → result_unwrap_or r 0 ≤ length part
fits (Ok n) part bound = bound.0
fits (Err e) part bound = omega arith

-- behind the first `at` stand the first n of what was put there
behind : (at k n : ℕ) (whole part : List ℕ) → at ≤ length whole → n ≤ length part
    → take (at + n) (put_mid at k whole part) ≡ take at whole ++ take n part
behind at k n whole part within few =
    let rest = part ++ post_of at k whole in
    take-add at n (put_mid at k whole part)
    ∙ ap₂ (λ x y. x ++ y) (take-put_mid_below at k whole part at (le_refl at) within)
    (ap (take n) (drop_at (take at whole) rest at (length-take-le at whole within)) ∙ take-append-le n part (post_of at k whole) few)

pub loop-count-preserved : goal.loop-count-preserved
loop-count-preserved g c =
    let more = c.unwrap_or-more.ensures in
    let few : c.unwrap_or-more.result ≤ length c.read.new.buf = rw more (fits c.read.result c.read.new.buf c.read.ensures.bound) in
    let took = rw (← more) at (taken _ _ c.read.result c.read.new.buf c.read.ensures.bytes) in
    record {
      within = search rules;
      bytes = rw (behind _ _ _ _ _ c.loop-count.invariant.within few) (Consumes-trans _ _ _ _ _ c.loop-count.invariant.bytes took);
    }
