-- The gate's flag is written, and the zeros behind it.
use Prim.Native.Nat.{ℕ, ◌+◌, ◌≤◌}
use native.Mathlib.Omega.{arith}
use mathlib.Core.Path.{◌≡◌, sym, ap, ◌∙◌}
use mathlib.Core.List.{List, [], ◌∷◌}
use lib.ListN.{length, set, replicate, length-replicate}
use borrow.Author.Rules.{rules}
use borrow.Rule.Slice.PartMut.{put_mid}
use Rattle.laws.specs.Answers.{over}
use Rattle.opposite.specs.Memory.{put_at}
use Rattle.opposite.proofs.Writing.{put_one, put_both}
use Rattle.opposite.proofs.flags.block_flags.Goals as goal

-- a part of a slice that was written was put there
part_put : (n k : ℕ) (xs ys : List ℕ) → k ≡ length ys → put_mid n k xs ys ≡ put_at n ys xs
unfolding put_at over
part_put n k xs ys e = rw e

-- behind the gate's flag
block_put : (n m k : ℕ) (flags : List ℕ) → k ≡ m → n + 1 + m ≤ length flags
    → put_mid (n + 1) k (set flags n 1) (replicate m 0) ≡ put_at n (1 ∷ replicate m 0) flags
block_put n m k flags e room =
    part_put (n + 1) k (set flags n 1) (replicate m 0) (e ∙ sym (length-replicate m 0))
    ∙ ap (λ xs. put_at (n + 1) (replicate m 0) xs) (put_one n flags 1 (omega arith))
    ∙ put_both n flags (1 ∷ []) (replicate m 0) (omega arith)

pub returns : goal.returns
returns c =
    let m = c.args.profiles in
    let zeros : c.fill.new.self ≡ replicate m 0 = search rules in
    rw zeros (block_put c.args.n m _ c.args.flags.now (omega arith) c.requires)
