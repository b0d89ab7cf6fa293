-- The next block fits and its profile is its own square, as it is the first of those left, and so are those behind it.
use lib.ListN.{length}
use Prim.Native.Nat.{◌+◌}
use native.Mathlib.Omega.{arith}
use Rattle.opposite.proofs.Rows.{next_fits, next_squares}
use Rattle.opposite.proofs.arrows.BlocksIterator.next.Goals as goal

pub invariant_of-self : goal.invariant_of-self
invariant_of-self c =
    let s = c.args.self.now in
    record {
      fits = rw c.len.ensures (next_fits (length s.shown.tables.now.profiles.arrows.now + 1) s.gate c.in_ok-j.ensures.first s.fits);
      squares = (next_squares c.in_ok-j.ensures.first s.squares).1;
    }

pub invariant_of-result : goal.invariant_of-result
invariant_of-result c =
    let s = c.args.self.now in
    let fits = next_fits (length s.shown.tables.now.profiles.arrows.now + 1) s.gate c.in_ok-j.ensures.first s.fits in
    record {
      fits = omega arith;
      square = rw c.at.ensures ((next_squares c.in_ok-j.ensures.first s.squares).0);
    }
