-- The loop keeps that all of t is in c, and that c has nothing but t repeated; where a turn changes nothing, c has all of that. Other turns
-- make both numbers together greater, and they stay below 2^65.
use Prim.Native.Nat.{◌<◌}
use native.Mathlib.Omega.{arith}
use mathlib.Core.Path.{◌≡◌, sym, ap, ◌∙◌}
use mathlib.Core.Bool.{true, false}
use Rattle.laws.specs.Profiles.{Profile, same_profile, join}
use Rattle.laws.specs.Repeats.{union, MarksLed, Repeats}
use Rattle.laws.proofs.Joins.{same_equal}
use Rattle.laws.proofs.Repeats.{Grown, grown_start, grown_turn, grown_end, union_grows}
use Rattle.profile.specs.Values.{profile}
use Rattle.course.proofs.repeated.Invariants.{room}
use Rattle.course.proofs.repeated.Goals as goal

module _ {t c twice grown : Profile} (g : Grown 8 t c) (j : twice ≡ join 8 c c) (u : grown ≡ union 8 c twice) where
  united : grown ≡ union 8 c (join 8 c c)
  united = u ∙ ap (union 8 c) j

  again : MarksLed 8 t → Grown 8 t grown
  again led = rw united (grown_turn 8 g led)

  falls : same_profile grown c ≡ false → room grown < room c
  falls other =
      let small = g.small in
      let more = union_grows 8 c (join 8 c c) small (rw united at other) in
      rw united (omega arith)

  done : same_profile grown c ≡ true → Repeats 8 t c
  done same = grown_end 8 g (sym united ∙ same_equal grown c same)

pub loop-grown-init : goal.loop-grown-init
loop-grown-init c = grown_start 8 (profile c.args.t) (record { arrows_below = omega arith; marks_below = omega arith })

pub returns-then-is_same : goal.returns-then-is_same
returns-then-is_same c =
    done c.loop-grown.invariant c.join.ensures c.union-grown.ensures (sym c.is_same.ensures ∙ c.if-is_same.true)

pub loop-grown-smaller : goal.loop-grown-smaller
loop-grown-smaller c =
    falls c.loop-grown.invariant c.join.ensures c.union-grown.ensures (sym c.is_same.ensures ∙ c.if-is_same.false)

pub loop-grown-preserved : goal.loop-grown-preserved
loop-grown-preserved c =
    again c.loop-grown.invariant c.join.ensures c.union-grown.ensures c.requires
