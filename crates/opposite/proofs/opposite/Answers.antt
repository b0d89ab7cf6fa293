-- After closing each return is one of two cases: a refusal, or what is drawn from the first places of the slices, where closing left the
-- complete tables.
use native.Mathlib.Omega.{arith}
use mathlib.Core.Path.{◌≡◌}
use Rattle.std.specs.Prelude.{Option as Maybe, None, Err}
use Rattle.std.specs.Option.{ok_or}
use Rattle.closing.specs.declared.Refused.{Refused}
use Rattle.opposite.specs.declared.counts.Counts.{Counts}
use Rattle.closing.proofs.Promises.{sets_stand, profiles_stand}
use Rattle.opposite.proofs.Concluding.{passed_on, refuses, unrefused, draws}
use Rattle.opposite.proofs.opposite.Goals as goal

-- a refusal in place of what was not drawn
refused_with : {drawn : Maybe Counts} {e r : Refused} → Err e ≡ ok_or drawn r → drawn ≡ None → e ≡ r
refused_with v n = let same = rw n at v in cc

pub returns-in_err-closed-clause-opposite : goal.returns-in_err-closed-clause-opposite
returns-in_err-closed-clause-opposite c =
    rw (passed_on _ _ c.from_residual.ensures) (refuses _ c.in_err-closed.field-0.0 c.in_err-closed.ensures.closing)

pub invariant_of-asked : goal.invariant_of-asked
invariant_of-asked c = record { unrefused = unrefused c.in_ok-closed.ensures.closing }

pub tables_of-tables-requires-clause-sets : goal.tables_of-tables-requires-clause-sets
tables_of-tables-requires-clause-sets c =
    let s = sets_stand c.in_ok-closed.ensures.closing in
    omega arith

pub tables_of-tables-requires-clause-profiles : goal.tables_of-tables-requires-clause-profiles
tables_of-tables-requires-clause-profiles c =
    let s = profiles_stand c.in_ok-closed.ensures.closing in
    (omega arith, omega arith)

pub tables_of-tables-requires-clause-few : goal.tables_of-tables-requires-clause-few
tables_of-tables-requires-clause-few c =
    let s = sets_stand c.in_ok-closed.ensures.closing in
    let t = profiles_stand c.in_ok-closed.ensures.closing in
    (omega arith, omega arith)

pub returns-in_err-drawn-clause-opposite : goal.returns-in_err-drawn-clause-opposite
returns-in_err-drawn-clause-opposite c =
    let e = c.tables_of-tables.ensures in
    let o = c.in_err-drawn.ensures in
    let d = rw (e.asked, e.masks, e.arrows, e.marks, o.ok_part) at c.draw.ensures.draws in
    rw (passed_on _ _ c.from_residual-in_err-drawn.ensures, refused_with o.value o.ok_part) (draws c.in_ok-closed.ensures.closing d)

pub returns-clause-opposite : goal.returns-clause-opposite
returns-clause-opposite c =
    let e = c.tables_of-tables.ensures in
    let d = rw (e.asked, e.masks, e.arrows, e.marks, c.in_ok-drawn.ensures.ok_part) at c.draw.ensures.draws in
    draws c.in_ok-closed.ensures.closing d
