-- After closing each return is one of two cases: its refusal, or what follows from the first places of the slices, where it left the
-- complete tables.
use Rattle.std.proofs.lemmas.Result.{err_from_is_err_and}
use Rattle.closing.proofs.Promises.{sets_stand, profiles_stand}
use Rattle.cover.proofs.Verdicts.{refuses, sets_linked, profiles_linked, gives_concluded}
use Rattle.cover.proofs.verdict.Goals as goal

pub returns-in_err-complete-clause-verdict : goal.returns-in_err-complete-clause-verdict
returns-in_err-complete-clause-verdict c =
    let p = err_from_is_err_and c.from_residual.result c.from_residual.ensures.1 in
    rw (p.1, p.2) (refuses _ c.in_err-complete.ensures.closing)

pub stored-sets-requires : goal.stored-sets-requires
stored-sets-requires c =
    let closed = c.in_ok-complete.ensures.closing in
    record { there = (_, sets_stand closed); linked = sets_linked closed }

pub stored-profiles-requires : goal.stored-profiles-requires
stored-profiles-requires c =
    let closed = c.in_ok-complete.ensures.closing in
    record { there = (_, profiles_stand closed); linked = profiles_linked closed }

pub returns-clause-verdict : goal.returns-clause-verdict
returns-clause-verdict c =
    gives_concluded c.in_ok-complete.ensures.closing
    (rw (c.stored-sets.ensures, c.stored-profiles.ensures) at c.conclude.ensures)
