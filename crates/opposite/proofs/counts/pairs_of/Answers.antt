-- A profile that joined with itself is not itself rejects with no set, and any other with the sets that stay unmarked.
use Rattle.std.proofs.Common.{rules, arith, ◌≡◌, sym, ◌∙◌}
use Rattle.std.proofs.iter.runs.Made.{chains}
use Rattle.std.specs.List.{count_by}
use Rattle.opposite.specs.Tables.{remains_unmarked, is_idempotent}
use Rattle.profile.specs.Values.{profile}
use Rattle.opposite.proofs.Adding.{rejects_idempotent, rejects_other, count_none, count_same}
use Rattle.laws.specs.Profiles.{same_profile}
use Rattle.opposite.proofs.counts.pairs_of.Goals as goal

pub returns-then-not-is_same : goal.returns-then-not-is_same
unfolding is_idempotent same_profile
returns-then-not-is_same c =
    count_none _ _ (λ P. rejects_other 8 P _ (rw (← c.join.ensures) (grind arith)))

pub returns : goal.returns
unfolding is_idempotent same_profile
returns c =
    let kept : c.count.result ≡ count_by (λ P. remains_unmarked 8 P (profile c.args.t)) c.args.masks.now = search (rules, chains) in
    kept ∙ sym (count_same _ _ (λ P. rejects_idempotent 8 P _ (rw (← c.join.ensures) (grind arith))) _)
