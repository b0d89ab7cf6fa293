-- Each return is one of the four cases of the answer. What `map_err` ensures says of each what closing the table answered.
use Rattle.std.proofs.Common.{rules, ◌≡◌, Ok, Err}
use Rattle.model.specs.declared.refusals.Refusal.TheVariants.{MoreSets, MoreProfiles}
use Rattle.model.proofs.Numbers.{some_number}
use Rattle.closing.proofs.Filling.{passed_on}
use Rattle.closing.proofs.Answering.{refused, more_sets, more_profiles, complete}
use Rattle.closing.proofs.close.Goals as goal

pub returns-clause-closing : goal.returns-clause-closing
returns-clause-closing c =
    let all_sets : c.close.result ≡ Ok c.in_ok-sets.sets = search rules in
    let all_profiles : c.close-2.result ≡ Ok c.in_ok-profiles.profiles = search rules in
    let sets = rw all_sets at c.close.ensures.fills in
    let profiles = rw all_profiles at c.close-2.ensures.fills in
    complete _ _ _ _ c.in_ok-m.m c.in_ok-m.ensures.checked c.in_ok-m.ensures.number sets profiles

pub returns-in_err-m-clause-closing : goal.returns-in_err-m-clause-closing
returns-in_err-m-clause-closing c =
    rw (passed_on _ c.from_residual.ensures) (refused _ _ _ _ _ c.in_err-m.ensures.number (some_number _))

pub returns-in_err-sets-clause-closing : goal.returns-in_err-sets-clause-closing
returns-in_err-sets-clause-closing c =
    let r = c.in_err-sets.field-0.0 in
    let is : r ≡ record { refusal = MoreSets; sets = r.sets; profiles = 0 } = search rules in
    let cut : c.close.result ≡ Err (record { count = r.sets }) = search rules in
    let sets = rw cut at c.close.ensures.fills in
    rw (passed_on _ c.from_residual-in_err-sets.ensures, is)
    (more_sets _ _ _ _ c.in_ok-m.m c.in_ok-m.ensures.checked c.in_ok-m.ensures.number sets)

pub returns-in_err-profiles-clause-closing : goal.returns-in_err-profiles-clause-closing
returns-in_err-profiles-clause-closing c =
    let r = c.in_err-profiles.field-0.0 in
    let is : r ≡ record { refusal = MoreProfiles; sets = c.in_ok-sets.sets; profiles = r.profiles } = search rules in
    let all : c.close.result ≡ Ok c.in_ok-sets.sets = search rules in
    let cut : c.close-2.result ≡ Err (record { count = r.profiles }) = search rules in
    let sets = rw all at c.close.ensures.fills in
    let profiles = rw cut at c.close-2.ensures.fills in
    rw (passed_on _ c.from_residual-in_err-profiles.ensures, is)
    (more_profiles _ _ _ _ c.in_ok-m.m c.in_ok-m.ensures.checked c.in_ok-m.ensures.number sets profiles)
