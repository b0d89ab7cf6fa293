-- The second arrows of a block come from its gate and from its states. The loop keeps that those found so far and those of the states that
-- are left are together all.
use Rattle.std.proofs.Common.{◌+◌, arith, ap}
use Rattle.opposite.proofs.Rows.{next_pair, no_pair, profiles_length}
use Rattle.opposite.proofs.Adding.{seconds_begin, seconds_fit, add_next, add_ends}
use Rattle.opposite.proofs.counts.seconds_of.Goals as goal

pub loop-arrows-init : goal.loop-arrows-init
loop-arrows-init c = seconds_begin 8 _ _ _ _ c.returns_of-found.ensures

pub loop-arrows-preserved : goal.loop-arrows-preserved
loop-arrows-preserved c =
    let next = next_pair c.args.tables.now.profiles _ _ _ c.next.new.self _ (cc) (cc) c.loop-arrows.yielded_by c.next.ensures.steps _ c.in-Some.is in
    add_next _ _ c.loop-arrows.invariant _ next (ap (λ n. c.loop-arrows.found + n) c.returns_of-found-in-loop-arrows.ensures)

pub overflow_add-found : goal.overflow_add-found
overflow_add-found c =
    let ps = c.args.tables.now.profiles in
    let next = next_pair ps _ _ _ c.next.new.self _ (cc) (cc) c.loop-arrows.yielded_by c.next.ensures.steps _ c.in-Some.is in
    let found = add_next _ _ c.loop-arrows.invariant _ next (ap (λ n. c.loop-arrows.found + n) c.returns_of-found-in-loop-arrows.ensures) in
    let long = profiles_length ps.arrows.now ps.marks.now ps.alike in
    omega (arith, seconds_fit 8 _ _ _ _ found c.args.tables.now.asked.unrefused.k_most (omega (arith, c.args.tables.now.few)))

pub returns : goal.returns
returns c =
    let none = no_pair c.args.tables.now.profiles _ _ _ c.next.new.self _ (cc) (cc) c.loop-arrows.yielded_by c.next.ensures.steps c.in-None.is in
    add_ends _ _ c.loop-arrows.invariant none
