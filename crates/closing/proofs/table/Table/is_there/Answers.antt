-- Where the search ends the value stands; where it ends nowhere it stands in none of the first count rows.
use Rattle.std.proofs.Common.{◌≡◌, ◌<◌, ℕ, false, rules}
use Rattle.std.proofs.iter.runs.Sources.{ranges}
use Rattle.std.specs.declared.option.Option.TheVariants.{Some}
use Rattle.closing.proofs.Filling.{is_stored}
use Rattle.closing.proofs.table.Table.is_there.Goals as goal

pub returns : goal.returns
returns g c M =
    let r = g.R.Rows in
    let l = r.slices c.args.self.now.rows.now in
    let tells = g.met.R.Rows.tells M in
    let differs : c.any.result ≡ false → (i : ℕ) → i < c.args.self.now.count
    → (v : _) × (r.paper v ≡ (r.at l i).value) × (g.R.Value.PartialEq.eq v c.args.x ≡ false) =
    λ none i below.
    let all = rw none at c.any.ensures.runs.2 in
    let one = all.1 (search rules) i in
    let at : c.any.ensures.runs.0.at i ≡ Some i = search (rules, ranges) in
    let read = rw at at one in
    search rules in
    is_stored g.met.R.Rows.layout (r.values M) (r.paper c.args.x) l c.args.self.now.count c.any.result
    (search (rules, ranges, tells))
    (λ none i below. let (v, is, d) = differs none i below in rw (← is, tells v c.args.x) d)
