use Rattle.std.proofs.Common.{List, subst}
use Rattle.page_model.specs.Paged.{items}
use Rattle.ordered_pairs.specs.RangeOf.{IsRangeOf}
use Rattle.ordered_pairs.proofs.RangeLemmas.{range_between}
use Rattle.ordered_pairs.proofs.pairs.Pairs.range.Goals as goal

-- Between the places of the two bounds.
pub returns-clause-range : goal.returns-clause-range
returns-clause-range g c =
    let left = g.A.Ordered.order in
    let from = c.place_of-from.result in
    let upto = c.place_of-upto.result in
    subst (λ (pairs : List (g.row.A.Denot × g.row.B.Denot)). IsRangeOf left pairs c.args.left.now from upto) c.self.view_is
    (range_between left (items c.self.inside.pages) c.args.left.now from upto c.place_of-from.ensures.divides c.place_of-upto.ensures.divides)
