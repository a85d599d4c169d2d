use Rattle.std.proofs.Common.{rules}
use Rattle.page_model.specs.Bound.{Divides}
use Rattle.page_model.specs.Paged.{items}
use Rattle.page_model.proofs.BoundLemmas.{place_counts}
use Rattle.page_tree.proofs.pages.Pages.place_of.Goals as goal

-- The place at which the bound divides the items is how many are below it.
pub returns-in-Some-clause-count : goal.returns-in-Some-clause-count
returns-in-Some-clause-count g c =
    let below = g.B.BoundOf.below c.args.bound.now c.args.self.now.by in
    let divides : Divides below (items c.args.self.now) c.place_in.result = search rules in
    place_counts below (items c.args.self.now) c.place_in.result divides
