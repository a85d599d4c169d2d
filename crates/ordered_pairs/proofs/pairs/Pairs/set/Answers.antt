use Rattle.std.proofs.Common.{List, sym, subst}
use Rattle.std.specs.Prelude.{true}
use Rattle.std.proofs.lemmas.Result.{on_ok_weaker}
use Rattle.page_model.specs.Paged.{items}
use Rattle.ordered_pairs.specs.Has.{Sets}
use Rattle.ordered_pairs.proofs.HasLemmas.{sets_changed}
use Rattle.ordered_pairs.proofs.pairs.Pairs.set.Goals as goal

-- A change of one pair changes the relation there alone.
pub returns-clause-set : goal.returns-clause-set
returns-clause-set g c =
    let left = g.A.Ordered.order in
    let right = g.B.Ordered.order in
    let before = items c.self.inside.pages in
    let after = items c.change.new.self in
    on_ok_weaker c.change.result
    (λ is. subst (λ (old : List (g.row.A.Denot × g.row.B.Denot)). Sets left right c.args.pair.now true old after) c.self.view_is
    (subst (λ (new : List (g.row.A.Denot × g.row.B.Denot)). Sets left right c.args.pair.now true before new) (sym is) (sets_changed g.met.A.Ordered.total g.met.B.Ordered.total c.args.pair.now true before)))
    c.change.ensures.items
