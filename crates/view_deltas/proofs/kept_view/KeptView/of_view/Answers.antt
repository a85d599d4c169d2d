use Rattle.std.proofs.Common.{sym, subst}
use Rattle.own_model.specs.declared.bound.Source1.{Source1}
use Rattle.own_model.specs.declared.bound.Source1.TheVariants.{Pair}
use Rattle.view_deltas.specs.Kept.{IsKept}
use Rattle.view_deltas.specs.declared.kept_view.KeptView.TheVariants.{Joined}
use Rattle.view_deltas.specs.declared.side.Joins.{Joins}
use Rattle.view_deltas.proofs.kept_view.KeptView.of_view.Goals as goal

pub returns-in_ok-of_pair-in-Pair : goal.returns-in_ok-of_pair-in-Pair
returns-in_ok-of_pair-in-Pair g c = λ stored.
    let db = g.V.StoreView.db c.args.view.now in
    let query = c.args.query.now in
    let made = c.in_ok-of_pair-in-Pair.field-0 in
    subst (λ (source : Source1). IsKept db query source (Joined made)) (sym c.in-Pair.is)
    (subst (λ (on : Joins). IsKept db query (Pair on.own on.other on.own_column on.other_column) (Joined made)) c.from_left-on.ensures (c.in_ok-of_pair-in-Pair.ensures stored))
