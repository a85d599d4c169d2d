use Rattle.std.proofs.Common.{refl, sym, subst}
use Rattle.own_model.specs.declared.bound.Source1.{Source1}
use Rattle.view_deltas.specs.JoinFollowed.{JoinFollows}
use Rattle.view_deltas.specs.Kept.{from_left, IsKept}
use Rattle.view_deltas.specs.declared.kept_view.KeptView.TheVariants.{Joined}
use Rattle.view_deltas.specs.declared.side.Joins.{Joins}
use Rattle.view_deltas.proofs.ViewLemmas.{joined_led}
use Rattle.view_deltas.proofs.kept_view.joined_after.Goals as goal

pub returns-in_ok-followed-in-Pair : goal.returns-in_ok-followed-in-Pair
returns-in_ok-followed-in-Pair g c = λ here stored lead kept.
    let before = g.V.StoreView.db c.args.before.now in
    let after = g.N.StoreView.db c.args.after.now in
    let query = c.args.query.now in
    let changes = c.args.changes.now in
    let old = c.args.joined.now in
    let new = c.in_ok-followed-in-Pair.followed in
    let on = from_left c.in-Pair.left c.in-Pair.right c.in-Pair.left_column c.in-Pair.right_column in
    subst (λ (source : Source1). IsKept after query source (Joined new)) (sym c.in-Pair.is)
    (joined_led before after (g.met.V.StoreView.ordered c.args.before.now) (g.met.N.StoreView.ordered c.args.after.now) c.requires.same changes query on old new refl
    (subst (λ (joins : Joins). JoinFollows query joins before after changes changes old new) c.from_left-on.ensures c.in_ok-followed-in-Pair.ensures)
    here stored lead (subst (λ (source : Source1). IsKept before query source (Joined old)) c.in-Pair.is kept))
