use Rattle.std.proofs.Common.{subst, List}
use Rattle.std.proofs.lemmas.Result.{IfOk-weaker}
use Rattle.own_base.specs.declared.change.Change.{Change}
use Rattle.view_deltas.specs.JoinFollowed.{JoinFollows}
use Rattle.view_deltas.proofs.ViewLemmas.{joined_built}
use Rattle.view_deltas.proofs.kept_view.KeptView.of_pair.Goals as goal

pub returns : goal.returns
returns g c =
    let db = g.V.StoreView.db c.args.view.now in
    let query = c.args.query.now in
    let on = c.args.on in
    let none = c.new-none.result in
    let lefts = c.in_ok-lefts.lefts in
    let rights = c.in_ok-rights.rights in
    IfOk-weaker c.follow_all.result _ _
    (λ joined follows.
    joined_built db (g.met.V.StoreView.ordered c.args.view.now) query on c.requires.side lefts rights c.in_ok-lefts.ensures c.in_ok-rights.ensures none joined
    c.new-none.ensures.entries c.new-none.ensures.lefts c.new-none.ensures.rights
    (subst (λ (changes : List Change). JoinFollows query on db db lefts changes none joined) c.items-2.ensures
    (subst (λ (changes : List Change). JoinFollows query on db db changes c.items-2.result.now none joined) c.items.ensures follows)))
    c.follow_all.ensures
