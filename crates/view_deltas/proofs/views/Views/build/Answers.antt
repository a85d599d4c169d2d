use Rattle.std.proofs.Common.{◌∙◌, ap, subst, sym, List, [], ◌∷◌, ◌++◌}
use Rattle.view_deltas.specs.Kept.{StandsFor}
use Rattle.view_deltas.specs.declared.kept_view.KeptView.{KeptView}
use Rattle.view_deltas.proofs.StandLemmas.{stands_more}
use Rattle.view_deltas.proofs.views.Views.build.Goals as goal

pub returns : goal.returns
returns g c = λ new stored adds stands.
    let same = c.in_ok-kept.ensures ∙ (c.as_slice.ensures.value ∙ c.self.view_is) in
    subst (λ (kept : List KeptView). StandsFor new kept) (sym (c.in_ok-push.ensures.items ∙ ap (λ (kept : List KeptView). kept ++ c.in_ok-one.one ∷ []) same))
    (stands_more (g.V.StoreView.db c.args.view.now) new c.args.definition.now c.args.self.now c.in_ok-one.one adds (c.in_ok-one.ensures stored) stands)
