use Rattle.std.proofs.Common.{◌≤◌, length, ap, ◌∙◌, subst}
use Rattle.own_model.specs.declared.schema.Schema.{Schema}
use Rattle.commit_check.specs.Saturated.{saturated}
use Rattle.change_weight.specs.Shown.{all_shown}
use Rattle.change_weight.proofs.AtNames.{none_weighs, past_weighs, row_weighs}
use Rattle.change_weight.proofs.weight.weight_at.Goals as goal

pub returns-then-name-items : goal.returns-then-name-items
returns-then-name-items g c =
    past_weighs (g.B.StoreView.db c.args.store.now) c.args.name.now
    (subst (λ n. n ≤ c.args.name.now.table.0) (ap length (c.items.ensures ∙ ap (λ (s : Schema). s.tables) c.schema.ensures)) c.if-name-items.true)

pub returns-in-Some : goal.returns-in-Some
returns-in-Some g c =
    let shown = c.all_shown.ensures ∙ ap (λ (s : Schema). saturated (all_shown s c.args.name.now.table.0 c.in-Some.row.now)) c.schema-in-Some.ensures in
    row_weighs (g.B.StoreView.db c.args.store.now) c.args.name.now c.in-Some.row.now c.row_size.result c.owned_weight-owned.result c.all_shown.result c.saturating_add.result
    c.owners.result.now c.reach.result.now c.in-Some.ensures c.row_size.ensures c.owners.ensures c.reach.ensures c.owned_weight-owned.ensures shown c.saturating_add.ensures

pub returns-in-None : goal.returns-in-None
returns-in-None g c = none_weighs (g.B.StoreView.db c.args.store.now) c.args.name.now c.in-None.ensures
