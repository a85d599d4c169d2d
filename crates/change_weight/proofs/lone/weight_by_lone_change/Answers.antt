use Rattle.std.proofs.Common.{◌≡◌, ◌+◌, ◌-◌, ◌≤◌, ℕ, List, [], ◌∷◌, refl, ◌∙◌, subst}
use Rattle.std.specs.Prelude.{Option}
use Rattle.std.specs.Option.{option_copied, option_map_or}
use Rattle.own_base.specs.declared.change.Change.{Change}
use Rattle.own_model.specs.Db.{Row}
use Rattle.commit_check.specs.Saturated.{saturated}
use Rattle.state_model.specs.Put.{put}
use Rattle.state_model.specs.Weight.{weight as weight_of}
use Rattle.change_weight.specs.Shown.{lone_weight}
use Rattle.change_weight.proofs.Exchange.{told_after, told_within}
use Rattle.change_weight.proofs.LoneChange.{lone_change_weight, told_row}
use Rattle.change_weight.proofs.lone.weight_by_lone_change.Goals as goal

pub overflow_sub-kept : goal.overflow_sub-kept
overflow_sub-kept g c =
    let before = g.B.StoreView.db c.args.before.now in
    let change = c.args.change.now in
    let changes : List Change = change ∷ [] in
    let weighs : Option Row → ℕ = λ found. option_map_or (lone_weight before.schema change.name.table.0) found 0 in
    let sums = lone_change_weight before (put before changes) change refl c.requires.lone c.requires.net c.requires.owner (g.met.B.StoreView.ordered c.args.before.now) c.requires.ordered in
    let gone = told_row c.schema-schema.result.now before.schema change.name.table.0 (option_copied c.as_ref.result) change.before c.lone_weight.result c.schema-schema.ensures c.as_ref.ensures.value c.lone_weight.ensures in
    subst (λ n. c.lone_weight.result ≤ n) c.requires.weight (told_within (weight_of before) (weight_of (put before changes)) (weighs change.before) (weighs change.after) c.lone_weight.result sums gone)

pub returns : goal.returns
returns g c =
    let before = g.B.StoreView.db c.args.before.now in
    let change = c.args.change.now in
    let changes : List Change = change ∷ [] in
    let weighs : Option Row → ℕ = λ found. option_map_or (lone_weight before.schema change.name.table.0) found 0 in
    let sums = lone_change_weight before (put before changes) change refl c.requires.lone c.requires.net c.requires.owner (g.met.B.StoreView.ordered c.args.before.now) c.requires.ordered in
    let gone = told_row c.schema-schema.result.now before.schema change.name.table.0 (option_copied c.as_ref.result) change.before c.lone_weight.result c.schema-schema.ensures c.as_ref.ensures.value c.lone_weight.ensures in
    let come = told_row c.schema-schema.result.now before.schema change.name.table.0 (option_copied c.as_ref-2.result) change.after c.lone_weight-2.result c.schema-schema.ensures c.as_ref-2.ensures.value c.lone_weight-2.ensures in
    let told : saturated (c.args.weight - c.lone_weight.result + c.lone_weight-2.result) ≡ saturated (weight_of (put before changes)) =
    told_after c.args.weight (weight_of before) (weight_of (put before changes)) (weighs change.before) (weighs change.after) c.lone_weight.result c.lone_weight-2.result c.ranges.weight.fits c.requires.weight sums gone come in
    c.saturating_add.ensures ∙ told
