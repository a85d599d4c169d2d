use Rattle.std.proofs.Common.{◌≤◌, List, ap, ◌∙◌, subst}
use Rattle.own_base.specs.declared.row_name.RowName.{RowName}
use Rattle.commit_check.specs.Saturated.{saturated}
use Rattle.state_model.specs.Weight.{weight as weight_of}
use Rattle.change_weight.specs.WeightAt.{names_weight}
use Rattle.change_weight.proofs.Exchange.{told_after, told_within}
use Rattle.change_weight.proofs.Moved.{moved_weight}
use Rattle.change_weight.proofs.weight.weight_by.Goals as goal

pub overflow_sub-kept : goal.overflow_sub-kept
overflow_sub-kept g c =
    let before = g.B.StoreView.db c.args.before.now in
    let after = g.V.StoreView.db c.args.after.now in
    let names = c.in_ok-touched.touched.items in
    let sums = moved_weight before after c.args.changes.now c.args.moves.now names c.requires.schema (g.met.B.StoreView.ordered c.args.before.now) (g.met.V.StoreView.ordered c.args.after.now)
    c.requires.leads c.requires.moves c.in_ok-touched.ensures in
    let gone = c.names_weight.ensures ∙ ap (λ (some : List RowName). saturated (names_weight before some)) c.as_slice-names.ensures.value in
    subst (λ n. c.names_weight.result ≤ n) c.requires.weight (told_within (weight_of before) (weight_of after) (names_weight before names) (names_weight after names) c.names_weight.result sums gone)

pub returns : goal.returns
returns g c =
    let before = g.B.StoreView.db c.args.before.now in
    let after = g.V.StoreView.db c.args.after.now in
    let names = c.in_ok-touched.touched.items in
    let sums = moved_weight before after c.args.changes.now c.args.moves.now names c.requires.schema (g.met.B.StoreView.ordered c.args.before.now) (g.met.V.StoreView.ordered c.args.after.now)
    c.requires.leads c.requires.moves c.in_ok-touched.ensures in
    let gone = c.names_weight.ensures ∙ ap (λ (some : List RowName). saturated (names_weight before some)) c.as_slice-names.ensures.value in
    let come = c.names_weight-2.ensures ∙ ap (λ (some : List RowName). saturated (names_weight after some)) c.as_slice-names.ensures.value in
    c.saturating_add.ensures
    ∙ told_after c.args.weight (weight_of before) (weight_of after) (names_weight before names) (names_weight after names) c.names_weight.result c.names_weight-2.result c.ranges.weight.fits c.requires.weight sums gone come
