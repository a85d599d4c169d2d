use Rattle.std.proofs.Common.{◌≡◌, [], ◌∷◌, true, subst, sym}
use Rattle.own_model.specs.declared.schema.Schema.{Schema}
use Rattle.state_model.specs.Put.{put}
use Rattle.state_model.specs.Weight.{weight}
use Rattle.commit_judge.specs.Unlinked.{is_unlinked}
use Rattle.commit_judge.proofs.Judgement.{judged-alone}
use Rattle.commit_judge.proofs.LinkLemmas.{unlinked-lone}
use Rattle.commit_judge.proofs.alone.judge_alone.Goals as goal

pub weight_by_lone_change-weighs-requires-clause-lone : goal.weight_by_lone_change-weighs-requires-clause-lone
weight_by_lone_change-weighs-requires-clause-lone g c =
    let db = g.B.StoreView.db c.args.before.now in
    let number = c.args.change.now.name.table.0 in
    unlinked-lone db.schema number (subst (λ (schema : Schema). is_unlinked schema number ≡ true) c.schema.ensures (sym c.if-not-is_unlinked.ensures))

pub returns-clause-judged : goal.returns-clause-judged
returns-clause-judged g c =
    let db = g.B.StoreView.db c.args.before.now in
    let change = c.args.change.now in
    let next = put db (change ∷ []) in
    let unlinked = subst (λ (schema : Schema). is_unlinked schema change.name.table.0 ≡ true) c.schema.ensures (sym c.if-not-is_unlinked.ensures) in
    judged-alone db change (g.met.B.StoreView.ordered c.args.before.now) c.requires.ordered c.requires.net c.requires.faultless c.requires.owner unlinked
    c.row_count.result c.judge_weight.result c.row_count.ensures c.if-row_count-ge-STORE_ROWS.false (c.judge_weight.ensures (weight next) c.weight_by_lone_change-weighs.ensures)

pub returns-clause-lone : goal.returns-clause-lone
returns-clause-lone g c =
    let db = g.B.StoreView.db c.args.before.now in
    let number = c.args.change.now.name.table.0 in
    unlinked-lone db.schema number (subst (λ (schema : Schema). is_unlinked schema number ≡ true) c.schema.ensures (sym c.if-not-is_unlinked.ensures))
