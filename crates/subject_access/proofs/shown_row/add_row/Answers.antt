use Rattle.std.proofs.Common.{◌≡◌, [], ◌∷◌, ◌++◌, true, false, ap, sym, ◌∙◌}
use Rattle.std.proofs.lemmas.List.{append-nil}
use Rattle.own_model.specs.declared.reply.GotRow.{GotRow}
use Rattle.own_model.specs.declared.schema.Schema.{Schema}
use Rattle.subject_model.specs.Get.{got_row}
use Rattle.subject_model.specs.Named.{NamedRow, name_of}
use Rattle.subject_model.specs.Owners.{reaches}
use Rattle.subject_access.proofs.ShownLemmas.{among-reached, got-made, shown-other, shown-reached}
use Rattle.subject_access.proofs.shown_row.add_row.Goals as goal

-- the subject reaches the row, and it is shown
pub returns-in_ok-add : goal.returns-in_ok-add
returns-in_ok-add g c =
    let db = g.V.StoreView.db c.args.access.now.view.now in
    let table = c.args.table.0 in
    let definition = c.args.definition.now in
    let row = c.args.row.now in
    let subject = c.args.access.now.subject.now in
    let named : NamedRow = record { name = name_of table definition row; row = row } in
    let reached : reaches db subject.0 named.name ≡ true =
    sym (among-reached db table c.args.at definition row c.requires.there c.requires.here subject c.args.access.now.sets.now.reach (g.met.V.StoreView.ordered c.args.access.now.view.now) c.requires.owner c.requires.reach)
    ∙ (sym c.reaches.ensures ∙ c.if-reaches.true) in
    let made : c.in_ok-got.got ≡ got_row db subject.0 named =
    got-made db table c.args.at definition row c.requires.there c.requires.here subject.0 c.args.access.now.by.now c.in_ok-got.got c.items-edges.result.now c.is_named-own.result c.at-by.result.now
    c.requires.edges (c.items-edges.ensures ∙ ap (λ (s : Schema). s.edges) c.schema.ensures) c.is_named-own.ensures c.at-by.ensures (c.in_ok-got.ensures.table ∙ c.in_ok-name.ensures) c.in_ok-got.ensures.cells in
    c.in_ok-add.ensures.added
    ∙ ap (λ rows. c.args.shown.now ++ rows) (ap (λ (got : GotRow). got ∷ []) made ∙ sym (shown-reached db subject.0 named reached))

-- it doesn't reach the row
pub returns-else-reaches : goal.returns-else-reaches
returns-else-reaches g c =
    let db = g.V.StoreView.db c.args.access.now.view.now in
    let table = c.args.table.0 in
    let definition = c.args.definition.now in
    let row = c.args.row.now in
    let subject = c.args.access.now.subject.now in
    let named : NamedRow = record { name = name_of table definition row; row = row } in
    let other : reaches db subject.0 named.name ≡ false =
    sym (among-reached db table c.args.at definition row c.requires.there c.requires.here subject c.args.access.now.sets.now.reach (g.met.V.StoreView.ordered c.args.access.now.view.now) c.requires.owner c.requires.reach)
    ∙ (sym c.reaches.ensures ∙ c.if-reaches.false) in
    sym (append-nil c.args.shown.now) ∙ ap (λ rows. c.args.shown.now ++ rows) (sym (shown-other db subject.0 named other))
