use Rattle.std.proofs.Common.{◌≡◌, ◌<◌, ◌≤◌, length, refl, sym, ap, ◌∙◌, subst}
use Rattle.std.specs.Prelude.{Some, slice_get}
use Rattle.std.proofs.lemmas.Option.{slice_get_read}
use Rattle.own_model.specs.declared.refusal.Refusal.{Refusal}
use Rattle.own_model.specs.declared.refusal.Refusal.TheVariants.{Unique}
use Rattle.own_model.specs.Db.{key_of}
use Rattle.own_model.specs.Stored.{rows_at}
use Rattle.state_model.specs.Fault.{ColumnValue, breaks_unique, column_values}
use Rattle.state_model.proofs.FaultLemmas.{column_value, column_values-at, length-column_values, refused}
use Rattle.commit_check.proofs.FirstLemmas.{none_before-end, none_before-found, none_before-more}
use Rattle.commit_check.proofs.ReferenceLemmas.{refused-none, refused-some}
use Rattle.commit_check.proofs.UniqueLemmas.{breaks-counted}
use Rattle.commit_check.proofs.unique.first_in_row.Goals as goal

pub loop-at-preserved : goal.loop-at-preserved
loop-at-preserved g c =
    let rows = rows_at (g.V.StoreView.db c.args.view.now).rows c.args.table.0 in
    let definition = c.args.definition.now in
    let row = c.args.row.now in
    let column = c.column-item.result in
    let why : ColumnValue → Refusal = λ held. Unique definition.name (key_of definition row) held.column.name in
    let is : slice_get definition.columns c.loop-at.at ≡ Some column =
    subst (λ columns. slice_get columns c.loop-at.at ≡ Some column) c.items-column-items.ensures
    (slice_get_read c.items-column-items.result.now _ c.loop-at.at column refl c.loop-at-test.true c.column-item.is) in
    let counted = c.requires.counted.each c.loop-at.at column c.index-counts-at.result is
    (slice_get_read c.args.counts.now _ c.loop-at.at c.index-counts-at.result refl (subst (λ n. c.loop-at.at < n) (ap length c.items-column-items.ensures ∙ sym c.requires.all) c.loop-at-test.true) c.index-counts-at.is) in
    let breaks = breaks-counted definition rows row c.loop-at.at column c.breaks_unique-breaks.result c.requires.rising c.requires.among (c.breaks_unique-breaks.ensures rows counted) in
    none_before-more (refused (breaks_unique definition rows row) why) (column_values definition row) c.loop-at.at c.loop-at.invariant (column_value row c.loop-at.at column)
    (column_values-at definition row c.loop-at.at column is) (refused-none (breaks_unique definition rows row) why (column_value row c.loop-at.at column) (sym breaks ∙ c.if-breaks.false))

pub returns-then-breaks : goal.returns-then-breaks
returns-then-breaks g c =
    let rows = rows_at (g.V.StoreView.db c.args.view.now).rows c.args.table.0 in
    let definition = c.args.definition.now in
    let row = c.args.row.now in
    let column = c.column-item.result in
    let why : ColumnValue → Refusal = λ held. Unique definition.name (key_of definition row) held.column.name in
    let is : slice_get definition.columns c.loop-at.at ≡ Some column =
    subst (λ columns. slice_get columns c.loop-at.at ≡ Some column) c.items-column-items.ensures
    (slice_get_read c.items-column-items.result.now _ c.loop-at.at column refl c.loop-at-test.true c.column-item.is) in
    let counted = c.requires.counted.each c.loop-at.at column c.index-counts-at.result is
    (slice_get_read c.args.counts.now _ c.loop-at.at c.index-counts-at.result refl (subst (λ n. c.loop-at.at < n) (ap length c.items-column-items.ensures ∙ sym c.requires.all) c.loop-at-test.true) c.index-counts-at.is) in
    let breaks = breaks-counted definition rows row c.loop-at.at column c.breaks_unique-breaks.result c.requires.rising c.requires.among (c.breaks_unique-breaks.ensures rows counted) in
    ap Some c.in_ok-fault.ensures
    ∙ sym (none_before-found (refused (breaks_unique definition rows row) why) (column_values definition row) c.loop-at.at c.loop-at.invariant (column_value row c.loop-at.at column) (why (column_value row c.loop-at.at column))
    (column_values-at definition row c.loop-at.at column is) (refused-some (breaks_unique definition rows row) why (column_value row c.loop-at.at column) (sym breaks ∙ c.if-breaks.true)))

pub returns : goal.returns
returns g c =
    let rows = rows_at (g.V.StoreView.db c.args.view.now).rows c.args.table.0 in
    let definition = c.args.definition.now in
    let row = c.args.row.now in
    let past : length (column_values definition row) ≤ c.loop-at.at =
    subst (λ n. n ≤ c.loop-at.at) (ap length c.items-column-items.ensures ∙ sym (length-column_values definition row)) c.loop-at-test.false in
    sym (none_before-end (refused (breaks_unique definition rows row) (λ held. Unique definition.name (key_of definition row) held.column.name)) (column_values definition row) c.loop-at.at c.loop-at.invariant past)
