use Rattle.std.proofs.Common.{◌≡◌, ◌+◌, ◌≤◌, ◌<◌, ◌++◌, length, drop, filter_map, refl, ap, ◌∙◌, subst}
use Rattle.std.specs.Prelude.{Option}
use Rattle.std.specs.List.{enumerate_from}
use Rattle.std.specs.Option.{option_and_then, option_to_list}
use Rattle.own_base.specs.declared.change.Change.{Change}
use Rattle.own_model.specs.Db.{Row}
use Rattle.own_model.specs.Stored.{rows_at}
use Rattle.schema_model.proofs.Places.{at-place}
use Rattle.subject_erase.specs.Losing.{erased_at, erased_table}
use Rattle.subject_erase.proofs.ErasedRows.{passed-all, passed-more}
use Rattle.subject_erase.proofs.erase.add_erased.Goals as goal

pub loop-at-init : goal.loop-at-init
unfolding erased_table
loop-at-init g c = refl

-- one row more
pub loop-at-preserved : goal.loop-at-preserved
loop-at-preserved g c =
    let schema = (g.V.StoreView.db c.args.view.now).schema in
    let rows = (g.V.StoreView.db c.args.view.now).rows in
    let made = erased_at schema rows c.args.staying.now c.args.by.now c.args.table.0 c.args.definition.now in
    let all = rows_at rows c.args.table.0 in
    let at = c.loop-at.at in
    let before : at < length all = subst (λ n. at < n) c.count-at-end.ensures c.loop-at-test.true in
    let (row, is) = at-place all at before in
    let change : c.in_ok-change.change ≡ made (at, row) = c.in_ok-change.ensures ∙ ap (option_and_then (λ (row : Row). made (at, row))) is in
    let added : c.add_change.new.changes ≡ c.loop-at.changes ++ option_to_list (made (at, row)) = c.in_ok-add_change.ensures ∙ ap (λ (o : Option Change). c.loop-at.changes ++ option_to_list o) change in
    ap (λ front. front ++ filter_map made (enumerate_from (at + 1) (drop (at + 1) all))) added
    ∙ passed-more made all at row c.loop-at.changes _ is c.loop-at.invariant

pub returns : goal.returns
returns g c =
    let schema = (g.V.StoreView.db c.args.view.now).schema in
    let rows = (g.V.StoreView.db c.args.view.now).rows in
    let all = rows_at rows c.args.table.0 in
    let past : length all ≤ c.loop-at.at = subst (λ n. n ≤ c.loop-at.at) c.count-at-end.ensures c.loop-at-test.false in
    passed-all (erased_at schema rows c.args.staying.now c.args.by.now c.args.table.0 c.args.definition.now) all c.loop-at.at c.loop-at.changes _ past c.loop-at.invariant
