use Rattle.std.proofs.Common.{◌≡◌, ◌≤◌, length, sym, ◌∙◌, subst}
use Rattle.std.specs.Prelude.{Some, slice_get}
use Rattle.std.proofs.lemmas.Option.{get_or_from_slice_get, slice_get_within}
use Rattle.own_model.specs.Stored.{rows_at}
use Rattle.state_model.specs.Fault.{unique_rule}
use Rattle.commit_check.proofs.FirstLemmas.{none_before-end, none_before-found, none_before-gone, none_before-more}
use Rattle.commit_check.proofs.unique.first_in_table.Goals as goal

pub first_in_row-requires-clause-among : goal.first_in_row-requires-clause-among
first_in_row-requires-clause-among g c =
    let rows = rows_at (g.V.StoreView.db c.args.view.now).rows c.args.table.0 in
    let is : slice_get rows c.loop-at.at ≡ Some c.in-Some.row.now = sym c.in-Some.ensures in
    (c.loop-at.at, slice_get_within rows c.loop-at.at c.in-Some.row.now is, get_or_from_slice_get rows c.loop-at.at c.in-Some.row.now c.in-Some.row.now is)

pub loop-at-preserved : goal.loop-at-preserved
loop-at-preserved g c =
    let rows = rows_at (g.V.StoreView.db c.args.view.now).rows c.args.table.0 in
    none_before-more (unique_rule c.args.table.0 c.args.definition.now rows) rows c.loop-at.at c.loop-at.invariant c.in-Some.row.now (sym c.in-Some.ensures)
    (sym c.in_ok-fault.ensures ∙ c.in_default.is)

pub returns-in-None : goal.returns-in-None
returns-in-None g c =
    let rows = rows_at (g.V.StoreView.db c.args.view.now).rows c.args.table.0 in
    sym (none_before-gone (unique_rule c.args.table.0 c.args.definition.now rows) rows c.loop-at.at c.loop-at.invariant (sym c.in-None.ensures))

pub returns-in-Some-2 : goal.returns-in-Some-2
returns-in-Some-2 g c =
    let rows = rows_at (g.V.StoreView.db c.args.view.now).rows c.args.table.0 in
    sym (none_before-found (unique_rule c.args.table.0 c.args.definition.now rows) rows c.loop-at.at c.loop-at.invariant c.in-Some.row.now _ (sym c.in-Some.ensures)
    (sym c.in_ok-fault.ensures ∙ c.in-Some-2.is))

pub returns : goal.returns
returns g c =
    let rows = rows_at (g.V.StoreView.db c.args.view.now).rows c.args.table.0 in
    let past : length rows ≤ c.loop-at.at = subst (λ n. n ≤ c.loop-at.at) c.count-at-end.ensures c.loop-at-test.false in
    sym (none_before-end (unique_rule c.args.table.0 c.args.definition.now rows) rows c.loop-at.at c.loop-at.invariant past)
