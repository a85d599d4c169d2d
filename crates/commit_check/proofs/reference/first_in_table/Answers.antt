use Rattle.std.proofs.Common.{◌≤◌, length, sym, ◌∙◌, subst}
use Rattle.own_model.specs.Stored.{rows_at}
use Rattle.state_model.specs.Fault.{reference_rule}
use Rattle.commit_check.proofs.FirstLemmas.{none_before-end, none_before-found, none_before-gone, none_before-more}
use Rattle.commit_check.proofs.reference.first_in_table.Goals as goal

pub loop-at-preserved : goal.loop-at-preserved
loop-at-preserved g c =
    let db = g.V.StoreView.db c.args.view.now in
    let rows = rows_at db.rows c.args.table.0 in
    none_before-more (reference_rule db c.args.table.0 c.args.definition.now rows) rows c.loop-at.at c.loop-at.invariant c.in-Some.row.now (sym c.in-Some.ensures)
    (sym c.in_ok-fault.ensures ∙ c.in_default.is)

pub returns-in-None : goal.returns-in-None
returns-in-None g c =
    let db = g.V.StoreView.db c.args.view.now in
    let rows = rows_at db.rows c.args.table.0 in
    sym (none_before-gone (reference_rule db c.args.table.0 c.args.definition.now rows) rows c.loop-at.at c.loop-at.invariant (sym c.in-None.ensures))

pub returns-in-Some-2 : goal.returns-in-Some-2
returns-in-Some-2 g c =
    let db = g.V.StoreView.db c.args.view.now in
    let rows = rows_at db.rows c.args.table.0 in
    sym (none_before-found (reference_rule db c.args.table.0 c.args.definition.now rows) rows c.loop-at.at c.loop-at.invariant c.in-Some.row.now _ (sym c.in-Some.ensures)
    (sym c.in_ok-fault.ensures ∙ c.in-Some-2.is))

pub returns : goal.returns
returns g c =
    let db = g.V.StoreView.db c.args.view.now in
    let rows = rows_at db.rows c.args.table.0 in
    let past : length rows ≤ c.loop-at.at = subst (λ n. n ≤ c.loop-at.at) c.count-at-end.ensures c.loop-at-test.false in
    sym (none_before-end (reference_rule db c.args.table.0 c.args.definition.now rows) rows c.loop-at.at c.loop-at.invariant past)
