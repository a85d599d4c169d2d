use Rattle.std.proofs.Common.{Option, Some, ap, refl, subst, sym, ◌≡◌, ℕ}
use Rattle.std.specs.Option.{option_map_or}
use Rattle.own_model.specs.declared.schema.TableDef.{TableDef}
use Rattle.own_model.specs.Stored.{rows_at}
use Rattle.query_model.specs.Footprints.{key_column}
use Rattle.query_model.specs.Truth.{keeps}
use Rattle.query_eval.specs.KeyRange.{IsSeen}
use Rattle.query_eval.proofs.KeySpans.{whole_span}
use Rattle.query_eval.proofs.TableRows.{rising_at}
use Rattle.query_eval.proofs.key_range.span_of.Goals as goal

-- The table's rows are among those whose keys rise.
pub narrow_by_all-requires-clause-rising : goal.narrow_by_all-requires-clause-rising
narrow_by_all-requires-clause-rising g c =
    rising_at (g.V.StoreView.db c.args.view.now).schema.tables (g.V.StoreView.db c.args.view.now).rows c.args.table.0 c.definition_of.result.now c.requires.tables.rising c.definition_of.ensures

-- Without a condition all rows are left.
pub returns-in-None : goal.returns-in-None
returns-in-None g c passes seen = whole_span passes (rows_at (g.V.StoreView.db c.args.view.now).rows c.args.table.0) (record { from = 0; upto = c.count.result }) refl c.count.ensures

-- What is kept is what makes the condition True.
pub returns-in-Some : goal.returns-in-Some
returns-in-Some g c passes seen =
    let rows = rows_at (g.V.StoreView.db c.args.view.now).rows c.args.table.0 in
    let column : key_column (g.V.StoreView.db c.args.view.now).schema c.args.table ≡ c.definition_of.result.now.key.0 =
    ap (λ (found : Option TableDef). option_map_or (λ definition. definition.key.0) found 0) c.definition_of.ensures in
    let here : IsSeen c.definition_of.result.now.key.0 (keeps (Some c.in-Some.cond.now)) rows passes = subst (λ (key : ℕ). IsSeen key (keeps (Some c.in-Some.cond.now)) rows passes) column (rw c.in-Some.is at seen) in
    c.narrow_by_all.ensures passes here (whole_span passes rows (record { from = 0; upto = c.count.result }) refl c.count.ensures)
