-- A SELECT as binding leaves it.
use Rattle.std.proofs.Common.{◌≡◌, ℕ, ◌<◌, ◌∙◌, List, [], length, Bool, true, ap, sym}
use Rattle.std.specs.Prelude.{Some, slice_index_or}
use Rattle.std.specs.Option.{option_map_or}
use Rattle.std.proofs.lemmas.Option.{slice_get-get_or}
use Rattle.own_base.specs.declared.number.ViewNo.{ViewNo}
use Rattle.own_model.specs.declared.bound.BoundSelect.{BoundSelect}
use Rattle.own_model.specs.declared.bound.Source1.{Source1}
use Rattle.own_model.specs.declared.bound.Source1.TheVariants.{Pair, Table, View}
use Rattle.own_model.specs.declared.schema.Schema.{Schema}
use Rattle.own_model.specs.declared.schema.ViewDef.{ViewDef}
use Rattle.own_model.specs.Db.{Row}
use Rattle.query_model.specs.Query.{query_rows, selected, source_rows, view_rows}
use Rattle.readable_model.specs.Sources.{IsSourceThere, IsThere}
use Rattle.schema_model.proofs.Places.{all-at}
use Rattle.query_eval.specs.Sources.{IsBaseOf}
use Rattle.query_eval.specs.Views.{AreViewsThere, ReadsTables}

base : (schema : Schema) (grouped : Bool) (source : Source1) → IsSourceThere schema grouped source → grouped ≡ true → IsBaseOf schema source
base schema grouped (Table table) there is = there
base schema grouped (Pair left right left_column right_column) there is = there
base schema grouped (View view) there is = let plain = there.1 in absurd (cc)

-- a grouped one reads a table, or two
pub grouped_base : (schema : Schema) (query : BoundSelect) → IsThere schema query → query.grouped ≡ true → IsBaseOf schema query.source
grouped_base schema query = base schema query.grouped query.source

-- the rows of a select from a view
pub view_query_rows : (schema : Schema) (rows : List (List Row)) (query : BoundSelect) (number : ViewNo) (view : ViewDef) → query.source ≡ View number
    → number.0 < length schema.views → view ≡ slice_index_or schema.views number.0 view → query_rows schema rows query ≡ selected query (view_rows rows view)
unfolding query_rows
view_query_rows schema rows query number view viewed within is =
    ap (selected query)
    (ap (source_rows schema rows) viewed
    ∙ ap (λ found. option_map_or (view_rows rows) found []) (slice_get-get_or schema.views number.0 view within ∙ ap (λ (view : ViewDef). Some view) (sym is)))

-- the query of a view reads tables that are there
pub view_there : (schema : Schema) (number : ℕ) (view : ViewDef) → AreViewsThere schema → number < length schema.views → view ≡ slice_index_or schema.views number view
    → IsBaseOf schema view.query.source
view_there schema number view there within is =
    all-at (ReadsTables schema) schema.views there number view (slice_get-get_or schema.views number view within ∙ ap (λ (view : ViewDef). Some view) (sym is))
