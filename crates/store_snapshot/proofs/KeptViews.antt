-- The views of a schema that creates give read tables that are there.
use Rattle.std.specs.Prelude.{Bool}
use Rattle.own_model.specs.declared.bound.Source1.{Source1}
use Rattle.own_model.specs.declared.bound.Source1.TheVariants.{Pair, Table, View}
use Rattle.own_model.specs.declared.schema.Schema.{Schema}
use Rattle.own_model.specs.Db.{Db}
use Rattle.schema_model.proofs.Places.{all-weaker}
use Rattle.query_eval.specs.Sources.{IsBaseOf}
use Rattle.query_eval.specs.Views.{AreViewsThere, ReadsTables}
use Rattle.state_model.specs.Created.{IsCreated}
use Rattle.view_deltas.specs.ViewOf.{IsSourceOf, IsViewOf}
use Rattle.view_select.proofs.WellFormedViews.{views_of-created}

base-of_view : (schema : Schema) (grouped : Bool) (source : Source1) → IsSourceOf schema grouped source → IsBaseOf schema source
base-of_view schema grouped (Table table) there = there
base-of_view schema grouped (Pair left right left_column right_column) there = (there.0, there.1)
base-of_view schema grouped (View view) there = there

pub views_there-created : (db : Db) → IsCreated db → AreViewsThere db.schema
views_there-created db created =
    all-weaker (IsViewOf db.schema) (ReadsTables db.schema) (λ view is. base-of_view db.schema view.query.grouped view.query.source is.source) db.schema.views (views_of-created db created)
