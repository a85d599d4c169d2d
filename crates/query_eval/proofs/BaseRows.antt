-- The rows of a source that is a table or a join.
use Rattle.std.proofs.Common.{◌≡◌, List, refl}
use Rattle.own_model.specs.declared.bound.Source1.{Source1}
use Rattle.own_model.specs.declared.bound.Source1.TheVariants.{Pair, Table, View}
use Rattle.own_model.specs.declared.schema.Schema.{Schema}
use Rattle.own_model.specs.Db.{Row}
use Rattle.query_model.specs.Query.{base_rows, source_rows}
use Rattle.query_eval.specs.Sources.{IsBaseOf}

-- they don't hang on the views
pub source_rows-base : (schema : Schema) (rows : List (List Row)) (source : Source1) → IsBaseOf schema source → source_rows schema rows source ≡ base_rows rows source
source_rows-base schema rows (Table table) base = refl
source_rows-base schema rows (Pair left right left_column right_column) base = refl
source_rows-base schema rows (View view) base = absurd base

-- a source that is no view
pub ruleset of_base = (source_rows-base)
