-- What the views of a schema read.
use Rattle.std.specs.List.{AllByRecursion}
use Rattle.own_model.specs.declared.schema.Schema.{Schema}
use Rattle.own_model.specs.declared.schema.ViewDef.{ViewDef}
use Rattle.query_eval.specs.Sources.{IsBaseOf}

-- the query of a view reads tables that are there
abbrev pub ReadsTables : Schema → ViewDef → Type 0
ReadsTables schema view = IsBaseOf schema view.query.source

abbrev pub AreViewsThere : Schema → Type 0
AreViewsThere schema = AllByRecursion (ReadsTables schema) schema.views
