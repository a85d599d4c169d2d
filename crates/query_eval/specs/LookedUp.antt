-- Joins whose partners are looked up.
use Rattle.std.specs.Prelude.{ℕ, List, Bool, ◌||◌, ◌==◌, Option}
use Rattle.std.specs.List.{list_any}
use Rattle.own_base.specs.declared.number.TableNo.{TableNo}
use Rattle.own_model.specs.declared.bound.BoundCond.{BoundCond}
use Rattle.own_model.specs.declared.schema.Schema.{Schema}
use Rattle.own_model.specs.Db.{Row}
use Rattle.link_model.specs.Indexed.{is_indexed_at}
use Rattle.query_model.specs.Footprints.{key_column}
use Rattle.query_model.specs.Query.{pairs_of}
use Rattle.query_model.specs.Truth.{keeps}

-- whether a column is the primary key of its table, or indexed
abbrev pub is_found_by : Schema → TableNo → ℕ → Bool
is_found_by schema table column = (column == key_column schema table) || is_indexed_at schema table.0 column

-- whether WHERE keeps a pair of a row of the left table
abbrev pub is_in_pair : Option BoundCond → ℕ → ℕ → List Row → Row → Bool
is_in_pair condition left_column right_column rights left = list_any (keeps condition) (pairs_of left_column right_column rights left)
