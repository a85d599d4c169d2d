-- What a GDPR GET shows.
use Rattle.std.specs.Prelude.{ℕ, List, [], Bool, not, ◌&&◌, filter, map, slice_get, if◌then◌else◌}
use Rattle.std.specs.List.{enumerate_from}
use Rattle.std.specs.Option.{option_map_or}
use Rattle.own_base.specs.declared.number.EdgeNo.{EdgeNo}
use Rattle.own_base.specs.declared.row_name.RowName.{RowName}
use Rattle.own_base.specs.declared.value.Value.{Value}
use Rattle.own_model.specs.declared.reply.Cell.{Cell}
use Rattle.own_model.specs.declared.reply.Cell.TheVariants.{Shown, Hidden}
use Rattle.own_model.specs.declared.reply.GotRow.{GotRow}
use Rattle.own_model.specs.declared.schema.Edge.{Edge}
use Rattle.own_model.specs.declared.schema.Schema.{Schema}
use Rattle.own_model.specs.Db.{Db}
use Rattle.owner_model.specs.RuledColumns.{is_hidden}
use Rattle.subject_model.specs.Named.{NamedRow, is_name, named_rows}
use Rattle.subject_model.specs.Owners.{by, reaches}

-- the name of the table of a number
abbrev pub table_name : Schema → ℕ → List ℕ
table_name schema number = option_map_or (λ table. table.name) (slice_get schema.tables number) []

-- A cell of a row that a subject reaches by these edges: hidden where each of them hides its column. In the subject's own
-- row nothing is hidden.
abbrev pub shown_cell : List Edge → Bool → List EdgeNo → ℕ × Value → Cell
shown_cell edges own by numbered = if not own && is_hidden edges by numbered.0 then Hidden else Shown numbered.1

abbrev pub got_row : Db → RowName → NamedRow → GotRow
got_row db subject named = record {
  table = table_name db.schema named.name.table.0;
  cells = map (shown_cell db.schema.edges (is_name named.name subject) (by db subject named.name)) (enumerate_from 0 named.row);
}

-- the rows that a subject reaches, by table, then key
unfoldable pub get : Db → RowName → List GotRow
get db subject = map (got_row db subject) (filter (λ named. reaches db subject named.name) (named_rows db))
