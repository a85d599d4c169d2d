-- The names that replies are told with.
use Rattle.std.specs.Prelude.{ℕ, ◌-◌, List, [], ◌++◌, Bool, true, false, length, map, option_map, slice_get, Option, None, Some}
use Rattle.own_model.specs.declared.reply.Reply.{Reply}
use Rattle.own_model.specs.declared.reply.Reply.TheVariants.{Got, Rows}
use Rattle.own_model.specs.declared.request.Request.{Request}
use Rattle.own_model.specs.declared.request.Request.TheVariants.{Run}
use Rattle.own_model.specs.declared.schema.Column.{Column}
use Rattle.own_model.specs.declared.schema.Schema.{Schema}
use Rattle.own_model.specs.declared.schema.TableDef.{TableDef}
use Rattle.own_model.specs.declared.schema.ViewDef.{ViewDef}
use Rattle.own_model.specs.declared.statement.Statement.TheVariants.{CreateTable, CreateView, Select}
use Rattle.history_model.specs.History.{History}
use Rattle.reply_json.specs.Columns.{select_columns}
use Rattle.reply_json.specs.declared.columns.TableNames.{TableNames}
use Rattle.shell_session.specs.declared.manner.Form.{Form}
use Rattle.shell_session.specs.declared.manner.Form.TheVariants.{Json}

-- a table, and a view, with the names of its columns
abbrev pub column_name : Column → List ℕ
column_name column = column.name

abbrev pub names_of_table : TableDef → TableNames
names_of_table table = record { name = table.name; columns = map column_name table.columns }

abbrev pub names_of_view : ViewDef → TableNames
names_of_view view = record { name = view.name; columns = view.names }

-- the tables of a schema, and then its views
abbrev pub table_names : Schema → List TableNames
table_names schema = map names_of_table schema.tables ++ map names_of_view schema.views

-- the names of the columns that a SELECT shows
abbrev pub statement_columns : List TableNames → Request → List (List ℕ)
statement_columns tables (Run (Select select)) = select_columns tables select
statement_columns tables request = []

-- the names of a reply's columns, where it shows the rows of a SELECT; else none
abbrev pub reply_columns : List TableNames → Request → Reply → List (List ℕ)
reply_columns tables request (Rows rows) = statement_columns tables request
reply_columns tables request reply = []

-- the same by the last request, if there is one
abbrev pub columns_by : List TableNames → Option Request → Reply → List (List ℕ)
columns_by tables (Some request) reply = reply_columns tables request reply
columns_by tables None reply = []

abbrev pub last_request : History → Option Request
last_request history = option_map (λ entry. entry.request) (slice_get history (length history - 1))

-- whether a reply is told with names: one that shows rows, as JSON
abbrev pub shows_names : Form → Reply → Bool
shows_names Json (Rows rows) = true
shows_names Json (Got rows) = true
shows_names form reply = false

-- a request for a table or a view more
abbrev pub is_create : Request → Bool
is_create (Run (CreateTable table)) = true
is_create (Run (CreateView view)) = true
is_create request = false
