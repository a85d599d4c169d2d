-- Rows as JSON.
use Rattle.std.specs.Prelude.{List, codes, map}
use Rattle.serde_json.specs.Data.{Data, array, object, string, put, no_members}
use Rattle.serde_json.specs.View.{items_of}
use Rattle.own_base.specs.declared.value.Value.{Value}
use Rattle.own_model.specs.declared.reply.GotRow.{GotRow}
use Rattle.reply_json.specs.Columns.{columns_of}
use Rattle.reply_json.specs.Values.{cell_data, value_data}
use Rattle.reply_json.specs.declared.columns.TableNames.{TableNames}

-- a row of a SELECT is its values
abbrev pub row_data : List Value → Data
row_data row = array (items_of (map value_data row))

-- a row of a GDPR GET is its table, that table's columns and its values
abbrev pub got_data : List TableNames → GotRow → Data
got_data tables row = object (put (codes "values") (array (items_of (map cell_data row.cells)))
    (put (codes "columns") (array (items_of (map (λ name. string name) (columns_of tables row.table))))
    (put (codes "table") (string row.table) no_members)))
