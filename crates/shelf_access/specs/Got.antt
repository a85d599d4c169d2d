-- What a subject is shown of a copy.
use Rattle.std.specs.Prelude.{◌<◌, ◌≤◌, length, map}
use Rattle.std.specs.List.{enumerate_from}
use Rattle.own_base.specs.declared.row_name.RowName.{RowName}
use Rattle.own_model.specs.declared.limit.TheConstants.{TABLE_COLUMNS}
use Rattle.own_model.specs.declared.reply.GotRow.{GotRow}
use Rattle.own_model.specs.declared.schema.Schema.{Schema}
use Rattle.subject_model.specs.Get.{shown_cell, table_name}
use Rattle.subject_model.specs.Named.{is_name}
use Rattle.shelf_model.specs.declared.shelved.Shelved.{Shelved}

-- its cells, where those that each of its edges hides are hidden, but in the subject's own row
abbrev pub got_copy : Schema → RowName → Shelved → GotRow
got_copy schema subject copy = record {
  table = table_name schema copy.name.table.0;
  cells = map (shown_cell schema.edges (is_name copy.name subject) copy.by) (enumerate_from 0 copy.row);
}

-- a copy of a row of a table that is there, no longer than a table may have columns
pub record IsWithin (schema : Schema) (copy : Shelved) : Type 0 where
  pub table : copy.name.table.0 < length schema.tables
  pub short : length copy.row ≤ TABLE_COLUMNS
