-- What becomes of a row, by flags of the rows that stay.
use Rattle.std.specs.Prelude.{ℕ, List, Bool, false, not, ◌&&◌, ◌||◌, Option, None, Some, filter_map, flat_map, map, slice_get, if◌then◌else◌}
use Rattle.std.specs.List.{enumerate_from, list_any}
use Rattle.std.specs.Option.{option_map_or}
use Rattle.own_base.specs.declared.change.Change.{Change}
use Rattle.own_base.specs.declared.number.ColumnSet.{ColumnSet}
use Rattle.own_base.specs.declared.number.EdgeNo.{EdgeNo}
use Rattle.own_base.specs.declared.value.Value.{Value}
use Rattle.own_base.specs.declared.value.Value.TheVariants.{Null}
use Rattle.own_model.specs.declared.schema.Column.{Column}
use Rattle.own_model.specs.declared.schema.Schema.{Schema}
use Rattle.own_model.specs.declared.schema.TableDef.{TableDef}
use Rattle.own_model.specs.Db.{Row}
use Rattle.owner_model.specs.ColumnSets.{has_column, set_of}
use Rattle.owner_model.specs.RuledColumns.{is_blanked}
use Rattle.own_model.specs.Stored.{rows_at}
use Rattle.owner_sets.specs.ByEdges.{EdgeLists, edges_at}
use Rattle.owner_sets.specs.Links.{place_named}
use Rattle.query_model.specs.Truth.{is_null}
use Rattle.subject_model.specs.Named.{NamedRow, name_of}
use Rattle.subject_erase.specs.Erasures.{blanking, removal}
use Rattle.subject_erase.specs.Flags.{Flags, flag_at}

-- a row of the table of a number, with its name
abbrev pub named_at : ℕ → TableDef → Row → NamedRow
named_at number table row = record { name = name_of number table row; row = row }

module _ (schema : Schema) (rows : List (List Row)) (staying : Flags) where
  -- whether a value, in a column, refers to a row that doesn't stay
  abbrev pub dangles_by : Column → Value → Bool
  dangles_by column value = option_map_or (λ link. option_map_or (λ place. not (flag_at staying link.1.0 place)) (place_named schema rows link.1.0 (Some value)) false) column.refers false

  -- whether a row loses the value in the column of a number, given the columns that are ruled
  abbrev pub loses_by : TableDef → ColumnSet → ℕ × Value → Bool
  loses_by table ruled numbered = has_column ruled numbered.0 || option_map_or (λ column. dangles_by column numbered.1) (slice_get table.columns numbered.0) false

  -- whether it loses one that isn't NULL
  abbrev pub loses_some_by : TableDef → ColumnSet → Row → Bool
  loses_some_by table ruled row = list_any (λ numbered. loses_by table ruled numbered && not (is_null numbered.1)) (enumerate_from 0 row)

  -- what is left of it
  abbrev pub left_by : TableDef → ColumnSet → Row → Row
  left_by table ruled row = map (λ numbered. if loses_by table ruled numbered then Null else numbered.1) (enumerate_from 0 row)

  -- what becomes of a row that stays, given the edges by which the subject reaches it
  abbrev pub blanked_by : TableDef → List EdgeNo → NamedRow → Option Change
  blanked_by table by named =
      let ruled = set_of (is_blanked schema.edges by) in
      if loses_some_by table ruled named.row then Some (blanking named (left_by table ruled named.row)) else None

  -- and of any row
  abbrev pub erased_by : TableDef → Bool → List EdgeNo → NamedRow → Option Change
  erased_by table stays by named = if stays then blanked_by table by named else Some (removal named)

  -- of the row at a place of a table
  abbrev pub erased_at : EdgeLists → ℕ → TableDef → ℕ × Row → Option Change
  erased_at by number table placed = erased_by table (flag_at staying number placed.0) (edges_at by number placed.0) (named_at number table placed.1)

  -- of the rows of a table
  unfoldable pub erased_table : EdgeLists → ℕ × TableDef → List Change
  erased_table by numbered = filter_map (erased_at by numbered.0 numbered.1) (enumerate_from 0 (rows_at rows numbered.0))

  -- of all rows
  unfoldable pub erased_rows : EdgeLists → List Change
  erased_rows by = flat_map (erased_table by) (enumerate_from 0 schema.tables)
