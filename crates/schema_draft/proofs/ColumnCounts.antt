-- How many columns a CREATE TABLE and its table have.
use Rattle.std.proofs.Common.{◌≡◌, ◌≤◌, List, [], ◌∷◌, Option, None, Some, length, ap, ◌∙◌, arith}
use Rattle.std.specs.List.{cons_option, filter_map}
use Rattle.std.proofs.lemmas.List.{length-map}
use Rattle.own_model.specs.declared.create.CreateTable.{CreateTable}
use Rattle.own_model.specs.declared.schema.Schema.{Schema}
use Rattle.own_model.specs.declared.schema.TableDef.{TableDef}
use Rattle.schema_model.specs.Columns.{column_of, columns_of}
use Rattle.schema_model.specs.NewTable.{new_column, new_table}

-- what is taken from a list is no longer than the list
length-filter_map-le : {X Y : Type 0} (taken : X → Option Y) (items : List X) → length (filter_map taken items) ≤ length items
length-filter_map-le taken [] = omega arith
length-filter_map-le {X} {Y} taken (item ∷ items) = by (taken item) (filter_map taken items) (length-filter_map-le taken items)
  where
    by : (found : Option Y) (rest : List Y) → length rest ≤ length items → length (cons_option found rest) ≤ length (item ∷ items)
    by None rest shorter = omega arith
    by (Some found) rest shorter = omega arith

-- a CREATE has no more columns than parts
pub length-columns_of-le : (create : CreateTable) → length (columns_of create) ≤ length create.parts
length-columns_of-le create = length-filter_map-le column_of create.parts

-- its table has as many columns as the CREATE
pub length-columns : (schema : Schema) (create : CreateTable) (table : TableDef) → table ≡ new_table schema create → length table.columns ≡ length (columns_of create)
unfolding new_table
length-columns schema create table made = ap (λ (table : TableDef). length table.columns) made ∙ length-map (columns_of create) (new_column schema create)
