-- What is lent of a schema.
use Rattle.std.specs.Prelude.{ℕ, List, [], map}
use Rattle.std.specs.List.{zip}
use Rattle.own_model.specs.declared.schema.Column.{Column}
use Rattle.own_model.specs.declared.schema.Kind.{Kind}
use Rattle.own_model.specs.declared.schema.TableDef.{TableDef}
use Rattle.own_model.specs.declared.schema.ViewDef.{ViewDef}
use Rattle.query_model.specs.Scope.{NameBytes, Named, Scope, scope_from}
use Rattle.bind_scope.specs.declared.columns.Columns.{Columns}
use Rattle.bind_scope.specs.declared.columns.Columns.TheVariants.{Nowhere, OfTable, OfView}
use Rattle.bind_scope.specs.declared.columns.Heading.{Heading}
use Rattle.bind_scope.specs.declared.scope.Named.{Named as LentNamed}
use Rattle.bind_scope.specs.declared.scope.Source.{Source}
use Rattle.bind_scope.specs.declared.tables.NumberedTable.{NumberedTable}
use Rattle.bind_scope.specs.declared.tables.NumberedView.{NumberedView}

-- the name and the kind of a column
abbrev pub heading_of : Heading → NameBytes × Kind
heading_of heading = (heading.name.now, heading.kind)

-- those of a column of a table
abbrev pub title_of : Column → NameBytes × Kind
title_of column = (column.name, column.kind)

-- those of columns
abbrev pub columns_of : Columns → List (NameBytes × Kind)
columns_of Nowhere = []
columns_of (OfTable columns) = map title_of columns.now
columns_of (OfView names kinds) = zip names.now kinds.now

-- a column that can be named
abbrev pub named_of : LentNamed → Named
named_of named = record { table = named.table.now; column = named.column.now; number = named.number.0; kind = named.kind }

-- the columns of a table or a view, which stand in the row from this number on
abbrev pub source_scope : ℕ → Source → Scope
source_scope first source = scope_from first source.name.now (columns_of source.columns)

-- a table with its number, and a view
abbrev pub table_of : NumberedTable → ℕ × TableDef
table_of found = (found.number.0, found.table.now)

abbrev pub view_of : NumberedView → ℕ × ViewDef
view_of found = (found.number.0, found.view.now)
