-- Which statements are writes.
use Rattle.std.specs.Prelude.{◌≡◌, ◌<◌, ◌==◌, length, false}
use Rattle.std.specs.List.{AllByRecursion}
use Rattle.own_base.specs.declared.number.ColNo.{ColNo}
use Rattle.own_base.specs.declared.number.TableNo.{TableNo}
use Rattle.own_model.specs.declared.bound.Bound.{Bound}
use Rattle.own_model.specs.declared.bound.Bound.TheVariants.{Delete, Explain, Forget, Get, Insert, Select, Update}
use Rattle.own_model.specs.declared.bound.BoundExpr.{BoundExpr}
use Rattle.own_model.specs.declared.schema.Schema.{Schema}
use Rattle.query_model.specs.Footprints.{key_column}
use Rattle.run_model.specs.Update.{Sets}

-- the table of this number is there
abbrev pub IsThere : Schema → TableNo → Type 0
IsThere schema table = table.0 < length schema.tables

-- no set is of the table's primary key
abbrev pub SpareKey : Schema → TableNo → Sets → Type 0
SpareKey schema table sets = AllByRecursion (λ (set : ColNo × BoundExpr). (set.0.0 == key_column schema table) ≡ false) sets

-- an INSERT, an UPDATE or a DELETE of a table that is there, which sets no primary key, as binding leaves them
abbrev pub IsWrite : Schema → Bound → Type 0
IsWrite schema (Insert table tuples) = IsThere schema table
IsWrite schema (Update table sets cond) = IsThere schema table × SpareKey schema table sets
IsWrite schema (Delete table cond) = IsThere schema table
IsWrite schema (Select query) = ⊥
IsWrite schema (Get subject) = ⊥
IsWrite schema (Forget subject) = ⊥
IsWrite schema Explain = ⊥

-- the table of a write
abbrev pub table_of : Bound → TableNo
table_of (Insert table tuples) = table
table_of (Update table sets cond) = table
table_of (Delete table cond) = table
table_of _ = record { 0 = 0 }
