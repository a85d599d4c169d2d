-- A CREATE TABLE that can be read has few columns.
use Rattle.std.proofs.Common.{◌<◌, ◌≤◌, ◌^◌, List, [], ◌∷◌, length, arith}
use Rattle.std.specs.Prelude.{filter_map}
use Rattle.own_model.specs.declared.create.CreateTable.{CreateTable as TableCreate}
use Rattle.own_model.specs.declared.create.Part.{Part}
use Rattle.own_model.specs.declared.create.Part.TheVariants.{Column, Key, Unique, Foreign, Get, Del, DelRow}
use Rattle.own_model.specs.declared.limit.TheConstants.{STATEMENT_BYTES}
use Rattle.own_model.specs.declared.statement.Statement.TheVariants.{CreateTable}
use Rattle.grammar_model.specs.Readable.{IsWritten}
use Rattle.grammar_model.proofs.FewParts.{few_parts}
use Rattle.schema_model.specs.Columns.{column_of, columns_of}

-- columns are parts
columns-within : (parts : List Part) → length (filter_map column_of parts) ≤ length parts
columns-within [] = omega arith
columns-within (Column column ∷ parts) = let rest = columns-within parts in omega arith
columns-within (Key column ∷ parts) = let rest = columns-within parts in omega arith
columns-within (Unique column ∷ parts) = let rest = columns-within parts in omega arith
columns-within (Foreign column refers ∷ parts) = let rest = columns-within parts in omega arith
columns-within (Get column ruled ∷ parts) = let rest = columns-within parts in omega arith
columns-within (Del column ruled ∷ parts) = let rest = columns-within parts in omega arith
columns-within (DelRow column ∷ parts) = let rest = columns-within parts in omega arith

pub columns-few : (create : TableCreate) → IsWritten STATEMENT_BYTES (CreateTable create) → length (columns_of create) < 2 ^ 31
columns-few create written =
    let columns = columns-within create.parts in
    let parts = few_parts create written in
    omega arith
