-- What a DELETE changes.
use Rattle.std.specs.Prelude.{None, Some}
use Rattle.own_base.specs.declared.change.Change.{Change}
use Rattle.own_base.specs.declared.number.TableNo.{TableNo}
use Rattle.own_model.specs.declared.schema.TableDef.{TableDef}
use Rattle.own_model.specs.Db.{Row, key_of}

-- that a row goes
abbrev pub deletion : TableNo → TableDef → Row → Change
deletion number table row = record { name = record { table = number; key = key_of table row }; before = Some row; after = None }
