-- Rows of a table as changes that put them there.
use Rattle.std.specs.Prelude.{None, Some}
use Rattle.own_base.specs.declared.change.Change.{Change}
use Rattle.own_base.specs.declared.number.TableNo.{TableNo}
use Rattle.own_model.specs.declared.schema.TableDef.{TableDef}
use Rattle.own_model.specs.Db.{Row, key_of}

abbrev pub inserted : TableNo → TableDef → Row → Change
inserted number table row = record { name = record { table = number; key = key_of table row }; before = None; after = Some row }
