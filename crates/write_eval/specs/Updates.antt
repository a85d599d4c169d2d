-- What an UPDATE changes.
use Rattle.std.specs.Prelude.{Some}
use Rattle.own_base.specs.declared.change.Change.{Change}
use Rattle.own_base.specs.declared.number.TableNo.{TableNo}
use Rattle.own_model.specs.declared.schema.TableDef.{TableDef}
use Rattle.own_model.specs.Db.{Row, key_of}
use Rattle.run_model.specs.Update.{Sets, updated}

-- that a row is updated, also where it ends as it was
abbrev pub replacement : TableNo → TableDef → Sets → Row → Change
replacement number table sets row =
    record { name = record { table = number; key = key_of table row }; before = Some row; after = Some (updated sets row) }
