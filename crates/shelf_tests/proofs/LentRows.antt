-- A row that is lent is there.
use Rattle.std.proofs.Common.{◌≡◌, Bor, true, false, ap, sym}
use Rattle.std.specs.Prelude.{Option, None, Some, is_some}
use Rattle.std.specs.Option.{option_copied}
use Rattle.own_base.specs.declared.row_name.RowName.{RowName}
use Rattle.own_model.specs.Db.{Db, Row}
use Rattle.owner_model.specs.Joins.{row_of}
use Rattle.subject_model.specs.Named.{is_there}

pub lent-there : (db : Db) (name : RowName) (row : Option (Bor Row)) → option_copied row ≡ row_of db name → is_some row ≡ true → is_there db name ≡ true
lent-there db name None lent some = let never : false ≡ true = some in absurd (cc)
lent-there db name (Some row) lent some = sym (ap is_some lent)
