-- The name of a row that a store keeps is short.
use Rattle.std.proofs.Common.{◌≡◌, ◌∙◌, true, ap, refl, sym}
use Rattle.std.specs.Prelude.{Option, None, Some, find, is_some, slice_get}
use Rattle.own_base.specs.declared.row_name.RowName.{RowName}
use Rattle.own_model.specs.declared.schema.TableDef.{TableDef}
use Rattle.own_model.specs.Db.{Db, Row}
use Rattle.own_model.specs.Stored.{has_key, rows_at}
use Rattle.subject_model.specs.Named.{is_there}
use Rattle.subject_model.proofs.NamedLemmas.{table-there}
use Rattle.state_model.specs.Sound.{Sound}
use Rattle.state_model.proofs.NetRows.{named_at}
use Rattle.disk_model.specs.Bounds.{IsShortName}
use Rattle.check_image.proofs.SoundImages.{sound_rows}
use Rattle.commit_record.proofs.NetFollows.{key-short, rows-may, rows-short}

found-name : (db : Db) (name : RowName) (table : TableDef) (row : Option Row) → Sound db → slice_get db.schema.tables name.table.0 ≡ Some table
    → find (has_key table name.key) (rows_at db.rows name.table.0) ≡ row → is_some row ≡ true → IsShortName name
found-name db name table None sound is found there = absurd (cc)
found-name db name table (Some row) sound is found there =
    let may = rows-may db.schema.tables db.rows name.table.0 table sound.well_formed.rows is in
    let short = rows-short db.rows name.table.0 (sound_rows db sound).0 in
    key-short table (rows_at db.rows name.table.0) name.key row may short found

pub there-short : (db : Db) (name : RowName) → Sound db → is_there db name ≡ true → IsShortName name
there-short db name sound there =
    let table = table-there db name there in
    found-name db name table.0 _ sound table.1 refl (ap is_some (sym (named_at db name table.0 table.1)) ∙ there)
