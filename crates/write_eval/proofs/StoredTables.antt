-- The tables of a database as statements leave it may be selected from.
use Rattle.own_model.specs.Db.{Db}
use Rattle.query_eval.specs.Tables.{AreTables}
use Rattle.state_model.specs.Sound.{IsWellFormed}
use Rattle.state_model.proofs.StoredRows.{all_stored}

-- their keys rise, and no sum stands in their rows
pub stored_tables : (db : Db) → IsWellFormed db → AreTables db.schema db.rows
stored_tables db kept = record { rising = kept.ordered.rising; stored = all_stored db.schema.tables db.rows kept.rows }
