-- A database with changes laid over it is the one into which they are put.
use Rattle.std.proofs.Common.{◌≡◌, ◌∙◌, List, [], ap}
use Rattle.own_base.specs.declared.change.Change.{Change}
use Rattle.own_model.specs.Db.{Db, IsOrdered, Row}
use Rattle.state_model.specs.Put.{put, put_rows}
use Rattle.txn_space.specs.declared.entry.Entry.{Entry}
use Rattle.txn_space.specs.Changed.{changed_db, changed_rows}
use Rattle.txn_space.specs.Sound.{IsBase}
use Rattle.txn_space.proofs.OverLemmas.{changed_none}
use Rattle.store_version.specs.AreFew.{AreFew}

pub laid : (db : Db) (changes : List Change) (space before : List (List Entry)) → IsOrdered db → AreFew db.rows → before ≡ []
    → ((rows : List (List Row)) → IsBase db.schema.tables rows → changed_rows db.schema.tables rows space ≡ put_rows db.schema.tables changes (changed_rows db.schema.tables rows before))
    → changed_db db space ≡ put db changes
laid db changes space before ordered few none puts =
    let rows : changed_rows db.schema.tables db.rows space ≡ put_rows db.schema.tables changes db.rows =
    puts db.rows (record { rising = ordered.rising; few = few })
    ∙ ap (put_rows db.schema.tables changes) (ap (changed_rows db.schema.tables db.rows) none ∙ changed_none 0 db.schema.tables db.rows ordered.rising) in
    λ i. record { creates = db.creates; schema = db.schema; rows = rows i }
