-- A CREATE that is admitted leaves a database as statements leave it.
use Rattle.std.proofs.Common.{◌≡◌, List, [], ◌∷◌, ◌++◌, refl}
use Rattle.std.specs.Prelude.{None}
use Rattle.std.specs.List.Sorted.{IsStrictlySortedBy}
use Rattle.own_model.specs.declared.create.CreateTable.{CreateTable}
use Rattle.own_model.specs.declared.create.CreateView.{CreateView}
use Rattle.own_model.specs.declared.request.Request.TheVariants.{Run}
use Rattle.own_model.specs.declared.schema.TableDef.{TableDef}
use Rattle.own_model.specs.Db.{AreRising, Db, IsOrdered, Row, empty}
use Rattle.own_model.specs.Stored.{holds_rows}
use Rattle.schema_model.specs.NewTable.{new_table}
use Rattle.schema_model.specs.Refusal.{refusal_of}
use Rattle.schema_model.specs.WithTable.{with_table}
use Rattle.query_model.specs.BoundView.{view_faults}
use Rattle.query_model.specs.Refused.{lowest}
use Rattle.grammar_model.specs.Readable.{IsReadable}
use Rattle.subject_model.specs.Named.{rows_from}
use Rattle.state_model.specs.Create.{create, create_view, with_view}
use Rattle.state_model.specs.Created.{OfTable, OfView, statement_of}
use Rattle.state_model.specs.Fault.{fault, over_rows, owner_faults, reference_faults, unique_faults}
use Rattle.state_model.specs.Rows.{AreRowsOf}
use Rattle.state_model.specs.Sound.{IsWellFormed, Sound}
use Rattle.state_model.specs.Weight.{weight}
use Rattle.state_model.proofs.CreatedLemmas.{created-create, created-create_view, created-empty}

-- a table more, without rows: the keys of each rise
pub rising-append : (tables : List TableDef) (rows : List (List Row)) (new : TableDef) → AreRising tables rows → AreRising (tables ++ new ∷ []) (rows ++ [] ∷ [])
unfolding IsStrictlySortedBy
rising-append [] [] new rising = (tt, tt)
rising-append [] (row ∷ rows) new rising = absurd rising
rising-append (table ∷ tables) [] new rising = absurd rising
rising-append (table ∷ tables) (row ∷ rows) new rising = (rising.0, rising-append tables rows new rising.1)

-- and its rows may stand in each
pub rows-append : (tables : List TableDef) (rows : List (List Row)) (new : TableDef) → AreRowsOf tables rows → AreRowsOf (tables ++ new ∷ []) (rows ++ [] ∷ [])
rows-append [] [] new are = (tt, tt)
rows-append [] (one ∷ rows) new are = absurd are
rows-append (table ∷ tables) [] new are = absurd are
rows-append (table ∷ tables) (one ∷ rows) new are = (are.0, rows-append tables rows new are.1)

-- so they do in the whole database
pub ordered-create : (db : Db) (table : CreateTable) → IsOrdered db → IsOrdered (create db table)
unfolding create with_table
ordered-create db table ordered = record { rising = rising-append db.schema.tables db.rows (new_table db.schema table) ordered.rising }

rows-create : (db : Db) (table : CreateTable) → AreRowsOf db.schema.tables db.rows → AreRowsOf (create db table).schema.tables (create db table).rows
unfolding create with_table
rows-create db table rows = rows-append db.schema.tables db.rows (new_table db.schema table) rows

-- a table more
pub kept-create : (db : Db) (table : CreateTable) → IsWellFormed db → IsReadable (Run (statement_of (OfTable table)))
    → refusal_of db.schema (holds_rows db.rows) table ≡ None → IsWellFormed (create db table)
kept-create db table kept readable admitted = record {
  created = created-create db table kept.created readable admitted;
  ordered = ordered-create db table kept.ordered;
  rows = rows-create db table kept.rows;
}

-- a view more changes no row
pub ordered-create_view : (db : Db) (view : CreateView) → IsOrdered db → IsOrdered (create_view db view)
unfolding create_view with_view
ordered-create_view db view ordered = record { rising = ordered.rising }

rows-create_view : (db : Db) (view : CreateView) → AreRowsOf db.schema.tables db.rows → AreRowsOf (create_view db view).schema.tables (create_view db view).rows
unfolding create_view with_view
rows-create_view db view rows = rows

-- a view more
pub kept-create_view : (db : Db) (view : CreateView) → IsWellFormed db → IsReadable (Run (statement_of (OfView view)))
    → lowest (view_faults db.schema view) ≡ None → IsWellFormed (create_view db view)
kept-create_view db view kept readable admitted = record {
  created = created-create_view db view kept.created readable admitted;
  ordered = ordered-create_view db view kept.ordered;
  rows = rows-create_view db view kept.rows;
}

-- the empty database
pub kept-empty : IsWellFormed empty
kept-empty = record { created = created-empty; ordered = record { rising = tt }; rows = tt }

faultless-empty : fault empty ≡ None
unfolding fault unique_faults reference_faults owner_faults over_rows weight rows_from
faultless-empty = refl

-- it has no fault
pub sound-empty : Sound empty
sound-empty = record { well_formed = kept-empty; faultless = faultless-empty }
