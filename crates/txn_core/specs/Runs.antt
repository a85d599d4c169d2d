-- What a statement in a transaction comes to, over rows that others may change between its statements.
use Rattle.std.specs.Prelude.{◌≡◌, ◌<◌, ◌^◌, ◌⊎◌, ℕ, List, Bool, false, true, Some, is_some, length}
use Rattle.std.specs.List.{list_any}
use Rattle.own_base.specs.Key.{key_cmp}
use Rattle.own_base.specs.declared.row_name.RowName.{RowName}
use Rattle.own_model.specs.declared.bound.Bound.{Bound}
use Rattle.own_model.specs.declared.bound.Bound.TheVariants.{Select}
use Rattle.own_model.specs.declared.footprint.FootItem.{FootItem}
use Rattle.own_model.specs.declared.reply.Reply.{Reply}
use Rattle.own_model.specs.declared.schema.Schema.{Schema}
use Rattle.own_model.specs.Db.{AreRising, Db}
use Rattle.own_model.specs.Stored.{rows_at}
use Rattle.page_model.specs.Found.{found}
use Rattle.query_model.specs.Footprints.{footprint_of, item}
use Rattle.readable_model.specs.Sources.{IsThere}
use Rattle.run_model.specs.Agree.{overlaps}
use Rattle.run_model.specs.Run.{run_bound}
use Rattle.txn_space.specs.declared.entry.Entry.{Entry}
use Rattle.txn_space.specs.Changed.{changed_db, changed_rows}
use Rattle.txn_space.specs.Entries.{entries_at, entry_key}
use Rattle.txn_space.specs.Sound.{IsSpaceOf}
use Rattle.write_eval.specs.Write.{IsWrite}
use Rattle.query_eval.specs.Views.{AreViewsThere}
use Rattle.state_model.specs.Sound.{IsWellFormed}
use Rattle.view_deltas.specs.declared.kept_view.KeptView.{KeptView}
use Rattle.view_select.specs.ShowsViews.{ShowsViews}

-- rows that transactions may stand on: by rising key, few enough for those of a transaction beside them, and views of tables
-- that are there
pub record IsStore (db : Db) : Type 0 where
  pub rising : AreRising db.schema.tables db.rows
  pub few : (number : ℕ) → length (rows_at db.rows number) < 2 ^ 62
  pub views : AreViewsThere db.schema

-- what is kept for views shows those of a database that statements leave
abbrev pub IsShownBy : Db → List KeptView → Type 0
IsShownBy db kept = IsWellFormed db × ShowsViews db kept

-- a SELECT whose source is there, or a write, as binding leaves them
abbrev pub IsRowStatement : Schema → Bound → Type 0
IsRowStatement schema (Select query) = IsThere schema query
IsRowStatement schema bound = IsWrite schema bound

-- a SELECT
abbrev pub IsSelect : Bound → Type 0
IsSelect (Select query) = Unit {0}
IsSelect bound = ⊥

-- whether a transaction has changed the row of a name
abbrev pub is_entered : List (List Entry) → RowName → Bool
is_entered space name = is_some (found entry_key key_cmp name.key (entries_at space name.table.0))

-- whether one of some items is that of a write, and the row of a name lies on it: one that stands in the way of who reads it
abbrev pub is_written : List FootItem → RowName → Bool
is_written items name = list_any (λ own. overlaps own (item name.table (Some name.key) false)) items

-- The reply is that of the statement over what the transaction sees, and afterwards it sees what the statement leaves. It
-- has changed no further rows than those that the statement may write; a SELECT changes none.
pub record HasRun (db : Db) (bound : Bound) (before : List (List Entry)) (reply : Reply) (after : List (List Entry)) : Type 0 where
  pub told : (run_bound (changed_db db before) bound).reply ≡ reply
  pub rows : changed_rows db.schema.tables db.rows after ≡ (run_bound (changed_db db before) bound).db.rows
  pub sound : IsSpaceOf db.schema.tables after
  pub within : (name : RowName) → is_entered after name ≡ true → (is_entered before name ≡ true) ⊎ (is_written (footprint_of db.schema bound) name ≡ true)
  pub reads : IsSelect bound → after ≡ before
