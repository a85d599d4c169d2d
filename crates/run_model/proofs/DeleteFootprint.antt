-- The footprint of a DELETE: its reply and what it writes depend on the rows of its item, and it writes no others.
use Rattle.std.proofs.Common.{◌≡◌, List, [], true, false, Option, Some, None, length, refl, ap, sym, subst}
use Rattle.std.specs.Prelude.{slice_get, slice_set}
use Rattle.std.specs.List.{list_any}
use Rattle.own_base.specs.declared.number.TableNo.{TableNo}
use Rattle.own_model.specs.declared.bound.BoundCond.{BoundCond}
use Rattle.own_model.specs.declared.footprint.FootItem.{FootItem}
use Rattle.own_model.specs.declared.reply.Reply.TheVariants.{Counted}
use Rattle.own_model.specs.declared.schema.TableDef.{TableDef}
use Rattle.own_model.specs.Db.{Db, Row}
use Rattle.own_model.specs.Stored.{rows_at}
use Rattle.query_model.specs.Footprints.{by_condition, item, key_column, pinned_key}
use Rattle.run_model.specs.Agree.{AgreeOn, overlaps}
use Rattle.run_model.specs.Run.{delete}
use Rattle.run_model.specs.Update.{rows_left}
use Rattle.run_model.proofs.DeleteLookups.{same-left, still-left}
use Rattle.run_model.proofs.Overlaps.{apart_key, none_passes}
use Rattle.run_model.proofs.PinnedRows.{same-kept}
use Rattle.run_model.proofs.TableRows.{AreInPlace, agree-stored, no_rows, none_put, rows_put, still-stored}

-- the rows left stand in the table, be it there or not
rows_left_put : (db : Db) → AreInPlace db → (number : TableNo) (cond : Option BoundCond)
    → rows_at (slice_set db.rows number.0 (rows_left cond (rows_at db.rows number.0))) number.0 ≡ rows_left cond (rows_at db.rows number.0)
unfolding rows_left
rows_left_put db place number cond = by (slice_get db.schema.tables number.0) refl
  where
    by : (found : Option TableDef) → slice_get db.schema.tables number.0 ≡ found
        → rows_at (slice_set db.rows number.0 (rows_left cond (rows_at db.rows number.0))) number.0 ≡ rows_left cond (rows_at db.rows number.0)
    by (Some table) is = rows_put db.schema.tables db.rows number.0 table (rows_left cond (rows_at db.rows number.0)) place.ordered.rising is
    by None is =
        let none : rows_at db.rows number.0 ≡ [] = no_rows db.schema.tables db.rows number.0 place.ordered.rising is in
        subst (λ rows. rows_at (slice_set db.rows number.0 (rows_left cond rows)) number.0 ≡ rows_left cond rows) (sym none)
        (none_put db.schema.tables db.rows number.0 place.ordered.rising is)

module _ (db other : Db) (schema : db.schema ≡ other.schema) (place : AreInPlace db) (places : AreInPlace other)
    (number : TableNo) (cond : Option BoundCond) (agree : AgreeOn db other (item number (pinned_key (key_column db.schema number) cond) true)) where
  -- the reply is the same
  pub same_reply-delete : (delete db number.0 cond).reply ≡ (delete other number.0 cond).reply
  unfolding delete
  same_reply-delete = ap (λ (rows : List Row). Counted (length rows)) (same-kept db other schema place places number cond true agree)

  -- an item on which they agree stays one
  pub same_left-delete : (own : FootItem) → AgreeOn db other own → AgreeOn (delete db number.0 cond).db (delete other number.0 cond).db own
  unfolding delete
  same_left-delete =
      agree-stored db other schema number.0 _ _ 0 0 (rows_left_put db place number cond) (rows_left_put other places number cond)
      (λ key same. same-left cond db other schema place places number key same)

-- an item that the DELETE's doesn't overlap stays as it was
pub still-delete : (db : Db) → AreInPlace db → (number : TableNo) (cond : Option BoundCond) (other : FootItem)
    → list_any (λ own. overlaps own other) (by_condition db.schema number cond true) ≡ false → AgreeOn db (delete db number.0 cond).db other
unfolding delete
still-delete db place number cond other apart =
    still-stored db number.0 _ 0 (rows_left_put db place number cond) other
    (λ at. still-left cond db place number other.key
    (apart_key number (pinned_key (key_column db.schema number) cond) other (none_passes (λ own. overlaps own other) (by_condition db.schema number cond true) apart).0 at))
