-- The footprint of an UPDATE: its reply and what it writes depend on the rows of its item, and it writes no others.
use Rattle.std.proofs.Common.{◌≡◌, ℕ, List, true, false, Option, Some, None, refl, ap, subst}
use Rattle.std.specs.Prelude.{filter, slice_get}
use Rattle.std.specs.List.{list_any}
use Rattle.own_base.specs.declared.number.TableNo.{TableNo}
use Rattle.own_model.specs.declared.bound.BoundCond.{BoundCond}
use Rattle.own_model.specs.declared.footprint.FootItem.{FootItem}
use Rattle.own_model.specs.declared.refusal.Refusal.{Refusal}
use Rattle.own_model.specs.declared.schema.TableDef.{TableDef}
use Rattle.own_model.specs.Db.{Db, Row}
use Rattle.own_model.specs.Stored.{rows_at}
use Rattle.query_model.specs.Footprints.{by_condition, item, key_column, pinned_key}
use Rattle.query_model.specs.Truth.{keeps}
use Rattle.run_model.specs.Agree.{AgreeOn, overlaps}
use Rattle.run_model.specs.Run.{stored_unless, update, update_in}
use Rattle.run_model.specs.Update.{Sets, updated_rows}
use Rattle.run_model.proofs.Overlaps.{apart_key, none_passes}
use Rattle.run_model.proofs.PinnedRows.{same-kept}
use Rattle.run_model.proofs.RisingKeys.{AreKeyless}
use Rattle.run_model.proofs.TableRows.{AreInPlace, agree-stored, agree_itself, rows_put, still-stored}
use Rattle.run_model.proofs.UpdateLookups.{same-updated, still-updated}

module _ (db other : Db) (schema : db.schema ≡ other.schema) (place : AreInPlace db) (places : AreInPlace other)
    (number : TableNo) (sets : Sets) (cond : Option BoundCond) (agree : AgreeOn db other (item number (pinned_key (key_column db.schema number) cond) true)) where
  kept : filter (keeps cond) (rows_at db.rows number.0) ≡ filter (keeps cond) (rows_at other.rows number.0)
  kept = same-kept db other schema place places number cond true agree

  reply_unless : (rows others : List Row) (count : ℕ) (why : Option Refusal)
      → (stored_unless db number.0 rows count why).reply ≡ (stored_unless other number.0 others count why).reply
  reply_unless rows others count None = refl
  reply_unless rows others count (Some why) = refl

  reply_update : (found : Option TableDef) → (update_in db number.0 sets cond found).reply ≡ (update_in other number.0 sets cond found).reply
  reply_update None = refl
  reply_update (Some table) = rw kept (reply_unless _ _ _ _)

  -- the reply is the same
  pub same_reply-update : (update db number.0 sets cond).reply ≡ (update other number.0 sets cond).reply
  unfolding update
  same_reply-update =
      subst (λ tables. (update db number.0 sets cond).reply ≡ (update_in other number.0 sets cond (slice_get tables number.0)).reply)
      (ap (λ schema. schema.tables) schema) (reply_update _)

  module _ (spared : (table : TableDef) → slice_get db.schema.tables number.0 ≡ Some table → AreKeyless table sets)
      (own : FootItem) (before : AgreeOn db other own) where
    agree_unless : (table : TableDef) → slice_get db.schema.tables number.0 ≡ Some table → (count : ℕ) (why : Option Refusal)
        → AgreeOn (stored_unless db number.0 (updated_rows sets cond (rows_at db.rows number.0)) count why).db
        (stored_unless other number.0 (updated_rows sets cond (rows_at other.rows number.0)) count why).db own
    agree_unless table is count None =
        agree-stored db other schema number.0 _ _ count count (rows_put db.schema.tables db.rows number.0 table _ place.ordered.rising is)
        (rows_put other.schema.tables other.rows number.0 table _ places.ordered.rising (rw (← schema) is))
        (λ key same. same-updated sets cond db.schema number spared key _ _ same) own before
    agree_unless table is count (Some why) = before

    agree_update : (found : Option TableDef) → slice_get db.schema.tables number.0 ≡ found → AgreeOn (update_in db number.0 sets cond found).db (update_in other number.0 sets cond found).db own
    agree_update None is = before
    agree_update (Some table) is = rw kept (agree_unless table is _ _)

    -- an item on which they agree stays one
    pub same_left-update : AgreeOn (update db number.0 sets cond).db (update other number.0 sets cond).db own
    unfolding update
    same_left-update =
        subst (λ tables. AgreeOn (update db number.0 sets cond).db (update_in other number.0 sets cond (slice_get tables number.0)).db own)
        (ap (λ schema. schema.tables) schema) (agree_update _ refl)

-- An item that the UPDATE's doesn't overlap.
module _ (db : Db) (place : AreInPlace db) (number : TableNo) (sets : Sets) (cond : Option BoundCond)
    (spared : (table : TableDef) → slice_get db.schema.tables number.0 ≡ Some table → AreKeyless table sets)
    (other : FootItem) (apart : list_any (λ own. overlaps own other) (by_condition db.schema number cond true) ≡ false) where
  still_unless : (table : TableDef) → slice_get db.schema.tables number.0 ≡ Some table → (count : ℕ) (why : Option Refusal)
      → AgreeOn db (stored_unless db number.0 (updated_rows sets cond (rows_at db.rows number.0)) count why).db other
  still_unless table is count None =
      still-stored db number.0 _ count (rows_put db.schema.tables db.rows number.0 table _ place.ordered.rising is) other
      (λ at. still-updated sets cond db place number spared other.key
      (apart_key number (pinned_key (key_column db.schema number) cond) other (none_passes (λ own. overlaps own other) (by_condition db.schema number cond true) apart).0 at))
  still_unless table is count (Some why) = agree_itself db other

  still_update : (found : Option TableDef) → slice_get db.schema.tables number.0 ≡ found → AgreeOn db (update_in db number.0 sets cond found).db other
  still_update None is = agree_itself db other
  still_update (Some table) is = still_unless table is _ _

  -- it stays as it was
  pub still-update : AgreeOn db (update db number.0 sets cond).db other
  unfolding update
  still-update = still_update _ refl
