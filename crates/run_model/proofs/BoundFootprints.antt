-- The law of footprints on bound statements: a SELECT, an INSERT, an UPDATE or a DELETE answers and writes by the rows of its
-- footprint alone, and it writes no others.
use Rattle.std.proofs.Common.{◌≡◌, false, Some, ap}
use Rattle.std.specs.Prelude.{slice_get}
use Rattle.std.specs.List.{list_any}
use Rattle.own_model.specs.declared.bound.Bound.{Bound}
use Rattle.own_model.specs.declared.bound.Bound.TheVariants.{Delete, Explain, Forget, Get, Insert, Select, Update}
use Rattle.own_model.specs.declared.footprint.FootItem.{FootItem}
use Rattle.own_model.specs.declared.schema.Schema.{Schema}
use Rattle.own_model.specs.declared.schema.TableDef.{TableDef}
use Rattle.own_model.specs.Db.{Db}
use Rattle.query_model.specs.Footprints.{footprint_of}
use Rattle.query_model.specs.Query.{reply_of}
use Rattle.run_model.specs.Agree.{Agree, AgreeOn, overlaps}
use Rattle.run_model.specs.Run.{run_bound}
use Rattle.run_model.proofs.DeleteFootprint.{same_left-delete, same_reply-delete, still-delete}
use Rattle.run_model.proofs.InsertFootprint.{same_left-insert, same_reply-insert, still-insert}
use Rattle.run_model.proofs.RisingKeys.{AreKeyless}
use Rattle.run_model.proofs.SelectLookups.{same-query}
use Rattle.run_model.proofs.TableRows.{AreInPlace, agree_itself}
use Rattle.run_model.proofs.UpdateFootprint.{same_left-update, same_reply-update, still-update}

-- one of the four that have a footprint, where an UPDATE sets no primary key
abbrev pub IsFootprinted : Schema → Bound → Type 0
IsFootprinted schema (Select query) = Unit {0}
IsFootprinted schema (Insert number tuples) = Unit {0}
IsFootprinted schema (Update number sets cond) = (table : TableDef) → slice_get schema.tables number.0 ≡ Some table → AreKeyless table sets
IsFootprinted schema (Delete number cond) = Unit {0}
IsFootprinted schema _ = ⊥

module _ (db other : Db) (place : AreInPlace db) (places : AreInPlace other) where
  -- Databases that agree on the footprint give the same reply.
  pub same_reply-run_bound : (bound : Bound) → IsFootprinted db.schema bound → Agree (footprint_of db.schema bound) db other
      → (run_bound db bound).reply ≡ (run_bound other bound).reply
  unfolding run_bound footprint_of
  same_reply-run_bound (Select query) has agree = ap reply_of (same-query db other agree.schema place places query agree.on)
  same_reply-run_bound (Insert number tuples) has agree = same_reply-insert db other agree.schema place places number tuples agree.on
  same_reply-run_bound (Update number sets cond) has agree = same_reply-update db other agree.schema place places number sets cond agree.on.0
  same_reply-run_bound (Delete number cond) has agree = same_reply-delete db other agree.schema place places number cond agree.on.0
  same_reply-run_bound (Get subject) has agree = absurd has
  same_reply-run_bound (Forget subject) has agree = absurd has
  same_reply-run_bound Explain has agree = absurd has

  -- They agree behind it on each item on which they agreed before.
  pub same_left-run_bound : (bound : Bound) → IsFootprinted db.schema bound → Agree (footprint_of db.schema bound) db other
      → (own : FootItem) → AgreeOn db other own → AgreeOn (run_bound db bound).db (run_bound other bound).db own
  unfolding run_bound footprint_of
  same_left-run_bound (Select query) has agree own before = before
  same_left-run_bound (Insert number tuples) has agree own before = same_left-insert db other agree.schema place places number tuples agree.on own before
  same_left-run_bound (Update number sets cond) has agree own before = same_left-update db other agree.schema place places number sets cond agree.on.0 has own before
  same_left-run_bound (Delete number cond) has agree own before = same_left-delete db other agree.schema place places number cond agree.on.0 own before
  same_left-run_bound (Get subject) has agree own before = absurd has
  same_left-run_bound (Forget subject) has agree own before = absurd has
  same_left-run_bound Explain has agree own before = absurd has

-- An item that no item of the footprint overlaps stays as it was.
pub still-run_bound : (db : Db) → AreInPlace db → (bound : Bound) → IsFootprinted db.schema bound
    → (other : FootItem) → list_any (λ own. overlaps own other) (footprint_of db.schema bound) ≡ false → AgreeOn db (run_bound db bound).db other
unfolding run_bound footprint_of
still-run_bound db place (Select query) has other apart = agree_itself db other
still-run_bound db place (Insert number tuples) has other apart = still-insert db place number tuples other apart
still-run_bound db place (Update number sets cond) has other apart = still-update db place number sets cond has other apart
still-run_bound db place (Delete number cond) has other apart = still-delete db place number cond other apart
still-run_bound db place (Get subject) has other apart = absurd has
still-run_bound db place (Forget subject) has other apart = absurd has
still-run_bound db place Explain has other apart = absurd has
