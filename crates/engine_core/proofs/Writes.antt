-- What a write changes in a database, and who stands in its way.
use Rattle.std.proofs.Common.{◌≡◌, ◌∙◌, ℕ, List, ap, refl, sym, subst}
use Rattle.std.specs.Prelude.{Option, None, Some}
use Rattle.own_base.specs.declared.change.Change.{Change}
use Rattle.own_model.specs.declared.bound.Bound.{Bound}
use Rattle.own_model.specs.declared.footprint.FootItem.{FootItem}
use Rattle.own_model.specs.declared.history.Verdict.{Verdict}
use Rattle.own_model.specs.declared.refusal.Refusal.{Refusal}
use Rattle.own_model.specs.declared.reply.Reply.{Reply}
use Rattle.own_model.specs.declared.reply.Reply.TheVariants.{Refused}
use Rattle.own_model.specs.Db.{Db, IsOrdered}
use Rattle.query_model.specs.Footprints.{footprint_of}
use Rattle.state_model.specs.Net.{net}
use Rattle.state_model.specs.Put.{put, put_rows}
use Rattle.state_model.proofs.NetLeads.{net_put}
use Rattle.run_model.specs.Run.{run_bound}
use Rattle.run_model.proofs.SameSchema.{same_schema-bound}
use Rattle.history_model.specs.Held.{Holding, held, holder}
use Rattle.history_model.specs.Reply.{unless_held, write_reply}
use Rattle.history_model.specs.World.{World}
use Rattle.row_locks.specs.SessionItems.{items_by as held_by}
use Rattle.row_locks.specs.RepresentsItems.{holder_among}
use Rattle.row_locks.proofs.Holders.{holder-alike, holder-of_world}
use Rattle.write_eval.specs.Write.{IsWrite}
use Rattle.txn_core.specs.Single.{NetTo}
use Rattle.txn_core.specs.Transactions.{IsSingleRefusal, conflict_of}
use Rattle.txn_core.proofs.OrderedWrites.{ordered-write}
use Rattle.engine_core.specs.RepresentsWorld.{RepresentsWorld}
use Rattle.engine_core.specs.declared.state.State.{State}

module _ (db : Db) (ordered : IsOrdered db) (bound : Bound) (write : IsWrite db.schema bound) (reply : Reply) (changes : List Change) (is : NetTo db (run_bound db bound) reply changes) where
  -- the database behind it is that with the changes
  pub left-changed : (run_bound db bound).db ≡ put db changes
  left-changed =
      let same = same_schema-bound db bound in
      let rows : put_rows db.schema.tables changes db.rows ≡ (run_bound db bound).db.rows =
      ap (λ changes. put_rows db.schema.tables changes db.rows) is.is_net ∙ net_put db (run_bound db bound).db ordered (ordered-write db bound ordered write) is.schema in
      λ i. record { creates = same.creates i; schema = same.schema i; rows = sym rows i }

  pub net-changed : changes ≡ net db (put db changes)
  net-changed = is.is_net ∙ ap (net db) left-changed

-- Who stands in its way
module _ (state : State) (world : World) (stands : RepresentsWorld state world) (session : ℕ) (bound : Bound) where
  abbrev items : List FootItem
  items = footprint_of state.version.schema bound

  -- is who the items that are kept tell of
  holder-kept : holder_among (held_by state.txns.held) session items ≡ holder world session items
  holder-kept = holder-alike state.txns.held (held world) stands.held items session ∙ holder-of_world world session items

  pub free-kept : holder_among (held_by state.txns.held) session (footprint_of state.version.schema bound) ≡ None
      → holder world session (footprint_of state.version.schema bound) ≡ None
  free-kept none = sym holder-kept ∙ none

  refused-as : (verdict : Verdict) (why : Refusal) (found : Option Holding) → IsSingleRefusal found state.version bound why
      → unless_held world found (write_reply verdict state.version (run_bound state.version bound)) ≡ Refused why
  refused-as verdict why (Some holding) is =
      ap (λ (db : Db). Refused (conflict_of db.schema holding)) (sym stands.flat) ∙ ap (λ why. Refused why) (sym is)
  refused-as verdict why None is = rw is refl

  -- and so is why it is refused, whatever the disk says
  pub refused-kept : (verdict : Verdict) (why : Refusal) → IsSingleRefusal (holder_among (held_by state.txns.held) session (footprint_of state.version.schema bound)) state.version bound why
      → unless_held world (holder world session (footprint_of state.version.schema bound)) (write_reply verdict state.version (run_bound state.version bound)) ≡ Refused why
  refused-kept verdict why is = refused-as verdict why (holder world session items) (subst (λ found. IsSingleRefusal found state.version bound why) holder-kept is)
