-- What a call may rest on behind a history: a sound state, and where a transaction is open what it changed in that.
use Rattle.std.proofs.Common.{◌≡◌, ◌≢◌, ℕ, Result, Ok, Err, ap, subst, sym, true}
use Rattle.std.specs.Prelude.{IfOk, OnErr}
use Rattle.own_model.specs.declared.history.Entry.{Entry}
use Rattle.own_model.specs.declared.limit.TheConstants.{STATEMENT_BYTES}
use Rattle.own_model.specs.declared.refusal.Refusal.{Refusal}
use Rattle.own_model.specs.declared.refusal.Refusal.TheVariants.{Memory}
use Rattle.own_model.specs.declared.reply.Reply.{Reply}
use Rattle.own_model.specs.declared.reply.Reply.TheVariants.{Refused}
use Rattle.own_model.specs.declared.request.Request.TheVariants.{Run}
use Rattle.own_model.specs.declared.statement.Statement.{Statement}
use Rattle.own_model.specs.Db.{Db}
use Rattle.grammar_model.specs.Readable.{IsReadable, IsWritten}
use Rattle.state_model.specs.Rows.{AreRowsOf}
use Rattle.state_model.specs.Sound.{Sound}
use Rattle.history_model.specs.History.{History, flat, standing, world}
use Rattle.history_model.specs.World.{World}
use Rattle.txn_space.specs.Changed.{changed_rows}
use Rattle.txn_space.specs.Sound.{IsBase, IsSpaceOf}
use Rattle.txn_core.specs.declared.session_state.SessionState.{SessionState}
use Rattle.txn_core.specs.SessionStates.{is_open, state_by}
use Rattle.txn_core.specs.Runs.{IsStore}
use Rattle.txn_core.specs.Transactions.{IsQuietState, space_of}
use Rattle.txn_core.proofs.OpenBlocks.{rows_shown}
use Rattle.txn_core.proofs.SoundBases.{base-sound, store-sound}
use Rattle.store_snapshot.proofs.KeptViews.{views_there-created}
use Rattle.engine_core.specs.RepresentsWorld.{IsEvent, ServesAlone}
use Rattle.engine_core.specs.declared.state.State.{State}
use Rattle.engine_core.proofs.NextWorlds.{sound-now}
use Rattle.engine_core.proofs.Stood.{IsOpenTxn, stood-open}

-- a statement that is asked for can be read
pub written-event : (history : History) (entry : Entry) (before : State) (asked : Statement) → IsEvent before history entry → entry.request ≡ Run asked → IsWritten STATEMENT_BYTES asked
written-event history entry before asked event asks = subst IsReadable asks event.is_entry.readable

-- a refusal is reported, unless it is for want of memory
pub serves-either : {E : Type 0} (base : Db) (history : History) (entry : Entry) (after : State) (why : Refusal) (result : Result Reply E)
    → IfOk result (λ reply. (reply ≡ Refused why) × (why ≢ Memory)) → OnErr result (why ≡ Memory)
    → (why ≢ Memory → ServesAlone {E = ℕ} base after history entry (Ok (Refused why))) → (why ≡ Memory → (e : E) → ServesAlone {E = E} base after history entry (Err e)) → ServesAlone base after history entry result
serves-either base history entry after why (Ok reply) told memory refused unmade =
    subst (λ reply. ServesAlone {E = ℕ} base after history entry (Ok reply)) (sym told.0) (refused told.1)
serves-either base history entry after why (Err e) told memory refused unmade = unmade memory e

module _ (history : History) (entry : Entry) (before : State) (event : IsEvent before history entry) where
  abbrev now : World
  now = world before.opened history

  -- nothing is wrong with the state
  pub sound-event : Sound before.version
  sound-event = subst Sound (sym event.stands.flat) (sound-now history entry event.entries event.is_entry before event.begun event.stands event.up)

  pub base-event : IsBase before.version.schema.tables before.version.rows
  base-event = base-sound before.version sound-event

  pub store-event : IsStore before.version
  store-event = store-sound before.version sound-event (views_there-created before.version sound-event.well_formed.created)

  -- where a transaction is open
  module _ (opened : is_open (state_by before.txns.states entry.session.0) ≡ true) where
    abbrev own : SessionState
    own = state_by before.txns.states entry.session.0

    is : IsOpenTxn now.flat own (now.standing entry.session.0)
    is = stood-open now.flat own (now.standing entry.session.0) (event.stands.states entry.session.0) opened

    space_is : is.txn.space ≡ space_of own
    space_is = sym (ap space_of is.is_kept)

    -- its changes are of the tables that are there
    pub space-event : IsSpaceOf before.version.schema.tables (space_of (state_by before.txns.states entry.session.0))
    space-event =
        subst (λ space. IsSpaceOf before.version.schema.tables space) space_is
        (subst (λ (db : Db). IsSpaceOf db.schema.tables is.txn.space) (sym event.stands.flat) is.kept_as.0.sound)

    shown : AreRowsOf now.flat.schema.tables (changed_rows now.flat.schema.tables now.flat.rows is.txn.space)
    unfolding flat standing
    shown = rows_shown before.opened history event.begun event.entries entry.session.0 is.begun is.block is.stands is.txn.space is.kept_as.0

    -- the rows that they show may stand there
    pub rows-event : AreRowsOf before.version.schema.tables (changed_rows before.version.schema.tables before.version.rows (space_of (state_by before.txns.states entry.session.0)))
    rows-event =
        subst (λ space. AreRowsOf before.version.schema.tables (changed_rows before.version.schema.tables before.version.rows space)) space_is
        (subst (λ (db : Db). AreRowsOf db.schema.tables (changed_rows db.schema.tables db.rows is.txn.space)) (sym event.stands.flat) shown)

    -- and they are none where it has run no write
    pub quiet-event : IsQuietState (state_by before.txns.states entry.session.0)
    quiet-event = subst IsQuietState (sym is.is_kept) is.kept_as.1
