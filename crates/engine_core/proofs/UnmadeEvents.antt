-- Entries that memory may keep from being made.
use Rattle.std.proofs.Common.{◌≡◌, ℕ, ◌∙◌, List, [], Bool, true, false, ap, refl, sym, subst}
use Rattle.std.specs.Prelude.{Err, IsErr, Ok, Result}
use Rattle.own_base.specs.declared.change.Change.{Change}
use Rattle.own_model.specs.declared.history.Entry.{Entry}
use Rattle.own_model.specs.declared.history.Verdict.{Verdict}
use Rattle.own_model.specs.declared.reply.Reply.{Reply}
use Rattle.own_model.specs.declared.request.Request.{Request}
use Rattle.own_model.specs.declared.request.Request.TheVariants.{Run}
use Rattle.own_model.specs.declared.schema.Schema.{Schema}
use Rattle.own_model.specs.declared.statement.Statement.{Statement}
use Rattle.own_model.specs.declared.statement.Statement.TheVariants as of
use Rattle.own_model.specs.Db.{Db}
use Rattle.run_model.specs.Items.{TakesRows}
use Rattle.history_model.specs.History.{History, world}
use Rattle.history_model.specs.MayBeUnmade.{MayBeUnmadeFrom, MayBeUnmadeInside}
use Rattle.history_model.specs.World.{Block, SessionStanding, Outside, Open, World}
use Rattle.txn_core.specs.declared.session_state.SessionState.TheVariants as kept
use Rattle.txn_core.specs.SessionStates.{is_open, state_by}
use Rattle.txn_core.specs.Transactions.{wrote_of}
use Rattle.engine_core.specs.Asked.{RunsByItself}
use Rattle.engine_core.specs.RepresentsWorld.{IsEvent, RepresentsWorld, Serves}
use Rattle.engine_core.specs.declared.state.State.{State}
use Rattle.engine_core.proofs.Stood.{IsOpenTxn, stood-open, stood-outside}

outside_may : (schema : Schema) (asked : Statement) → RunsByItself asked → MayBeUnmadeFrom schema Outside (Run asked)
outside_may schema of.Begin itself = absurd itself
outside_may schema (of.CreateTable table) itself = tt
outside_may schema (of.CreateView view) itself = tt
outside_may schema (of.Insert table columns rows) itself = tt
outside_may schema (of.Update table sets cond) itself = tt
outside_may schema (of.Delete table cond) itself = tt
outside_may schema (of.Select select) itself = tt
outside_may schema of.Commit itself = absurd itself
outside_may schema of.Rollback itself = absurd itself
outside_may schema (of.GdprGet table key) itself = tt
outside_may schema (of.GdprForget table key) itself = tt
outside_may schema of.Explain itself = tt
outside_may schema of.Checkpoint itself = absurd itself

within_may : (schema : Schema) (block : Block) (asked : Statement) → TakesRows asked → MayBeUnmadeInside schema block asked
within_may schema block (of.Select select) takes = tt
within_may schema block (of.Insert table columns rows) takes = tt
within_may schema block (of.Update table sets cond) takes = tt
within_may schema block (of.Delete table cond) takes = tt
within_may schema block _ takes = absurd takes

module _ (history : History) (entry : Entry) (before : State) (event : IsEvent before history entry) where
  abbrev now : World
  now = world before.opened history

  abbrev session : ℕ
  session = entry.session.0

  may_from : (stood : SessionStanding) (request : Request) → now.standing session ≡ stood → entry.request ≡ request → MayBeUnmadeFrom now.flat.schema stood request
      → MayBeUnmadeFrom now.flat.schema (now.standing session) entry.request
  may_from stood request stands asks may =
      subst (λ stood. MayBeUnmadeFrom now.flat.schema stood entry.request) (sym stands)
      (subst (λ request. MayBeUnmadeFrom now.flat.schema stood request) (sym asks) may)

  -- outside a transaction a statement that runs by itself
  pub unmade-outside : state_by before.txns.states entry.session.0 ≡ kept.Nothing → (asked : Statement) → entry.request ≡ Run asked → RunsByItself asked
      → MayBeUnmadeFrom (world before.opened history).flat.schema ((world before.opened history).standing entry.session.0) entry.request
  unmade-outside nothing asked asks itself =
      may_from Outside (Run asked) (stood-outside now.flat (state_by before.txns.states session) (now.standing session) (event.stands.states session) nothing) asks
      (outside_may now.flat.schema asked itself)

  -- a CHECKPOINT there
  pub unmade-checkpoint : state_by before.txns.states entry.session.0 ≡ kept.Nothing → entry.request ≡ Run of.Checkpoint
      → MayBeUnmadeFrom (world before.opened history).flat.schema ((world before.opened history).standing entry.session.0) entry.request
  unmade-checkpoint nothing asks =
      may_from Outside (Run of.Checkpoint) (stood-outside now.flat (state_by before.txns.states session) (now.standing session) (event.stands.states session) nothing) asks tt

  module _ (opened : is_open (state_by before.txns.states entry.session.0) ≡ true) where
    is : IsOpenTxn now.flat (state_by before.txns.states session) (now.standing session)
    is = stood-open now.flat (state_by before.txns.states session) (now.standing session) (event.stands.states session) opened

    -- in one a statement that takes rows
    pub unmade-within : (asked : Statement) → entry.request ≡ Run asked → TakesRows asked
        → MayBeUnmadeFrom (world before.opened history).flat.schema ((world before.opened history).standing entry.session.0) entry.request
    unmade-within asked asks takes = may_from (Open is.begun is.block) (Run asked) is.stands asks (within_may now.flat.schema is.block asked takes)

    -- and a COMMIT where it has run a write
    pub unmade-commit : entry.request ≡ Run of.Commit → wrote_of (state_by before.txns.states entry.session.0) ≡ true
        → MayBeUnmadeFrom (world before.opened history).flat.schema ((world before.opened history).standing entry.session.0) entry.request
    unmade-commit asks wrote =
        may_from (Open is.begun is.block) (Run of.Commit) is.stands asks (is.kept_as.2 (sym (ap wrote_of is.is_kept) ∙ wrote))

-- it has where it changes something
pub wrote-some : (wrote : Bool) (made : List Change) → (wrote ≡ false → made ≡ []) → (made ≡ [] → ⊥) → wrote ≡ true
wrote-some true made none some = refl
wrote-some false made none some = absurd (some (none refl))

-- where memory is refused and the state is as it was, the entry was served so
pub serves-refused : {E : Type 0} (base : Db) (after : State) (history : History) (entry : Entry) (told : Result (Verdict × Reply) E) → IsErr told → RepresentsWorld after (world base history)
    → MayBeUnmadeFrom (world base history).flat.schema ((world base history).standing entry.session.0) entry.request → Serves base after history entry told
serves-refused base after history entry (Ok reply) refused stands may = absurd (cc)
serves-refused base after history entry (Err why) refused stands may = (stands, may)
