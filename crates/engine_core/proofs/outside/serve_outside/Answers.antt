use Rattle.std.proofs.Common.{◌∙◌, ◌+◌, ap, inl, inr, refl, subst}
use Rattle.own_model.specs.declared.refusal.Refusal.TheVariants as refusal
use Rattle.own_model.specs.declared.reply.Reply.TheVariants.{Done, Refused}
use Rattle.own_model.specs.declared.request.Request.TheVariants.{Run}
use Rattle.own_model.specs.declared.statement.Statement.{Statement}
use Rattle.history_model.specs.AsksDisk.{under}
use Rattle.history_model.specs.Commits.{is_create}
use Rattle.txn_core.proofs.Statements.{none_moved}
use Rattle.engine_core.proofs.CheckpointEvents.{serves-checkpoint, stores-checkpoint}
use Rattle.engine_core.proofs.Decided.{event-under, serves-alone, stores-alone}
use Rattle.engine_core.proofs.InstalledEvents.{numbered-by, serves-result, stores-result}
use Rattle.engine_core.proofs.OpenStates.{sound-event, written-event}
use Rattle.engine_core.proofs.Sizes.{numbered-as}
use Rattle.engine_core.specs.Answered.{IsNumbered}
use Rattle.run_model.specs.Run.{run}
use Rattle.engine_core.proofs.OutsideReplies.{runs-itself}
use Rattle.engine_core.proofs.PromptEvents.{serves-begin, serves-commit_outside, serves-rollback_outside}
use Rattle.engine_core.proofs.outside.serve_outside.Goals as goal

-- BEGIN
pub returns-in-Begin-clause-served : goal.returns-in-Begin-clause-served
returns-in-Begin-clause-served g c =
    serves-alone c.args.history.now c.args.entry.now c.args.state.now _ c.requires.event (Done)
    (λ verdict. serves-begin c.args.history.now (under verdict c.args.entry.now) c.args.state.now _ (event-under c.args.history.now c.args.entry.now c.args.state.now verdict c.requires.event) refl refl c.requires.outside
    (c.requires.asks ∙ ap (λ (asked : Statement). Run asked) c.in-Begin.is) c.begin.ensures.others c.begin.ensures.begun c.begin.ensures.held) refl

pub returns-in-Begin-clause-stored : goal.returns-in-Begin-clause-stored
returns-in-Begin-clause-stored g c =
    let D = g.D.Disk in
    stores-alone c.args.history.now c.args.entry.now c.args.state.now (record (c.args.state.now) { txns = c.begin.new.self }) c.requires.event (Done)
    (λ verdict. serves-begin c.args.history.now (under verdict c.args.entry.now) c.args.state.now _ (event-under c.args.history.now c.args.entry.now c.args.state.now verdict c.requires.event) refl refl c.requires.outside
    (c.requires.asks ∙ ap (λ (asked : Statement). Run asked) c.in-Begin.is) c.begin.ensures.others c.begin.ensures.begun c.begin.ensures.held) refl
    c.requires.took refl (inr (ap is_create (c.requires.asks ∙ ap (λ (asked : Statement). Run asked) c.in-Begin.is))) D.holds D.leaves D.moment D.might_have_left g.met.D.Disk.only_now D.honest D.faults c.args.store.now c.requires.store

-- a COMMIT or a ROLLBACK of no transaction
pub returns-in-Commit-clause-served : goal.returns-in-Commit-clause-served
returns-in-Commit-clause-served g c =
    serves-alone c.args.history.now c.args.entry.now c.args.state.now c.args.state.now c.requires.event (Refused refusal.Outside)
    (λ verdict. elim c.in-Commit.is [
      | inl is ↦ serves-commit_outside c.args.history.now (under verdict c.args.entry.now) c.args.state.now c.args.state.now (event-under c.args.history.now c.args.entry.now c.args.state.now verdict c.requires.event) refl refl c.requires.outside
          (c.requires.asks ∙ ap (λ (asked : Statement). Run asked) is) (none_moved c.args.state.now.txns)
      | inr is ↦ serves-rollback_outside c.args.history.now (under verdict c.args.entry.now) c.args.state.now c.args.state.now (event-under c.args.history.now c.args.entry.now c.args.state.now verdict c.requires.event) refl refl c.requires.outside
          (c.requires.asks ∙ ap (λ (asked : Statement). Run asked) is) (none_moved c.args.state.now.txns)
    ]) refl

pub returns-in-Commit-clause-stored : goal.returns-in-Commit-clause-stored
returns-in-Commit-clause-stored g c =
    let D = g.D.Disk in
    stores-alone c.args.history.now c.args.entry.now c.args.state.now c.args.state.now c.requires.event (Refused refusal.Outside)
    (λ verdict. elim c.in-Commit.is [
      | inl is ↦ serves-commit_outside c.args.history.now (under verdict c.args.entry.now) c.args.state.now c.args.state.now (event-under c.args.history.now c.args.entry.now c.args.state.now verdict c.requires.event) refl refl c.requires.outside
          (c.requires.asks ∙ ap (λ (asked : Statement). Run asked) is) (none_moved c.args.state.now.txns)
      | inr is ↦ serves-rollback_outside c.args.history.now (under verdict c.args.entry.now) c.args.state.now c.args.state.now (event-under c.args.history.now c.args.entry.now c.args.state.now verdict c.requires.event) refl refl c.requires.outside
          (c.requires.asks ∙ ap (λ (asked : Statement). Run asked) is) (none_moved c.args.state.now.txns)
    ]) refl
    c.requires.took refl (inl refl) D.holds D.leaves D.moment D.might_have_left g.met.D.Disk.only_now D.honest D.faults c.args.store.now c.requires.store

-- a CHECKPOINT
pub checkpoint-requires-clause-sound : goal.checkpoint-requires-clause-sound
checkpoint-requires-clause-sound g c = sound-event c.args.history.now c.args.entry.now c.args.state.now c.requires.event

pub returns-in-Checkpoint-clause-served : goal.returns-in-Checkpoint-clause-served
returns-in-Checkpoint-clause-served g c =
    serves-checkpoint c.args.history.now c.args.entry.now c.args.state.now c.requires.event c.requires.outside (c.requires.asks ∙ ap (λ (asked : Statement). Run asked) c.in-Checkpoint.is)
    c.checkpoint.result c.checkpoint.ensures.told

pub returns-in-Checkpoint-clause-stored : goal.returns-in-Checkpoint-clause-stored
returns-in-Checkpoint-clause-stored g c =
    let D = g.D.Disk in
    stores-checkpoint c.args.history.now c.args.entry.now c.args.state.now c.requires.event c.requires.outside (c.requires.asks ∙ ap (λ (asked : Statement). Run asked) c.in-Checkpoint.is) c.requires.took
    D.holds D.leaves D.moment D.might_have_left D.honest D.faults c.args.store.now c.checkpoint.new.store c.checkpoint.result c.checkpoint.ensures.carried c.checkpoint.ensures.unchanged

-- a statement that runs by itself
pub answer-requires : goal.answer-requires
answer-requires g c = record {
  sound = sound-event c.args.history.now c.args.entry.now c.args.state.now c.requires.event;
  stands = c.requires.event.stands;
  written = written-event c.args.history.now c.args.entry.now c.args.state.now c.args.statement.now c.requires.event c.requires.asks;
  itself = runs-itself c.args.statement.now c.in_default.not-Checkpoint c.in_default.not-Begin c.in_default.not-Commit c.in_default.not-Rollback;
  changes = c.requires.changes;
}

-- an image that is prepared has a commit more than there are
pub install-requires : goal.install-requires
install-requires g c =
    let asked = c.args.statement.now in
    let itself = runs-itself asked c.in_default.not-Checkpoint c.in_default.not-Begin c.in_default.not-Commit c.in_default.not-Rollback in
    let tells = c.in_ok-answer-in_default.ensures.tells in
    record {
      sound = sound-event c.args.history.now c.args.entry.now c.args.state.now c.requires.event;
      weighs = c.requires.event.stands.weighs;
      may = tells.may;
      numbered = subst (λ number. IsNumbered (number + 1) c.in_ok-answer-in_default.answer.next) c.commits.ensures
          (numbered-as _ c.in_ok-answer-in_default.answer.next _ tells.writes (numbered-by asked itself c.args.state.now.version (run c.args.state.now.version asked).db c.commits.result));
      store = c.requires.store;
    }

pub returns-in_ok-answer-in_default-clause-served : goal.returns-in_ok-answer-in_default-clause-served
returns-in_ok-answer-in_default-clause-served g c =
    serves-result c.args.history.now c.args.entry.now c.args.state.now c.install.new.state c.requires.event _ refl c.args.statement.now c.requires.asks
    (runs-itself c.args.statement.now c.in_default.not-Checkpoint c.in_default.not-Begin c.in_default.not-Commit c.in_default.not-Rollback) c.requires.outside
    c.in_ok-answer-in_default.answer _ c.in_ok-answer-in_default.ensures.tells c.in_ok-answer-in_default.ensures.erases c.install.result
    c.install.ensures.told c.install.ensures.version c.install.ensures.weighs c.install.ensures.doomed c.install.ensures.unchanged c.install.ensures.asked c.install.ensures.state_kept

pub returns-in_ok-answer-in_default-clause-stored : goal.returns-in_ok-answer-in_default-clause-stored
returns-in_ok-answer-in_default-clause-stored g c =
    let D = g.D.Disk in
    stores-result c.args.history.now c.args.entry.now c.args.state.now c.install.new.state c.requires.event _ refl c.args.statement.now c.requires.asks
    (runs-itself c.args.statement.now c.in_default.not-Checkpoint c.in_default.not-Begin c.in_default.not-Commit c.in_default.not-Rollback) c.requires.outside
    c.in_ok-answer-in_default.answer _ c.in_ok-answer-in_default.ensures.tells c.requires.took
    D.holds D.leaves D.moment D.might_have_left D.honest D.faults c.args.store.now c.install.new.store c.commits.ensures c.install.result c.install.ensures.carried c.install.ensures.store_kept
