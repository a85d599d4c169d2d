use Rattle.std.proofs.Common.{◌∙◌, ap, inl, inr, refl, subst, sym}
use Rattle.own_model.specs.declared.refusal.Refusal.TheVariants as refusal
use Rattle.own_model.specs.declared.reply.Reply.TheVariants.{Done, Refused}
use Rattle.own_model.specs.declared.request.Request.TheVariants.{Run}
use Rattle.own_model.specs.declared.statement.Statement.{Statement}
use Rattle.history_model.specs.AsksDisk.{asks_disk, under}
use Rattle.history_model.specs.History.{happens, world}
use Rattle.history_model.specs.Reply.{answer}
use Rattle.engine_core.specs.Stored.{IsUp}
use Rattle.history_model.specs.Commits.{is_commit, is_create}
use Rattle.txn_core.proofs.Statements.{none_moved}
use Rattle.engine_core.proofs.Carried.{carries-same}
use Rattle.engine_core.proofs.Decided.{event-under, serves-alone, serves-took, stores-alone}
use Rattle.engine_core.proofs.OutsideReplies.{takes-place}
use Rattle.engine_core.proofs.PromptEvents.{serves-inside, serves-rollback}
use Rattle.engine_core.proofs.StatedEvents.{calm-stated, unasked-stated, uncommitted-stated}
use Rattle.engine_core.proofs.inside.serve_inside.Goals as goal

-- what has no place in a transaction
pub returns-then-not-has_place_inside-clause-served : goal.returns-then-not-has_place_inside-clause-served
returns-then-not-has_place_inside-clause-served g c =
    serves-alone c.args.history.now c.args.entry.now c.args.state.now c.args.state.now c.requires.event (Refused refusal.Inside)
    (λ verdict. serves-inside c.args.history.now (under verdict c.args.entry.now) c.args.state.now c.args.state.now (event-under c.args.history.now c.args.entry.now c.args.state.now verdict c.requires.event) refl refl c.requires.open c.args.statement.now c.requires.asks
    (sym c.if-not-has_place_inside.ensures) (none_moved c.args.state.now.txns)) refl

pub returns-then-not-has_place_inside-clause-stored : goal.returns-then-not-has_place_inside-clause-stored
returns-then-not-has_place_inside-clause-stored g c =
    let D = g.D.Disk in
    stores-alone c.args.history.now c.args.entry.now c.args.state.now c.args.state.now c.requires.event (Refused refusal.Inside)
    (λ verdict. serves-inside c.args.history.now (under verdict c.args.entry.now) c.args.state.now c.args.state.now (event-under c.args.history.now c.args.entry.now c.args.state.now verdict c.requires.event) refl refl c.requires.open c.args.statement.now c.requires.asks
    (sym c.if-not-has_place_inside.ensures) (none_moved c.args.state.now.txns)) refl
    c.requires.took refl (inl refl) D.holds D.leaves D.moment D.might_have_left g.met.D.Disk.only_now D.honest D.faults c.args.store.now c.requires.store

-- ROLLBACK
pub returns-in-Rollback-clause-served : goal.returns-in-Rollback-clause-served
returns-in-Rollback-clause-served g c =
    serves-alone c.args.history.now c.args.entry.now c.args.state.now _ c.requires.event (Done)
    (λ verdict. serves-rollback c.args.history.now (under verdict c.args.entry.now) c.args.state.now _ (event-under c.args.history.now c.args.entry.now c.args.state.now verdict c.requires.event) refl refl c.requires.open
    (c.requires.asks ∙ ap (λ (asked : Statement). Run asked) c.in-Rollback.is) c.finish.ensures.others c.finish.ensures.outside c.finish.ensures.free) refl

pub returns-in-Rollback-clause-stored : goal.returns-in-Rollback-clause-stored
returns-in-Rollback-clause-stored g c =
    let D = g.D.Disk in
    stores-alone c.args.history.now c.args.entry.now c.args.state.now (record (c.args.state.now) { txns = c.finish.new.self }) c.requires.event (Done)
    (λ verdict. serves-rollback c.args.history.now (under verdict c.args.entry.now) c.args.state.now _ (event-under c.args.history.now c.args.entry.now c.args.state.now verdict c.requires.event) refl refl c.requires.open
    (c.requires.asks ∙ ap (λ (asked : Statement). Run asked) c.in-Rollback.is) c.finish.ensures.others c.finish.ensures.outside c.finish.ensures.free) refl
    c.requires.took refl (inr (ap is_create (c.requires.asks ∙ ap (λ (asked : Statement). Run asked) c.in-Rollback.is))) D.holds D.leaves D.moment D.might_have_left g.met.D.Disk.only_now D.honest D.faults c.args.store.now c.requires.store

pub serve_stated-requires-clause-takes : goal.serve_stated-requires-clause-takes
serve_stated-requires-clause-takes g c = takes-place c.args.statement.now (sym c.if-not-has_place_inside.ensures) c.in_default.not-Commit c.in_default.not-Rollback

-- a statement that takes rows
pub returns-in_ok-serve_stated-in_default : goal.returns-in_ok-serve_stated-in_default
returns-in_ok-serve_stated-in_default g c =
    let D = g.D.Disk in
    let now = world c.args.state.now.opened c.args.history.now in
    let takes = takes-place c.args.statement.now (sym c.if-not-has_place_inside.ensures) c.in_default.not-Commit c.in_default.not-Rollback in
    record {
      served = serves-took c.args.state.now.opened c.serve_stated.new.state c.args.history.now c.args.entry.now c.in_ok-serve_stated-in_default.field-0 c.requires.took c.requires.event.up
          c.in_ok-serve_stated-in_default.ensures.served;
      stored = carries-same D.holds D.leaves D.moment D.might_have_left g.met.D.Disk.only_now D.honest D.faults c.args.store.now now.flat (happens now c.args.entry.now).flat
          (asks_disk now c.args.entry.now) (is_commit now c.args.entry.now (answer now c.args.entry.now))
          (subst (λ db. IsUp D.holds D.leaves D.honest c.args.store.now db) c.requires.event.stands.flat c.requires.store)
          (calm-stated c.args.history.now c.args.entry.now c.args.state.now c.requires.event c.requires.open c.args.statement.now c.requires.asks takes)
          (unasked-stated c.args.history.now c.args.entry.now c.args.state.now c.requires.event c.requires.open c.args.statement.now c.requires.asks takes)
          (uncommitted-stated c.args.history.now c.args.entry.now c.args.state.now c.requires.event c.requires.open c.args.statement.now c.requires.asks takes);
      opened = c.serve_stated.ensures.opened;
    }
