use Rattle.std.proofs.Common.{ap, inl, inr, refl}
use Rattle.own_model.specs.declared.refusal.Refusal.TheVariants as refusal
use Rattle.own_model.specs.declared.reply.Reply.TheVariants.{Ended, Refused}
use Rattle.own_model.specs.declared.history.Verdict.TheVariants.{Took}
use Rattle.history_model.specs.AsksDisk.{under}
use Rattle.engine_core.specs.declared.came.Came.TheVariants.{Replied}
use Rattle.history_model.specs.Commits.{is_create}
use Rattle.history_model.specs.History.{world}
use Rattle.txn_core.proofs.Statements.{none_moved}
use Rattle.engine_core.proofs.Decided.{event-under, serves-alone, stores-alone}
use Rattle.engine_core.proofs.LookEvents.{comes-as, no-look-prompt}
use Rattle.engine_core.proofs.PromptEvents.{serves-end, serves-limit, serves-syntax}
use Rattle.engine_core.proofs.serving.serve_undoomed.Goals as goal

-- a text that the reader refused
pub returns-in-Syntax-clause-served : goal.returns-in-Syntax-clause-served
returns-in-Syntax-clause-served g c =
    serves-alone c.args.history.now c.args.entry.now c.args.state.now c.args.state.now c.requires.event (Refused (refusal.Syntax c.in-Syntax.byte))
    (λ verdict. serves-syntax c.args.history.now (under verdict c.args.entry.now) c.args.state.now c.args.state.now (event-under c.args.history.now c.args.entry.now c.args.state.now verdict c.requires.event) refl refl c.requires.undoomed _ c.in-Syntax.is (none_moved c.args.state.now.txns)) refl

pub returns-in-Syntax-clause-stored : goal.returns-in-Syntax-clause-stored
returns-in-Syntax-clause-stored g c =
    let D = g.D.Disk in
    stores-alone c.args.history.now c.args.entry.now c.args.state.now c.args.state.now c.requires.event (Refused (refusal.Syntax c.in-Syntax.byte))
    (λ verdict. serves-syntax c.args.history.now (under verdict c.args.entry.now) c.args.state.now c.args.state.now (event-under c.args.history.now c.args.entry.now c.args.state.now verdict c.requires.event) refl refl c.requires.undoomed _ c.in-Syntax.is (none_moved c.args.state.now.txns)) refl
    c.requires.took refl (inl refl) D.holds D.leaves D.moment D.might_have_left g.met.D.Disk.only_now D.honest D.faults c.args.store.now c.requires.store

-- a text past a limit
pub returns-in-Limit-clause-served : goal.returns-in-Limit-clause-served
returns-in-Limit-clause-served g c =
    serves-alone c.args.history.now c.args.entry.now c.args.state.now c.args.state.now c.requires.event (Refused (refusal.Limit c.in-Limit.limit))
    (λ verdict. serves-limit c.args.history.now (under verdict c.args.entry.now) c.args.state.now c.args.state.now (event-under c.args.history.now c.args.entry.now c.args.state.now verdict c.requires.event) refl refl c.requires.undoomed _ c.in-Limit.is (none_moved c.args.state.now.txns)) refl

pub returns-in-Limit-clause-stored : goal.returns-in-Limit-clause-stored
returns-in-Limit-clause-stored g c =
    let D = g.D.Disk in
    stores-alone c.args.history.now c.args.entry.now c.args.state.now c.args.state.now c.requires.event (Refused (refusal.Limit c.in-Limit.limit))
    (λ verdict. serves-limit c.args.history.now (under verdict c.args.entry.now) c.args.state.now c.args.state.now (event-under c.args.history.now c.args.entry.now c.args.state.now verdict c.requires.event) refl refl c.requires.undoomed _ c.in-Limit.is (none_moved c.args.state.now.txns)) refl
    c.requires.took refl (inl refl) D.holds D.leaves D.moment D.might_have_left g.met.D.Disk.only_now D.honest D.faults c.args.store.now c.requires.store

-- the end of a session
pub returns-in-End-clause-served : goal.returns-in-End-clause-served
returns-in-End-clause-served g c =
    serves-alone c.args.history.now c.args.entry.now c.args.state.now _ c.requires.event (Ended)
    (λ verdict. serves-end c.args.history.now (under verdict c.args.entry.now) c.args.state.now _ (event-under c.args.history.now c.args.entry.now c.args.state.now verdict c.requires.event) refl refl c.requires.undoomed c.in-End.is c.finish.ensures.others c.finish.ensures.outside c.finish.ensures.free) refl

pub returns-in-End-clause-stored : goal.returns-in-End-clause-stored
returns-in-End-clause-stored g c =
    let D = g.D.Disk in
    stores-alone c.args.history.now c.args.entry.now c.args.state.now (record (c.args.state.now) { txns = c.finish.new.self }) c.requires.event (Ended)
    (λ verdict. serves-end c.args.history.now (under verdict c.args.entry.now) c.args.state.now _ (event-under c.args.history.now c.args.entry.now c.args.state.now verdict c.requires.event) refl refl c.requires.undoomed c.in-End.is c.finish.ensures.others c.finish.ensures.outside c.finish.ensures.free) refl
    c.requires.took refl (inr (ap is_create c.in-End.is)) D.holds D.leaves D.moment D.might_have_left g.met.D.Disk.only_now D.honest D.faults c.args.store.now c.requires.store

pub returns-in-Syntax-clause-comes : goal.returns-in-Syntax-clause-comes
returns-in-Syntax-clause-comes g c =
    comes-as c.args.at_once (world c.args.state.now.opened c.args.history.now) c.args.entry.now (Replied Took (Refused (refusal.Syntax c.in-Syntax.byte))) tt
    (no-look-prompt (world c.args.state.now.opened c.args.history.now) c.args.entry.now _ c.in-Syntax.is tt)

pub returns-in-Limit-clause-comes : goal.returns-in-Limit-clause-comes
returns-in-Limit-clause-comes g c =
    comes-as c.args.at_once (world c.args.state.now.opened c.args.history.now) c.args.entry.now (Replied Took (Refused (refusal.Limit c.in-Limit.limit))) tt
    (no-look-prompt (world c.args.state.now.opened c.args.history.now) c.args.entry.now _ c.in-Limit.is tt)

pub returns-in-End-clause-comes : goal.returns-in-End-clause-comes
returns-in-End-clause-comes g c =
    comes-as c.args.at_once (world c.args.state.now.opened c.args.history.now) c.args.entry.now (Replied Took Ended) tt
    (no-look-prompt (world c.args.state.now.opened c.args.history.now) c.args.entry.now _ c.in-End.is tt)
