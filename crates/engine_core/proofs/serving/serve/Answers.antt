use Rattle.std.proofs.Common.{◌∙◌, inl, refl, sym}
use Rattle.own_model.specs.declared.refusal.Refusal.TheVariants.{Doomed}
use Rattle.own_model.specs.declared.reply.Reply.TheVariants.{Refused}
use Rattle.own_model.specs.declared.history.Verdict.TheVariants.{Took}
use Rattle.history_model.specs.AsksDisk.{under}
use Rattle.history_model.specs.History.{world}
use Rattle.engine_core.specs.declared.came.Came.TheVariants.{Replied}
use Rattle.engine_core.proofs.CalmEvents.{all-same, event-kept}
use Rattle.engine_core.proofs.Decided.{event-under, serves-alone, stores-alone}
use Rattle.engine_core.proofs.LookEvents.{comes-as, no-look-doomed}
use Rattle.engine_core.proofs.PromptEvents.{serves-doomed}
use Rattle.engine_core.proofs.Stood.{kept-undoomed}
use Rattle.engine_core.proofs.serving.serve.Goals as goal

-- a doom is told
pub returns-in-Some-clause-served : goal.returns-in-Some-clause-served
returns-in-Some-clause-served g c =
    serves-alone c.args.history.now c.args.entry.now c.args.state.now _ c.requires.event (Refused (Doomed c.in-Some.place))
    (λ verdict. serves-doomed c.args.history.now (under verdict c.args.entry.now) c.args.state.now _ (event-under c.args.history.now c.args.entry.now c.args.state.now verdict c.requires.event) refl refl
    c.in-Some.place (sym c.tell_doom.ensures.told ∙ c.in-Some.is) c.tell_doom.ensures.others c.tell_doom.ensures.once c.tell_doom.ensures.held) refl

pub returns-in-Some-clause-stored : goal.returns-in-Some-clause-stored
returns-in-Some-clause-stored g c =
    let D = g.D.Disk in
    stores-alone c.args.history.now c.args.entry.now c.args.state.now (record (c.args.state.now) { txns = c.tell_doom.new.self }) c.requires.event (Refused (Doomed c.in-Some.place))
    (λ verdict. serves-doomed c.args.history.now (under verdict c.args.entry.now) c.args.state.now _ (event-under c.args.history.now c.args.entry.now c.args.state.now verdict c.requires.event) refl refl
    c.in-Some.place (sym c.tell_doom.ensures.told ∙ c.in-Some.is) c.tell_doom.ensures.others c.tell_doom.ensures.once c.tell_doom.ensures.held) refl
    c.requires.took refl (inl refl) D.holds D.leaves D.moment D.might_have_left g.met.D.Disk.only_now D.honest D.faults c.args.store.now c.requires.store

pub returns-in-Some-clause-comes : goal.returns-in-Some-clause-comes
returns-in-Some-clause-comes g c =
    comes-as c.args.at_once (world c.args.state.now.opened c.args.history.now) c.args.entry.now (Replied Took (Refused (Doomed c.in-Some.place))) tt
    (no-look-doomed c.args.history.now c.args.entry.now c.args.state.now c.requires.event c.in-Some.place (sym c.tell_doom.ensures.told ∙ c.in-Some.is))

-- where there is none, the state is as it was
pub serve_undoomed-requires-clause-event : goal.serve_undoomed-requires-clause-event
serve_undoomed-requires-clause-event g c =
    event-kept c.args.history.now c.args.entry.now c.args.state.now _ refl refl refl
    (all-same c.args.entry.now.session.0 c.args.state.now.txns c.tell_doom.new.self c.tell_doom.ensures.others
    (c.tell_doom.ensures.once ∙ kept-undoomed _ (sym c.tell_doom.ensures.told ∙ c.in-None.is)) c.tell_doom.ensures.held)
    c.requires.event
